-- Weighted sums of forms and of points.
use Rattle.std.proofs.Common.{ℤ, pos, ◌+ℤ◌, ◌*ℤ◌}
use Rattle.srs_num.specs.Points.{LinearForm, Point}

unfoldable pub combine : ℤ → LinearForm → ℤ → LinearForm → LinearForm
combine k f l g = record { a = k *ℤ f.a +ℤ l *ℤ g.a; b = k *ℤ f.b +ℤ l *ℤ g.b; c = k *ℤ f.c +ℤ l *ℤ g.c }

unfoldable pub mix : ℤ → Point → ℤ → Point → Point
mix k u l w = record { p = k *ℤ u.p +ℤ l *ℤ w.p; q = k *ℤ u.q +ℤ l *ℤ w.q; d = k *ℤ u.d +ℤ l *ℤ w.d }

-- the form whose value is d
unfoldable pub depth : LinearForm
depth = record { a = pos 0; b = pos 0; c = pos 1 }
