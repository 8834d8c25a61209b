-- Where two lines cross, and the form of the line through two points.
use Rattle.std.specs.Prelude.{◌≡◌, ◌⊎◌, ◌^◌, List, [], ◌∷◌, pos, ◌+ℤ◌, ◌-ℤ◌, ◌*ℤ◌}
use Rattle.srs_num.specs.Points.{Point, LinearForm, value, IsPointWithin}

-- where the lines of two forms cross, up to the sign of its three numbers; d is 0 where they are
-- parallel
unfoldable pub meet : LinearForm → LinearForm → Point
meet f g = record {
  p = f.b *ℤ g.c -ℤ f.c *ℤ g.b;
  q = f.c *ℤ g.a -ℤ f.a *ℤ g.c;
  d = f.a *ℤ g.b -ℤ f.b *ℤ g.a;
}

-- the form of the line from u to w, which is above 0 to the left of it
unfoldable pub edge_form : Point → Point → LinearForm
edge_form u w = record {
  a = u.q *ℤ w.d -ℤ u.d *ℤ w.q;
  b = u.d *ℤ w.p -ℤ u.p *ℤ w.d;
  c = u.p *ℤ w.q -ℤ u.q *ℤ w.p;
}

-- the numbers of u and w added up, which gives a point between the two
unfoldable pub plus : Point → Point → Point
plus u w = record { p = u.p +ℤ w.p; q = u.q +ℤ w.q; d = u.d +ℤ w.d }

-- the numbers of all the points added up, which gives a point among them
unfoldable pub sum_of : List Point → Point
sum_of [] = record { p = pos 0; q = pos 0; d = pos 0 }
sum_of (c ∷ cs) = plus c (sum_of cs)

-- both forms are 0 at the point c
pub record IsCrossing (f g : LinearForm) (c : Point) : Type 0 where
  pub first : value f c ≡ pos 0
  pub second : value g c ≡ pos 0
  pub sized : IsPointWithin (2 ^ 77) c
  pub way : (c ≡ meet f g) ⊎ (c ≡ meet g f)
