-- The shift radix map of a parameter, and its n-fold use.
use Rattle.std.specs.Prelude.{ℕ, zero, suc, ℤ, pos, neg_ℤ, ◌+ℤ◌, ◌*ℤ◌}
use Rattle.srs_num.specs.declared.pairs.V2.{V2}
use Rattle.srs_num.specs.Points.{Point, IsWithin}
use Rattle.srs_num.specs.Floor.{floor_quotient}
use Rattle.srs_map.specs.declared.steps.TheConstants.{MOST_ENTRY}

abbrev pub pair : ℤ → ℤ → V2
pair a b = record { a = a; b = b }

abbrev pub origin : V2
origin = pair (pos 0) (pos 0)

-- the pair on the other side of (0, 0)
abbrev pub minus : V2 → V2
minus z = pair (neg_ℤ z.a) (neg_ℤ z.b)

-- the sum of two pairs
abbrev pub plus : V2 → V2 → V2
plus z w = pair (z.a +ℤ w.a) (z.b +ℤ w.b)

-- the step T of the parameter (p / d, q / d): (a, b) goes to (b, -floor((p*a + q*b) / d))
abbrev pub step_of : Point → V2 → V2
step_of r z = pair z.b (neg_ℤ (floor_quotient (r.p *ℤ z.a +ℤ r.q *ℤ z.b) r.d))

-- where n steps lead
abbrev pub after : ℕ → Point → V2 → V2
after zero r z = z
after (suc n) r z = step_of r (after n r z)

-- both entries are within the most that they may be
abbrev pub IsNarrow : V2 → Type 0
IsNarrow w = IsWithin MOST_ENTRY w.a × IsWithin MOST_ENTRY w.b
