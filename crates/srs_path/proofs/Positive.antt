-- Facts that can be built from, beside the negations.
use Rattle.std.proofs.Common.{◌⊎◌, inl, inr, ℕ, ◌<◌, List, ℤ, arith, length}
use Rattle.srs_num.specs.Points.{Point}
use Rattle.srs_num.proofs.Linear.{linear}
use Rattle.srs_plane.specs.Regions.{Area, IsIn, Divides}
use Rattle.srs_path.specs.Cutout.{Covers, Breaks, HoldsAt, lower_form, upper_form}

pub breaks_not_covers : (R : Area) (c : List ℤ) (i : ℕ) → i < length c → Breaks R c i → Covers R c → ⊥
breaks_not_covers R c i l b k = elim b.2 [
  | inl n ↦ absurd (omega (arith, linear, n, (k b.0 b.1 i l).0))
  | inr p ↦ absurd (omega (arith, linear, p, (k b.0 b.1 i l).1))
]

-- where a point breaks the cycle at i and at another it holds there, one of the two forms divides
pub one_divides : (R : Area) (c : List ℤ) (i : ℕ) (r : Point) → IsIn R r → HoldsAt c r i → Breaks R c i → Divides R (lower_form c i) ⊎ Divides R (upper_form c i)
one_divides R c i r h holds b = elim b.2 [
  | inl n ↦ inl (record { not_below = (r, h, holds.0); below = (b.0, b.1, n) })
  | inr p ↦ inr (record { not_below = (b.0, b.1, p); below = (r, h, holds.1) })
]
