-- What is found of a cycle and a region.
use Rattle.std.specs.Prelude.{◌≡◌, ◌⊎◌, ℕ, ◌<◌, ℤ, List, length, slice_get, Option, Some, None}
use Rattle.srs_num.specs.Points.{Point, LinearForm}
use Rattle.srs_plane.specs.Regions.{Area, IsIn, Divides}
use Rattle.srs_path.specs.Cutout.{lower_form, upper_form, HoldsAt, Covers, Breaks, cutout_of, IsFirstDividing}
use Rattle.srs_cut.specs.declared.judgement.Judged.{Judged}
use Rattle.srs_cut.specs.declared.judgement.Judged.TheVariants.{Covers as CoversAll, Fails}

-- at each point of R the cycle holds from its place i to the next
abbrev pub HoldsThrough : Area → List ℤ → ℕ → Type 0
HoldsThrough R c i = (r : Point) → IsIn R r → HoldsAt c r i

-- i is the least place at which a point of R breaks the cycle
pub record IsFirstBreak (R : Area) (c : List ℤ) (i : ℕ) : Type 0 where
  pub there : i < length c
  pub breaks : Breaks R c i
  pub holds_before : (j : ℕ) → j < i → HoldsThrough R c j

-- h is the first form of the list that divides R, or none does
abbrev pub IsFirstDivision : Area → List LinearForm → Option LinearForm → Type 0
IsFirstDivision R forms None = (k : ℕ) (g : LinearForm) → slice_get forms k ≡ Some g → Divides R g →
    ⊥
IsFirstDivision R forms (Some h) = IsFirstDividing R forms h

-- neither f_i nor f_i - 1 divides R
abbrev pub IsUndivided : Area → List ℤ → ℕ → Type 0
IsUndivided R c i = (Divides R (lower_form c i) → ⊥) × (Divides R (upper_form c i) → ⊥)

-- h is the first of f_i and f_i - 1 that divides R, or neither does
abbrev pub IsDivisionAt : Area → List ℤ → ℕ → Option LinearForm → Type 0
IsDivisionAt R c i None = IsUndivided R c i
IsDivisionAt R c i (Some h) =
    ((h ≡ lower_form c i) × Divides R h) ⊎ ((h ≡ upper_form c i) × (Divides R (lower_form c i) → ⊥)
    × Divides R h)

-- the cycle covers R, or where it breaks first, and the first form of its cutout that divides R
abbrev pub IsJudged : Area → List ℤ → Judged → Type 0
IsJudged R c CoversAll = Covers R c
IsJudged R c (Fails at divides) = IsFirstBreak R c at × IsFirstDivision R (cutout_of c) divides
