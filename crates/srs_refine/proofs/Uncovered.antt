-- What follows where the chosen cycle breaks.
use Rattle.std.proofs.Common.{◌≡◌, ⊎_elim, ℕ, ◌+◌, ◌<◌, List, length, slice_get, ℤ, Option, Some, None, subst, arith}
use Rattle.srs_num.specs.Points.{LinearForm}
use Rattle.srs_plane.specs.Regions.{Area, Divides}
use Rattle.srs_path.specs.Witnesses.{IsSmall}
use Rattle.srs_path.specs.ChosenCycle.{IsChosen}
use Rattle.srs_path.specs.Cutout.{lower_form, upper_form, Breaks, cutout_of}
use Rattle.srs_path.specs.Refinement.{CycleFailsOn, CutsByCycle}
use Rattle.srs_path.proofs.Positive.{breaks_not_covers, one_divides}
use Rattle.srs_cut.specs.Judgement.{IsFirstBreak, IsFirstDivision}
use Rattle.srs_path.proofs.ChosenEdges.{holds_somewhere}
use Rattle.srs_cut.proofs.Twos.{twos_lower, twos_upper}

module _ (R : Area) (c : List ℤ) (u : IsChosen R c) where
  -- where a point breaks the cycle, a form of its cutout divides
  some_divides : (i : ℕ) → i < length c → Breaks R c i → ((k : ℕ) (g : LinearForm) → slice_get (cutout_of c) k ≡ Some g → Divides R g → ⊥) → ⊥
  some_divides i l b none =
      let t = holds_somewhere R c u i in
      ⊎_elim
      (λ d. none (i + i) (lower_form c i) (twos_lower (lower_form c) (upper_form c) 0 (length c) i i l (omega arith)) d)
      (λ d. none (i + i + 1) (upper_form c i) (twos_upper (lower_form c) (upper_form c) 0 (length c) i i l (omega arith)) d)
      (one_divides R c i t.0 t.1 t.2 b)

module _ (R : Area) (c : List ℤ) (u : IsChosen R c) (at : ℕ) (b : IsFirstBreak R c at) where
  pub cycle_fails : (W : ℕ) → IsSmall R W → CycleFailsOn R W c
  cycle_fails W s = record { small = s; chosen = u; uncovered = breaks_not_covers R c at b.there b.breaks }

  pub cycle_cuts : (W : ℕ) (divides : Option LinearForm) (h : LinearForm) → IsSmall R W → IsFirstDivision R (cutout_of c) divides → divides ≡ Some h → CutsByCycle R W h
  cycle_cuts W divides h s d e = record { cycle = c; fails = cycle_fails W s; first = subst (IsFirstDivision R (cutout_of c)) e d }

  pub cycle_divides : (divides : Option LinearForm) → IsFirstDivision R (cutout_of c) divides → divides ≡ None → ⊥
  cycle_divides divides d e = some_divides R c u at b.there b.breaks (subst (IsFirstDivision R (cutout_of c)) e d)
