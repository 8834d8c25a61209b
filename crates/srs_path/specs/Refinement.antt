-- The outcome of a region, by the table of refinement: the first row that applies.
use Rattle.std.specs.Prelude.{◌≡◌, ◌⊎◌, ℕ, ℤ, List, Some, None}
use Rattle.std.specs.declared.option.Option.{Option}
use Rattle.srs_num.specs.declared.pairs.V2.{V2}
use Rattle.srs_num.specs.Points.{LinearForm}
use Rattle.srs_plane.specs.Regions.{Area}
use Rattle.srs_path.specs.declared.outcomes.Why.{Why}
use Rattle.srs_path.specs.declared.outcomes.Why.TheVariants.{Cycle as CycleFails, Witness as WitnessFails}
use Rattle.srs_path.specs.declared.outcomes.Cause.TheVariants.{Depth, Cells, Thin, Memory}
use Rattle.srs_path.specs.declared.outcomes.Outcome.{Outcome}
use Rattle.srs_path.specs.declared.outcomes.Outcome.TheVariants.{Inside, Outside, Cut, Left}
use Rattle.srs_path.specs.declared.limits.Last.{Last}
use Rattle.srs_path.specs.declared.limits.Last.TheVariants.{Depth as AtDepth, Cells as AtCells}
use Rattle.srs_path.specs.Witnesses.{IsSmall}
use Rattle.srs_path.specs.Core.{HasNoCore, AreRanks}
use Rattle.srs_path.specs.ChosenCycle.{IsChosen}
use Rattle.srs_path.specs.Cutout.{Covers, cutout_of, IsFirstDividing}
use Rattle.srs_path.specs.GridLine.{IsFirstGridLine, HasNoGridLine}

-- R is small, and no walk over nonzero pairs goes on for ever
pub record GivesInside (R : Area) (W : ℕ) (entries : List (V2 × ℕ)) : Type 0 where
  pub small : IsSmall R W
  pub no_core : HasNoCore R
  pub ranks : AreRanks R entries

-- R is small, and its chosen cycle covers it
pub record GivesOutside (R : Area) (W : ℕ) (cycle : List ℤ) : Type 0 where
  pub small : IsSmall R W
  pub chosen : IsChosen R cycle
  pub covers : Covers R cycle

-- R is small, and its chosen cycle doesn't cover it
pub record CycleFailsOn (R : Area) (W : ℕ) (cycle : List ℤ) : Type 0 where
  pub small : IsSmall R W
  pub chosen : IsChosen R cycle
  pub uncovered : Covers R cycle → ⊥

-- R stays open, and why: its chosen cycle doesn't cover it, or it isn't small
abbrev pub StaysOpen : Area → ℕ → Why → Type 0
StaysOpen R W CycleFails = (cycle : List ℤ) × CycleFailsOn R W cycle
StaysOpen R W WitnessFails = IsSmall R W → ⊥

-- the first dividing form of the cutout of the chosen cycle, which doesn't cover R
pub record CutsByCycle (R : Area) (W : ℕ) (h : LinearForm) : Type 0 where
  pub cycle : List ℤ
  pub fails : CycleFailsOn R W cycle
  pub first : IsFirstDividing R (cutout_of cycle) h

-- the first grid line of R, which isn't small
pub record CutsByGrid (R : Area) (W : ℕ) (h : LinearForm) : Type 0 where
  pub large : IsSmall R W → ⊥
  pub first : IsFirstGridLine R h

-- R isn't small, and no grid line divides it
pub record GivesThin (R : Area) (W : ℕ) : Type 0 where
  pub large : IsSmall R W → ⊥
  pub no_line : HasNoGridLine R

-- o is the outcome of R, where `last` says whether the depth or the cells are spent
abbrev pub Refines : Area → Option Last → ℕ → Outcome → Type 0
Refines R last W (Inside entries) = GivesInside R W entries
Refines R last W (Outside cycle) = GivesOutside R W cycle
Refines R last W (Left (Depth why)) = (last ≡ Some AtDepth) × StaysOpen R W why
Refines R last W (Left (Cells why)) = (last ≡ Some AtCells) × StaysOpen R W why
Refines R last W (Cut h) = (last ≡ None) × (CutsByCycle R W h ⊎ CutsByGrid R W h)
Refines R last W (Left Thin) = (last ≡ None) × GivesThin R W
Refines R last W (Left Memory) = ⊥
