-- What each outcome claims of a region.
use Rattle.std.specs.Prelude.{ℕ, length, ⊤}
use Rattle.srs_num.specs.Points.{Point}
use Rattle.srs_map.specs.Step.{pair}
use Rattle.srs_map.specs.Finiteness.{IsFinite, Recurs}
use Rattle.srs_plane.specs.Regions.{Area, IsIn, Divides}
use Rattle.srs_path.specs.declared.outcomes.Why.{Why}
use Rattle.srs_path.specs.declared.outcomes.Why.TheVariants.{Cycle as CycleFails, Witness as WitnessFails}
use Rattle.srs_path.specs.declared.outcomes.Cause.TheVariants.{Depth, Cells, Thin, Memory}
use Rattle.srs_path.specs.declared.outcomes.Outcome.{Outcome}
use Rattle.srs_path.specs.declared.outcomes.Outcome.TheVariants.{Inside, Outside, Cut, Left}
use Rattle.srs_path.specs.Witnesses.{IsSmall}
use Rattle.srs_path.specs.Core.{HasCore}
use Rattle.srs_path.specs.Cutout.{entry_at}
use Rattle.srs_path.specs.GridLine.{HasNoGridLine}

-- what it claims that a region was left open: it is small and has a core, or it isn't small
abbrev pub IsLeftOpen : Area → ℕ → Why → Type 0
IsLeftOpen R W CycleFails = IsSmall R W × HasCore R
IsLeftOpen R W WitnessFails = IsSmall R W → ⊥

-- inside: each point is finite; outside: at each point the pair (a_0, a_1) recurs with the length
-- of the cycle as its
-- period; cut: the form divides; left open: as above; thin: not small, and no grid line; want of
-- memory: nothing
abbrev pub IsSound : Area → ℕ → Outcome → Type 0
IsSound R W (Inside entries) = (r : Point) → IsIn R r → IsFinite r
IsSound R W (Outside c) = (r : Point) → IsIn R r → Recurs r (pair (entry_at c 0) (entry_at c 1))
    (length c)
IsSound R W (Cut h) = Divides R h
IsSound R W (Left (Depth why)) = IsLeftOpen R W why
IsSound R W (Left (Cells why)) = IsLeftOpen R W why
IsSound R W (Left Thin) = (IsSmall R W → ⊥) × HasNoGridLine R
IsSound R W (Left Memory) = ⊤
