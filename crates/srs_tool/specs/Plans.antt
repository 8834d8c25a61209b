-- What a whole history decides.
use Rattle.std.specs.Prelude.{◌≢◌, Contains}
use Rattle.srs_plane.specs.Regions.{Area}
use Rattle.srs_path.specs.declared.outcomes.Outcome.TheVariants.{Left}
use Rattle.srs_path.specs.declared.outcomes.Cause.TheVariants.{Memory}
use Rattle.srs_path.specs.Views.{Budget, Entry}
use Rattle.srs_path.specs.Soundness.{IsSound}
use Rattle.srs_tree.specs.Tree.{History, outcome_at, region_at, IsPartition}
use Rattle.srs_tree.specs.Rounds.{IsWhole}

-- no cell of H was left for want of memory
abbrev pub HasNoMemory : History → Type 0
HasNoMemory H = (e : Entry) → Contains H e → e.outcome ≢ Left Memory

-- H is whole within the limits: the plan of the region, where no cell was left for want of memory. Its
-- leaves partition the region, and what each outcome claims holds of its cell: inside, each point is
-- finite; outside, at each point the printed pair recurs; cut, the form divides the cell
pub record Decides (Root : Area) (b : Budget) (H : History) : Type 0 where
  pub whole : IsWhole Root b H
  pub partition : IsPartition Root (outcome_at H)
  pub sound : (e : Entry) → Contains H e
      → IsSound (region_at Root (outcome_at H) e.path) b.wits e.outcome
