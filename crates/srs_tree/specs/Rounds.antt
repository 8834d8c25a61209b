-- Whole trees, rounds, plans, and histories that keep to a plan.
use Rattle.std.specs.Prelude.{◌≡◌, ◌≢◌, ◌⊎◌, ℕ, ◌<◌, ◌==◌, nat_le, List, [], ◌∷◌, ◌++◌, length, take, slice_get, count_by, Contains, IsSome, Some}
use Rattle.std.specs.List.{flat_map}
use Rattle.std.specs.List.Sorted.{IsNonDecreasingBy}
use Rattle.std.specs.declared.option.Option.{Option}
use Rattle.srs_plane.specs.Regions.{Area}
use Rattle.srs_path.specs.declared.paths.Side.{Side}
use Rattle.srs_path.specs.declared.paths.Side.TheVariants.{Ge, Lt}
use Rattle.srs_path.specs.declared.outcomes.Outcome.{Outcome}
use Rattle.srs_path.specs.declared.outcomes.Outcome.TheVariants.{Inside, Outside, Cut, Left}
use Rattle.srs_path.specs.declared.outcomes.Cause.TheVariants.{Memory}
use Rattle.srs_path.specs.declared.limits.Last.{Last}
use Rattle.srs_path.specs.Views.{Budget, Entry, last_of}
use Rattle.srs_path.specs.Refinement.{Refines}
use Rattle.srs_tree.specs.Tree.{History, outcome_at, IsCellOf, region_at}
use Rattle.srs_tree.specs.Legality.{IsLegal}

-- the two parts of a cut, Ge first; other events have none
abbrev pub parts_by : List Side → Outcome → List (List Side)
parts_by path (Inside ranks) = []
parts_by path (Outside cycle) = []
parts_by path (Cut h) = (path ++ Ge ∷ []) ∷ (path ++ Lt ∷ []) ∷ []
parts_by path (Left cause) = []

-- all cells of H: the root, and the parts of each cut
abbrev pub cells_of : History → List (List Side)
cells_of H = [] ∷ flat_map (λ e. parts_by e.path e.outcome) H

-- how many cells of H have paths of length at most k
abbrev pub upto : History → ℕ → ℕ
upto H k = count_by (λ path. nat_le (length path) k) (cells_of H)

-- how many cells of H have paths of length k
abbrev pub row_of : History → ℕ → ℕ
row_of H k = count_by (λ path. length path == k) (cells_of H)

-- which limit is spent for the cells of H with paths of length k
abbrev pub last_in : Budget → History → ℕ → Option Last
last_in L H k = last_of L k (upto H k) (row_of H k)

-- the event has no memory, or the outcome of its cell, where H is the history whose cells are counted
abbrev pub IsByPlan : Area → Budget → History → Entry → Type 0
IsByPlan Root L H e = (e.outcome ≡ Left Memory) ⊎ Refines (region_at Root (outcome_at H) e.path) (last_in L H (length e.path)) L.wits e.outcome

-- each cell has its event, by the plan
pub record IsWhole (Root : Area) (L : Budget) (H : History) : Type 0 where
  pub legal : IsLegal Root L.wits H
  pub each_cell : (path : List Side) → IsCellOf (outcome_at H) path → IsSome (outcome_at H path)
  pub each_event : (e : Entry) → Contains H e → IsByPlan Root L H e

-- along H the lengths of the paths never fall
abbrev pub IsInRounds : History → Type 0
IsInRounds H = IsNonDecreasingBy (λ e. length e.path) H

-- H has the entries of the plan
pub record IsPlan (Root : Area) (L : Budget) (H : History) : Type 0 where
  pub whole : IsWhole Root L H
  pub no_memory : (e : Entry) → Contains H e → e.outcome ≢ Left Memory

-- two histories have the same entries
abbrev pub HaveSameEntries : History → History → Type 0
HaveSameEntries G H = (path : List Side) → outcome_at G path ≡ outcome_at H path

-- each cell of H on a path shorter than k has its event
pub record AreRowsDone (H : History) (k : ℕ) : Type 0 where
  pub each : (path : List Side) → IsCellOf (outcome_at H) path → length path < k → IsSome (outcome_at H path)

-- e may come next after G by the plan: each cell on a shorter path has its event
pub record MayComeNext (Root : Area) (L : Budget) (G : History) (e : Entry) : Type 0 where
  pub rows_done : (path : List Side) → IsCellOf (outcome_at G) path → length path < length e.path → IsSome (outcome_at G path)
  pub by_plan : IsByPlan Root L G e

-- each event comes by the plan
pub record IsPlanned (Root : Area) (L : Budget) (H : History) : Type 0 where
  pub legal : IsLegal Root L.wits H
  pub each : (k : ℕ) (e : Entry) → slice_get H k ≡ Some e → MayComeNext Root L (take k H) e

-- the statement that there is one plan at most
abbrev pub PlansAreSame : Type 0
PlansAreSame = (Root : Area) (L : Budget) (G H : History) → IsPlan Root L G → IsPlan Root L H → HaveSameEntries G H

-- the statement that a planned history in which each cell has an event is whole, and in rounds
abbrev pub PlannedIsWhole : Type 0
PlannedIsWhole =
    (Root : Area) (L : Budget) (H : History) → IsPlanned Root L H
    → ((path : List Side) → IsCellOf (outcome_at H) path → IsSome (outcome_at H path)) → IsWhole Root L H × IsInRounds H
