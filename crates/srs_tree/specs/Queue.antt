-- The cells that wait for an event, in the order of the frontier.
use Rattle.std.specs.Prelude.{◌≡◌, ◌≢◌, ℕ, not, List, [], ◌∷◌, ◌++◌, length, AllPairs, Contains, filter, fold, refl, Some, None}
use Rattle.std.specs.List.Sorted.{IsNonDecreasingBy}
use Rattle.std.specs.declared.option.Option.{Option}
use Rattle.srs_plane.specs.Regions.{Area}
use Rattle.srs_path.specs.declared.paths.Side.{Side}
use Rattle.srs_path.specs.Views.{Budget, Entry}
use Rattle.srs_tree.specs.Tree.{History, Tree, path_eq, outcome_at, region_at}
use Rattle.srs_tree.specs.Legality.{IsLegal}
use Rattle.srs_tree.specs.Rounds.{parts_by, IsPlanned, IsWhole, IsInRounds}
use Rattle.std.specs.Coded.{Coded, code_by, coded×, coded_list}
use Rattle.srs_plane.specs.contracts.halves.Half as half
use Rattle.srs_path.specs.contracts.paths.Side as side
use Rattle.srs_tree.specs.Snapshots.{Snapshot, snapshot_code, tree_of}
use Rattle.srs_tree.specs.Growth.{IsOpenIn}

-- the event takes its cell out, and a cut appends its Ge part and then its Lt part
abbrev pub queue_after : List (List Side) → Entry → List (List Side)
queue_after waiting e = filter (λ path. not (path_eq e.path path)) waiting ++ parts_by e.path e.outcome

-- the root alone, after each event of H in turn
abbrev pub queue_of : History → List (List Side)
queue_of H = fold queue_after ([] ∷ []) H

-- the paths are those of the cells of T without an event, each once
pub record AreOpenCells (T : Tree) (paths : List (List Side)) : Type 0 where
  pub to : (path : List Side) → Contains paths path → IsOpenIn T path
  pub from : (path : List Side) → IsOpenIn T path → Contains paths path
  pub once : AllPairs ◌≢◌ paths

-- the statement that the queue of a legal history has the cells without an event, each once
abbrev pub QueueIsOpen : Type 0
QueueIsOpen = (Root : Area) (W : ℕ) (H : History) → IsLegal Root W H → AreOpenCells (outcome_at H) (queue_of H)

-- the statement that a planned history in which no cell waits is whole, and in rounds
abbrev pub PlannedEnds : Type 0
PlannedEnds =
    (Root : Area) (L : Budget) (H : History) → IsPlanned Root L H → queue_of H ≡ [] → IsWhole Root L H × IsInRounds H

-- the statement that along the queue of a planned history the lengths of the paths never fall
abbrev pub QueueIsInOrder : Type 0
QueueIsInOrder =
    (Root : Area) (L : Budget) (H : History) → IsPlanned Root L H → IsNonDecreasingBy (λ path. length path) (queue_of H)

-- a cell that waits: its path and its region
pub record WaitingCell : Type 0 where
  pub path : List Side
  pub region : Area

-- the cell of v at the path
abbrev pub cell_in : Snapshot → List Side → WaitingCell
cell_in v path = record { path = path; region = region_at v.region (tree_of v) path }

-- two cells or none, as a list
abbrev pub cells_from : Option (WaitingCell × WaitingCell) → List WaitingCell
cells_from None = []
cells_from (Some p) = p.0 ∷ p.1 ∷ []

-- the cells but the one at the path
abbrev pub without : List Side → List WaitingCell → List WaitingCell
without path cells = filter (λ c. not (path_eq path c.path)) cells

-- a cell that waits is stored as the pair of its fields
abbrev pub waiting_code : Coded WaitingCell
waiting_code =
    code_by (List Side × Area) (coded× (coded_list side.the_row.coded) (coded_list half.the_row.coded))
    (λ c. (c.path, c.region)) (λ p. record { path = p.0; region = p.1 }) (λ _. refl)

-- a tree that grows: a version, and the cells without an outcome in the order in which they were made
pub record Growing : Type 0 where
  pub version : Snapshot
  pub waiting : List WaitingCell

-- it is stored as the pair of its fields
abbrev pub growing_code : Coded Growing
growing_code =
    code_by (Snapshot × List WaitingCell) (coded× snapshot_code (coded_list waiting_code))
    (λ g. (g.version, g.waiting)) (λ p. record { version = p.0; waiting = p.1 }) (λ _. refl)
