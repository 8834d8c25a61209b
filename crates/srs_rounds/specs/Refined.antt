-- A region that is refined round by round, and what holds meanwhile.
use Rattle.std.specs.Prelude.{◌≡◌, ◌≢◌, ℕ, ◌+◌, ◌*◌, ◌<◌, ◌≤◌, List, [], ◌++◌, length, map, Contains, None}
use Rattle.std.specs.List.{AllByRecursion}
use Rattle.std.specs.declared.option.Option.{Option}
use Rattle.srs_plane.specs.Regions.{Area}
use Rattle.srs_path.specs.declared.outcomes.Outcome.{Outcome}
use Rattle.srs_path.specs.declared.limits.Last.{Last}
use Rattle.srs_path.specs.Views.{Budget, Entry, last_of}
use Rattle.srs_refine.specs.Found.{IsFoundOf}
use Rattle.srs_path.specs.Soundness.{IsSound}
use Rattle.srs_tree.specs.Tree.{History}
use Rattle.srs_tree.specs.Rounds.{parts_by, cells_of, last_in, IsPlanned, IsWhole, IsInRounds}
use Rattle.srs_tree.specs.Snapshots.{Snapshot, with_entry, StandsFor}
use Rattle.srs_tree.specs.Queue.{queue_of, WaitingCell, cell_in}

-- v stands for a whole history of the region, in rounds: the plan, where no cell was left for want of
-- memory
pub record IsRefined (Root : Area) (b : Budget) (v : Snapshot) : Type 0 where
  pub history : History
  pub whole : IsWhole Root b history
  pub in_rounds : IsInRounds history
  pub stands : StandsFor Root history v

-- v stands for the planned history H, and these cells wait, in this order
pub record IsUnderway (Root : Area) (b : Budget) (H : History) (v : Snapshot) (waiting : List WaitingCell) : Type 0 where
  pub planned : IsPlanned Root b H
  pub stands : StandsFor Root H v
  pub waits : waiting ≡ map (cell_in v) (queue_of H)

-- the paths of the cells have length k
abbrev pub AreAtDepth : ℕ → List WaitingCell → Type 0
AreAtDepth k cells = AllByRecursion (λ c. length c.path ≡ k) cells

-- round k starts: of so many cells these wait, all of them on paths of length k; the others have their events. Past the
-- greatest depth none waits
pub record StartsRound (Root : Area) (b : Budget) (k cells : ℕ) (v : Snapshot) (waiting : List WaitingCell) : Type 0 where
  pub history : History
  pub underway : IsUnderway Root b history v waiting
  pub count : cells ≡ length (cells_of history)
  pub deep : AreAtDepth k waiting
  pub above : (e : Entry) → Contains history e → length e.path < k
  pub room : cells ≤ b.cells
  pub few : length waiting ≤ cells
  pub past : b.depth < k → waiting ≡ []

-- in round k, which started with so many cells, of which `pending` waited: these still wait, and `later` were made by the
-- cuts of the round, of which there are none where a limit is spent
pub record IsInRound (Root : Area) (b : Budget) (k cells pending : ℕ) (v : Snapshot) (waiting later : List WaitingCell) : Type 0 where
  pub history : History
  pub underway : IsUnderway Root b history v (waiting ++ later)
  pub last : last_in b history k ≡ last_of b k cells pending
  pub count : length (cells_of history) ≡ cells + length later
  pub deep : AreAtDepth k waiting
  pub deeper : AreAtDepth (k + 1) later
  pub above : (e : Entry) → Contains history e → length e.path < k + 1
  pub few : length later + 2 * length waiting ≤ 2 * pending
  pub uncut : last_of b k cells pending ≢ None → later ≡ []

-- from v to w the cell got its outcome, where `last` is spent, or was left for want of memory, and its parts came behind those that wait already
pub record GetsOutcome (last : Option Last) (W : ℕ) (v w : Snapshot) (cell : WaitingCell) (waiting waiting_after : List WaitingCell) : Type 0 where
  pub outcome : Outcome
  pub found : IsFoundOf cell.region last W outcome
  pub sound : IsSound cell.region W outcome
  pub entered : w ≡ with_entry v cell.path outcome
  pub parts : waiting_after ≡ waiting ++ map (cell_in w) (parts_by cell.path outcome)
