-- The cells of a round, and what the workers know of them.
use Rattle.std.specs.Prelude.{◌≡◌, ◌⊎◌, ℕ, ◌<◌, ◌≤◌, List, [], ◌∷◌, ◌++◌, length, slice_get, IsSome, Some, None}
use Rattle.std.specs.declared.option.Option.{Option}
use Rattle.srs_plane.specs.Regions.{Area}
use Rattle.srs_path.specs.declared.paths.Side.{Side}
use Rattle.srs_path.specs.declared.limits.Last.{Last}
use Rattle.srs_path.specs.Views.{Budget, Entry}
use Rattle.srs_turn.specs.Prefixes.{Begins}
use Rattle.srs_turn.specs.Passes.{TurnId, Seen, IsPassOf}
use Rattle.srs_claim.specs.Drawings.{SeatOf}
use Rattle.srs_tree.specs.Tree.{History, outcome_at, IsCellOf, region_at}
use Rattle.srs_tree.specs.Rounds.{last_in}
use Rattle.srs_tree.specs.Queue.{WaitingCell}
use Rattle.srs_atlas.specs.declared.book.Terms.{Terms}
use Rattle.srs_atlas.specs.Books.{IsLawful}
use Rattle.srs_crew.specs.declared.rounds.Job.{Job}
use Rattle.srs_crew.specs.declared.workers.Shift.{Shift}

-- by the plan round k may be refined where H is seen: each cell on a shorter path has its event, and `last` is spent
pub record IsPlanRound (L : Budget) (H : History) (k : ℕ) (last : Option Last) : Type 0 where
  pub rows_done : (path : List Side) → IsCellOf (outcome_at H) path → length path < k → IsSome (outcome_at H path)
  pub limit : last ≡ last_in L H k

-- the same where there may be no plan: the cuts of the round have room
pub record IsRound (terms : Terms) (H : History) (k : ℕ) (last : Option Last) : Type 0 where
  pub room : last ≡ None → k < 48
  pub by_plan : (L : Budget) → terms.plan ≡ Some L → IsPlanRound L H k last

-- the cell is one of round k of H
pub record IsOfRound (terms : Terms) (H : History) (k : ℕ) (c : WaitingCell) : Type 0 where
  pub depth : length c.path ≡ k
  pub cell : IsCellOf (outcome_at H) c.path
  pub region : c.region ≡ region_at terms.root (outcome_at H) c.path

-- the cell is one of a round at a beginning of what was seen
pub record IsWork (terms : Terms) (seen : History) (last : Option Last) (c : WaitingCell) : Type 0 where
  pub start : History
  pub round : ℕ
  pub begins : Begins start seen
  pub is_round : IsRound terms start round last
  pub is_cell : IsOfRound terms start round c

-- by the plan, if there is one, round k may be refined where some beginning of H was seen
pub record WasPlanRound (terms : Terms) (H : History) (k : ℕ) (last : Option Last) : Type 0 where
  pub start : History
  pub begins : Begins start H
  pub by_plan : (L : Budget) → terms.plan ≡ Some L → IsPlanRound L start k last

-- so are all these cells
pub record AreWork (terms : Terms) (seen : History) (last : Option Last) (cells : List WaitingCell) : Type 0 where
  pub start : History
  pub round : ℕ
  pub begins : Begins start seen
  pub is_round : IsRound terms start round last
  pub are_cells : (i : ℕ) (c : WaitingCell) → slice_get cells i ≡ Some c → IsOfRound terms start round c

-- a worker's pass and seat: they are of the atlas and of the claims, which are on the places of the cells, and the cells are of
-- a round at a beginning of what was seen
pub record MayWork (atlas : TurnId Terms) (shift : Shift) (pass : Seen Entry Terms) (seat : SeatOf) : Type 0 where
  pub own : IsPassOf atlas pass
  pub of : seat.of ≡ shift.claims
  pub places : shift.claims.n ≤ length shift.cells
  pub lawful : IsLawful atlas.fixed pass.seen
  pub work : AreWork atlas.fixed pass.seen shift.last shift.cells

-- what a worker gives back: where `before` was seen no less is seen now, and it is lawful
pub record HasWorked (atlas : TurnId Terms) (shift : Shift) (before : History) (pass : Seen Entry Terms) (seat : SeatOf) : Type 0 where
  pub own : IsPassOf atlas pass
  pub of : seat.of ≡ shift.claims
  pub seen : Begins before pass.seen
  pub lawful : IsLawful atlas.fixed pass.seen

-- each cell of the second list is one of the first, on a path of length k
pub record AreFromRound (cells : List WaitingCell) (k : ℕ) (list : List WaitingCell) : Type 0 where
  pub each : (i : ℕ) (c : WaitingCell) → slice_get list i ≡ Some c → (length c.path ≡ k) × ((j : ℕ) × (slice_get cells j ≡ Some c))

-- the list is as before, or a cell on a path of length k came to it
abbrev pub TakesOfRound : ℕ → WaitingCell → List WaitingCell → List WaitingCell → Type 0
TakesOfRound k c before after = (after ≡ before) ⊎ ((length c.path ≡ k) × (after ≡ before ++ c ∷ []))

-- from `before` to `after` each cell of round k got its event that stood in some history between; with a plan each has one
pub record IsRoundDone (terms : Terms) (k : ℕ) (before after : History) : Type 0 where
  pub between : History
  pub begins : Begins before between
  pub grows : Begins between after
  pub done : (path : List Side) → IsCellOf (outcome_at between) path → length path ≡ k → IsSome (outcome_at after path)
  pub all : (L : Budget) → terms.plan ≡ Some L → (path : List Side) → IsCellOf (outcome_at after) path → length path ≡ k → IsSome (outcome_at after path)
  pub lawful : IsLawful terms after

-- by the plan, if there is one, the round of the job may be refined where H is seen
abbrev pub MayStart : Terms → Job → History → Type 0
MayStart terms job H = (L : Budget) → terms.plan ≡ Some L → IsPlanRound L H job.round job.last

-- the round of the job is done
abbrev pub IsJobDone : Terms → Job → History → History → Type 0
IsJobDone terms job before after = IsRoundDone terms job.round before after

-- of the first i cells those on paths of length k have their events
pub record AreDone (cells : List WaitingCell) (i k : ℕ) (seen : History) : Type 0 where
  pub each : (j : ℕ) (c : WaitingCell) → j < i → slice_get cells j ≡ Some c → length c.path ≡ k → IsSome (outcome_at seen c.path)

-- each cell of H has its event
pub record AreAllDone (H : History) : Type 0 where
  pub each : (path : List Side) → IsCellOf (outcome_at H) path → IsSome (outcome_at H path)

-- at some beginning of H each cell had its event
abbrev pub WasAllDone : History → Type 0
WasAllDone H = (start : History) × Begins start H × AreAllDone start
