-- When a finding may be committed, and what is answered.
use Rattle.std.specs.Prelude.{◌≡◌, ◌≢◌, ◌++◌, [], ◌∷◌, List, length, Some}
use Rattle.std.specs.declared.option.Option.{Option}
use Rattle.std.specs.Arc.{arc_value}
use Rattle.srs_plane.specs.Regions.{Area}
use Rattle.srs_path.specs.declared.paths.Side.{Side}
use Rattle.srs_path.specs.declared.outcomes.Outcome.{Outcome}
use Rattle.srs_path.specs.Views.{Budget, Entry, Found}
use Rattle.srs_turn.specs.Prefixes.{Begins}
use Rattle.srs_tree.specs.declared.refusals.TreeErr.{TreeErr}
use Rattle.srs_tree.specs.declared.refusals.TreeErr.TheVariants.{NotThere, Done, OtherCell, NoMemory}
use Rattle.srs_tree.specs.Tree.{History, outcome_at, IsCellOf, region_at}
use Rattle.srs_tree.specs.Rounds.{MayComeNext}
use Rattle.srs_tree.specs.Growth.{IsOpenIn, IsShortCut, IsLongestCell}
use Rattle.srs_tree.specs.Queue.{WaitingCell}
use Rattle.srs_tree.specs.Ahead.{AreMadeBy}
use Rattle.srs_atlas.specs.declared.book.Terms.{Terms}
use Rattle.srs_atlas.specs.declared.commits.Commit.{Commit}
use Rattle.srs_atlas.specs.declared.commits.Commit.TheVariants.{Done as IsDone, Late as IsLate, NotThere as IsNotThere, OtherCell as IsOtherCell, NoMemory as IsNoMemory}
use Rattle.srs_atlas.specs.Books.{IsLawful}

-- the event of the path with this outcome
abbrev pub event_at : List Side → Outcome → Entry
event_at path o = record { path = path; outcome = o }

-- by the plan L the outcome may come to the path, where H is seen: the path is a cell of H, each cell of H on a shorter path
-- has its event, and the outcome is that of the cell there, or there was no memory
pub record FitsPlan (Root : Area) (L : Budget) (H : History) (path : List Side) (o : Outcome) : Type 0 where
  pub cell : IsCellOf (outcome_at H) path
  pub next : MayComeNext Root L H (event_at path o)

-- the finding may be committed where the history is H: it has the terms' number of witnesses, a cut is short, and where there
-- is a plan the finding fits it at some beginning of H
pub record IsReady (terms : Terms) (H : History) (path : List Side) (f : Found) : Type 0 where
  pub w : f.w ≡ terms.w
  pub short : IsShortCut path f.outcome
  pub planned : (start : History) × Begins start H × ((L : Budget) → terms.plan ≡ Some L → FitsPlan terms.root L start path f.outcome)

-- the finding is ready, and the cells that were made of it ahead, if there are any, are those that it makes of its cell
pub record IsPrepared (terms : Terms) (H : History) (path : List Side) (f : Found) (parts : Option (WaitingCell × WaitingCell)) : Type 0 where
  pub ready : IsReady terms H path f
  pub ahead : AreMadeBy (record { path = path; region = f.region }) f.outcome parts

-- the finding is of an open cell's region
pub record IsWelcome (Root : Area) (H : History) (path : List Side) (f : Found) : Type 0 where
  pub is_open : IsOpenIn (outcome_at H) path
  pub same : f.region ≡ region_at Root (outcome_at H) path

-- what is answered where the history is `before`, and the history after that
abbrev pub RepliesWith : Terms → History → List Side → Found → Commit → History → Type 0
RepliesWith terms before path f (IsDone n) after =
    IsWelcome terms.root before path f × (after ≡ before ++ event_at path f.outcome ∷ []) × (n ≡ length after)
RepliesWith terms before path f (IsLate o) after =
    (after ≡ before) × IsCellOf (outcome_at before) path × (outcome_at before path ≡ Some (arc_value o))
RepliesWith terms before path f (IsNotThere p) after =
    (after ≡ before) × (IsCellOf (outcome_at before) path → ⊥) × IsLongestCell (outcome_at before) path p
RepliesWith terms before path f (IsOtherCell c) after =
    (after ≡ before) × IsOpenIn (outcome_at before) path × (arc_value c ≡ region_at terms.root (outcome_at before) path)
    × (f.region ≢ arc_value c)
RepliesWith terms before path f (IsNoMemory g) after = (after ≡ before) × (g ≡ f)

-- what a commit does
pub record Commits (terms : Terms) (path : List Side) (f : Found) (before : History) (reply : Commit) (after : History) : Type 0 where
  pub answer : RepliesWith terms before path f reply after
  pub lawful : IsLawful terms after

-- the answer by a version's refusal
abbrev pub commit_of : TreeErr → Commit
commit_of (NotThere p) = IsNotThere p
commit_of (Done o) = IsLate o
commit_of (OtherCell c) = IsOtherCell c
commit_of (NoMemory f) = IsNoMemory f
