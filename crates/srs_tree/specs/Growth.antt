-- When a version takes one entry more, and why not.
use Rattle.std.specs.Prelude.{◌≡◌, ◌≢◌, ◌<◌, ◌≤◌, ◌++◌, ⊤, List, length, Some, None}
use Rattle.std.specs.Arc.{arc_value}
use Rattle.srs_plane.specs.Regions.{Area, HasPoint}
use Rattle.srs_path.specs.declared.paths.Side.{Side}
use Rattle.srs_path.specs.declared.outcomes.Outcome.{Outcome}
use Rattle.srs_path.specs.declared.outcomes.Outcome.TheVariants.{Inside, Outside, Cut, Left}
use Rattle.srs_path.specs.Views.{Found}
use Rattle.srs_path.specs.Soundness.{IsSound}
use Rattle.srs_tree.specs.declared.refusals.TreeErr.{TreeErr}
use Rattle.srs_tree.specs.declared.refusals.TreeErr.TheVariants.{NotThere, Done, OtherCell, NoMemory}
use Rattle.srs_tree.specs.Tree.{Tree, IsCellOf, region_at}
use Rattle.srs_tree.specs.Snapshots.{Snapshot, tree_of}

-- the outcome of a region is sound, whatever the number of witnesses: of a cell that is left this says nothing
abbrev pub IsProvedOf : Area → Outcome → Type 0
IsProvedOf R (Inside ranks) = IsSound R 0 (Inside ranks)
IsProvedOf R (Outside cycle) = IsSound R 0 (Outside cycle)
IsProvedOf R (Cut h) = IsSound R 0 (Cut h)
IsProvedOf R (Left cause) = ⊤

-- what a version keeps: a region of at most 16 halves that has a point, and entries at cells alone, each proved there
pub record IsVersion (v : Snapshot) : Type 0 where
  pub few : length v.region ≤ 16
  pub has_point : HasPoint v.region
  pub at_cells : (path : List Side) (o : Outcome) → tree_of v path ≡ Some o → IsCellOf (tree_of v) path
  pub proved : (path : List Side) (o : Outcome) → tree_of v path ≡ Some o → IsProvedOf (region_at v.region (tree_of v) path) o

-- the path is a cell without an entry
pub record IsOpenIn (T : Tree) (path : List Side) : Type 0 where
  pub cell : IsCellOf T path
  pub open_yet : T path ≡ None

-- p begins the path and is a cell of T, and no longer beginning of the path is one
pub record IsLongestCell (T : Tree) (path p : List Side) : Type 0 where
  pub rest : List Side
  pub is : path ≡ p ++ rest
  pub cell : IsCellOf T p
  pub longest : (q r : List Side) → path ≡ q ++ r → IsCellOf T q → length q ≤ length p

-- the finding may be entered at the path: the path is a cell without an entry, and the finding is of its region
pub record MayEnter (v : Snapshot) (path : List Side) (f : Found) : Type 0 where
  pub is_open : IsOpenIn (tree_of v) path
  pub same : f.region ≡ region_at v.region (tree_of v) path

-- a cut's path is shorter than 48, so that its parts have paths
abbrev pub IsShortCut : List Side → Outcome → Type 0
IsShortCut path (Inside ranks) = ⊤
IsShortCut path (Outside cycle) = ⊤
IsShortCut path (Cut h) = length path < 48
IsShortCut path (Left cause) = ⊤

-- why a finding isn't entered: the path is no cell, and its longest beginning that is one; the cell has an entry; the
-- finding is of another region than the cell's; want of memory, with the finding
abbrev pub IsTreeErr : Snapshot → List Side → Found → TreeErr → Type 0
IsTreeErr v path f (NotThere p) = (IsCellOf (tree_of v) path → ⊥) × IsLongestCell (tree_of v) path p
IsTreeErr v path f (Done o) = IsCellOf (tree_of v) path × (tree_of v path ≡ Some (arc_value o))
IsTreeErr v path f (OtherCell c) =
    IsOpenIn (tree_of v) path × (arc_value c ≡ region_at v.region (tree_of v) path) × (f.region ≢ arc_value c)
IsTreeErr v path f (NoMemory g) = g ≡ f

-- the refusal says that the cell has the outcome o; or want of memory, with the finding
abbrev pub SaysDone : Outcome → Found → TreeErr → Type 0
SaysDone o f (NotThere p) = ⊥
SaysDone o f (Done given) = arc_value given ≡ o
SaysDone o f (OtherCell c) = ⊥
SaysDone o f (NoMemory g) = g ≡ f

-- the refusal says that the cell has the region R; or want of memory, with the finding
abbrev pub SaysOther : Area → Found → TreeErr → Type 0
SaysOther R f (NotThere p) = ⊥
SaysOther R f (Done given) = ⊥
SaysOther R f (OtherCell c) = arc_value c ≡ R
SaysOther R f (NoMemory g) = g ≡ f
