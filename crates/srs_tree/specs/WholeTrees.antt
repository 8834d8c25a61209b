-- The events of a whole tree in preorder, as a certificate lists them.
use Rattle.std.specs.Prelude.{◌≡◌, ⊤, ℕ, ◌<◌, ◌≤◌, List, [], ◌∷◌, ◌++◌, length}
use Rattle.std.specs.List.{All}
use Rattle.srs_path.specs.declared.paths.Side.{Side}
use Rattle.srs_path.specs.declared.outcomes.Outcome.{Outcome}
use Rattle.srs_path.specs.declared.outcomes.Outcome.TheVariants.{Inside, Outside, Cut, Left}
use Rattle.srs_plane.specs.Regions.{Area}
use Rattle.srs_path.specs.Views.{Budget, IsBudget, Entry}
use Rattle.srs_tree.specs.Tree.{History, outcome_at, IsCellOf}
use Rattle.srs_tree.specs.Rounds.{parts_by, cells_of, IsWhole}
use Rattle.srs_tree.specs.Snapshots.{Snapshot, StandsFor}
use Rattle.srs_tree.specs.Preorder.{preorder_of}

-- the events of the trees below the paths that wait, and no other: each path's event, then those below its Ge part, then
-- those below its Lt part
abbrev pub ListsTrees : List (List Side) → History → Type 0
ListsTrees [] [] = ⊤
ListsTrees [] (e ∷ H) = ⊥
ListsTrees (path ∷ waiting) [] = ⊥
ListsTrees (path ∷ waiting) (e ∷ H) = (e.path ≡ path) × ListsTrees (parts_by e.path e.outcome ++ waiting) H

-- H lists a whole tree, from the root on
abbrev pub ListsWholeTree : History → Type 0
ListsWholeTree H = ListsTrees ([] ∷ []) H

-- the outcome of a cell at this depth keeps to the limits: a cut above the greatest depth, and no more witnesses or
-- entries than are allowed
abbrev pub AllowsAt : Budget → ℕ → Outcome → Type 0
AllowsAt b depth (Inside ranks) = length ranks ≤ b.wits
AllowsAt b depth (Outside cycle) = length cycle ≤ b.wits
AllowsAt b depth (Cut h) = depth < b.depth
AllowsAt b depth (Left cause) = ⊤

-- the event keeps to the limits
abbrev pub KeepsTo : Budget → Entry → Type 0
KeepsTo b e = AllowsAt b (length e.path) e.outcome

-- H has no more cells than are allowed, and each of its events keeps to the limits
pub record IsWithin (b : Budget) (H : History) : Type 0 where
  pub cells : length H ≤ b.cells
  pub each : All (KeepsTo b) H

-- H has no more cells than are allowed, and none deeper than is allowed
pub record IsBounded (b : Budget) (H : History) : Type 0 where
  pub cells : length (cells_of H) ≤ b.cells
  pub depth : (path : List Side) → IsCellOf (outcome_at H) path → length path ≤ b.depth

-- the statement that each whole history keeps to the bounds on cells
abbrev pub WholeIsBounded : Type 0
WholeIsBounded = (Root : Area) (b : Budget) (H : History) → IsBudget b → IsWhole Root b H → IsBounded b H

-- the statement that the events of a whole history, in preorder, list a whole tree within the limits
abbrev pub WholeIsListed : Type 0
WholeIsListed =
    (Root : Area) (b : Budget) (H : History) (v : Snapshot) → IsBudget b → IsWhole Root b H → StandsFor Root H v
    → ListsWholeTree (preorder_of v) × IsWithin b (preorder_of v)
