-- The cells that an outcome makes of one, before its tree has it.
use Rattle.std.specs.Prelude.{◌≡◌, ⊤, [], ◌∷◌, ◌++◌, List, Some, None}
use Rattle.std.specs.declared.option.Option.{Option}
use Rattle.srs_num.specs.Points.{LinearForm}
use Rattle.srs_path.specs.declared.paths.Side.{Side}
use Rattle.srs_path.specs.declared.paths.Side.TheVariants.{Ge, Lt}
use Rattle.srs_path.specs.declared.outcomes.Outcome.{Outcome}
use Rattle.srs_path.specs.declared.outcomes.Outcome.TheVariants.{Inside, Outside, Cut, Left}
use Rattle.srs_tree.specs.Tree.{half_on}
use Rattle.srs_tree.specs.Queue.{WaitingCell, cells_from}

-- the part of the cell c on the side s of the form h
abbrev pub cell_on : Side → LinearForm → WaitingCell → WaitingCell
cell_on s h c = record { path = c.path ++ s ∷ []; region = c.region ++ half_on s h ∷ [] }

-- the cells that the outcome makes of the cell c: the two parts of a cut, Ge first, else none
abbrev pub cells_made : WaitingCell → Outcome → List WaitingCell
cells_made c (Inside ranks) = []
cells_made c (Outside cycle) = []
cells_made c (Cut h) = cell_on Ge h c ∷ cell_on Lt h c ∷ []
cells_made c (Left cause) = []

-- if the two cells are there, they are those that the outcome makes of the cell c
abbrev pub AreMadeBy : WaitingCell → Outcome → Option (WaitingCell × WaitingCell) → Type 0
AreMadeBy c o None = ⊤
AreMadeBy c o (Some parts) = cells_from (Some parts) ≡ cells_made c o
