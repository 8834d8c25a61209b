-- The cells that wait in a linked list, and the map to their slots.
use Rattle.std.specs.Prelude.{◌≡◌, ◌≢◌, ⊤, ℕ, List, [], ◌∷◌, map, nat_eq, ◌==◌, if◌then◌else◌, Some, None}
use Rattle.std.specs.List.{AllByRecursion}
use Rattle.std.specs.HashMap.{HashMap, get}
use Rattle.std.specs.declared.hash.BuildHasherDefault.{BuildHasherDefault}
use Rattle.std.specs.declared.hash.FoldHasher.{FoldHasher}
use Rattle.std.specs.declared.option.Option.{Option}
use Rattle.srs_path.specs.declared.paths.Side.{Side}
use Rattle.srs_path.specs.Paths.{digits_then}
use Rattle.srs_tree.specs.Queue.{WaitingCell, without}

-- the cells of a list of slots with their cells
abbrev pub cells_of : List (ℕ × WaitingCell) → List WaitingCell
cells_of list = map (λ p. p.1) list

-- the number of the cell at the path, where the root has 1, and the parts of the cell k have 2k and 2k + 1
abbrev pub number_at : List Side → ℕ
number_at path = digits_then 1 path

-- slots by the numbers of cells
abbrev pub Slots : Type 0
Slots = HashMap ℕ ℕ (BuildHasherDefault FoldHasher)

-- the slot of the cell with this number, if there is one
abbrev pub slot_with : List (ℕ × WaitingCell) → ℕ → Option ℕ
slot_with [] number = None
slot_with (p ∷ list) number = if number_at p.1.path == number then Some p.0 else slot_with list number

-- no cell is at the path
abbrev pub LacksPath : List Side → List WaitingCell → Type 0
LacksPath path cells = AllByRecursion (λ c. path ≢ c.path) cells

-- no cell is at the path of one of these, and their paths differ
abbrev pub LackPaths : List WaitingCell → List WaitingCell → Type 0
LackPaths [] cells = ⊤
LackPaths (c ∷ more) cells = LacksPath c.path cells × LacksPath c.path more × LackPaths more cells

-- the paths of the cells differ
abbrev pub DoPathsDiffer : List WaitingCell → Type 0
DoPathsDiffer [] = ⊤
DoPathsDiffer (c ∷ cells) = LacksPath c.path cells × DoPathsDiffer cells

-- the map has the slot of each cell of the list, by the cell's number, and no others; and each path has one cell
pub record AreSlotsOf (slots : Slots) (list : List (ℕ × WaitingCell)) : Type 0 where
  pub exactly : (number : ℕ) → get nat_eq slots number ≡ slot_with list number
  pub once : DoPathsDiffer (cells_of list)

-- two paths or none, as a list
abbrev pub paths_from : Option (List Side × List Side) → List (List Side)
paths_from None = []
paths_from (Some p) = p.0 ∷ p.1 ∷ []

-- the cells but those at the paths
abbrev pub without_paths : List (List Side) → List WaitingCell → List WaitingCell
without_paths [] cells = cells
without_paths (path ∷ paths) cells = without_paths paths (without path cells)
