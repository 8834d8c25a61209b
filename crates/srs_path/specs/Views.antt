-- What limits, findings and events are seen as.
use Rattle.std.specs.Prelude.{ℕ, ◌+◌, ◌*◌, ◌≤◌, List, Some, None, if◌then◌else◌, eqb, ltb}
use Rattle.std.specs.declared.option.Option.{Option}
use Rattle.srs_plane.specs.Regions.{Area}
use Rattle.srs_path.specs.declared.outcomes.Outcome.{Outcome}
use Rattle.srs_path.specs.declared.paths.Side.{Side}
use Rattle.srs_path.specs.declared.limits.TheConstants.{MOST_DEPTH, MOST_CELLS, MOST_WITNESSES, MOST_PRODUCT}
use Rattle.srs_path.specs.declared.limits.Last.{Last}
use Rattle.srs_path.specs.declared.limits.Last.TheVariants.{Depth, Cells}

-- the greatest depth, the most cells, and the most witnesses of a cell
pub record Budget : Type 0 where
  pub depth : ℕ
  pub cells : ℕ
  pub wits : ℕ

-- one cell and one witness at least, and none of the three, nor the product of the last two, more
-- than it may be
pub record IsBudget (b : Budget) : Type 0 where
  pub depth : b.depth ≤ MOST_DEPTH
  pub some_cell : 1 ≤ b.cells
  pub cells : b.cells ≤ MOST_CELLS
  pub some_wit : 1 ≤ b.wits
  pub wits : b.wits ≤ MOST_WITNESSES
  pub product : b.wits * b.cells ≤ MOST_PRODUCT

-- which limit is spent: the depth in round D, else the cells where they and two for each that is
-- pending are more than C
abbrev pub last_of : Budget → ℕ → ℕ → ℕ → Option Last
last_of b round cells pending =
    (if eqb round b.depth then Some Depth else (if ltb b.cells (cells + 2 * pending) then Some Cells
    else None))

-- an outcome of a region, for this many witnesses
pub record Found : Type 0 where
  pub region : Area
  pub w : ℕ
  pub outcome : Outcome

-- an outcome of the cell at a path
pub record Entry : Type 0 where
  pub path : List Side
  pub outcome : Outcome
