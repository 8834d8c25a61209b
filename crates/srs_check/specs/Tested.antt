-- What the test of one node tells.
use Rattle.std.specs.Prelude.{◌≡◌, ℕ}
use Rattle.srs_num.specs.Points.{LinearForm}
use Rattle.srs_plane.specs.Regions.{Area, Divides}
use Rattle.srs_cell.specs.Parts.{AreBoth}
use Rattle.srs_path.specs.declared.outcomes.Why.{Why}
use Rattle.srs_path.specs.declared.outcomes.Cause.TheVariants.{Cells}
use Rattle.srs_path.specs.declared.outcomes.Outcome.{Outcome}
use Rattle.srs_path.specs.declared.outcomes.Outcome.TheVariants.{Cut, Left}
use Rattle.srs_path.specs.Views.{Budget}
use Rattle.srs_tree.specs.Tree.{History}
use Rattle.srs_tree.specs.Growth.{IsProvedOf}
use Rattle.srs_check.specs.Proving.{Proves}
use Rattle.srs_check.specs.Faults.{Fails}
use Rattle.srs_check.specs.declared.faults.Fault.TheVariants.{NotProper}
use Rattle.srs_check.specs.declared.nodes.Tested.{Tested}
use Rattle.srs_check.specs.declared.nodes.Tested.TheVariants.{Leaf, Divided, Unsettled, Wrong}

-- no cut, and it proves what it claims, whatever other nodes there are
pub record IsGoodLeaf (R : Area) (L : Budget) (k : ℕ) (o : Outcome) : Type 0 where
  pub no_cut : (h : LinearForm) → o ≡ Cut h → ⊥
  pub proves : (H : History) → Proves R L H k o
  pub sound : IsProvedOf R o

-- a cut of R, and its two parts
pub record IsDivided (R : Area) (o : Outcome) (x y : Area) : Type 0 where
  pub form : LinearForm
  pub is_cut : o ≡ Cut form
  pub parts : AreBoth R form x y

-- the cell is left because the number of cells is spent
abbrev pub IsForCells : Outcome → Type 0
IsForCells o = (why : Why) × (o ≡ Left (Cells why))

-- the parts of a cut of R by h, or the fault of a cut that doesn't divide R
abbrev pub IsDivision : Area → LinearForm → Tested → Type 0
IsDivision R h Leaf = ⊥
IsDivision R h (Divided x y) = AreBoth R h x y
IsDivision R h Unsettled = ⊥
IsDivision R h (Wrong fault) = (fault ≡ NotProper) × (Divides R h → ⊥)

-- a leaf that proves itself and is sound, a cut with its parts, a leaf that is left for the number of cells, or a fault
abbrev pub IsTested : Area → Budget → ℕ → Outcome → Tested → Type 0
IsTested R L k o Leaf = IsGoodLeaf R L k o
IsTested R L k o (Divided x y) = IsDivided R o x y
IsTested R L k o Unsettled = IsForCells o
IsTested R L k o (Wrong fault) = (H : History) → Fails R L H k o fault
