use Rattle.std.proofs.Common.{◌^◌, take}
use Rattle.srs_cell.specs.Floors.{form_of, AreFloorsBelow}
use Rattle.srs_cell.proofs.floors.wide_floors.Given as goal

abbrev pub invariant-loop-i : goal.invariant-loop-i
invariant-loop-i l = AreFloorsBelow (2 ^ 40) (form_of l.fn.w) l.corners (take l.i l.corners) l.floors
