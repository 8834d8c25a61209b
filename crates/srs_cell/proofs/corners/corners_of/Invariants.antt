use Rattle.std.proofs.Common.{take}
use Rattle.srs_cell.specs.Corners.{AreCorners}
use Rattle.srs_cell.proofs.corners.corners_of.Given as goal

abbrev pub invariant-loop-i : goal.invariant-loop-i
invariant-loop-i l = AreCorners (take l.i l.region) l.corners.items
