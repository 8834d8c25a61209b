use Rattle.std.proofs.Common.{take}
use Rattle.srs_cell.specs.Hull.{IsBelow}
use Rattle.srs_cell.proofs.corners.all_below.Given as goal

abbrev pub invariant-loop-corner : goal.invariant-loop-corner
invariant-loop-corner l = IsBelow l.line (take l.corner-index l.corners)
