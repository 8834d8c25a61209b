use Rattle.std.proofs.Common.{take}
use Rattle.srs_cell.specs.Hull.{IsAbove}
use Rattle.srs_cell.proofs.corners.all_above.Given as goal

abbrev pub invariant-loop-corner : goal.invariant-loop-corner
invariant-loop-corner l = IsAbove l.line (take l.corner-index l.corners)
