use Rattle.std.proofs.Common.{take}
use Rattle.srs_cell.specs.Cutting.{IsKept}
use Rattle.srs_cell.proofs.corners.keep_above.Given as goal

abbrev pub invariant-loop-corner : goal.invariant-loop-corner
invariant-loop-corner l = IsKept l.line (take l.corner-index l.corners) l.kept.items
