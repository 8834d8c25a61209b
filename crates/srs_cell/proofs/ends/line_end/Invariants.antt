use Rattle.std.proofs.Common.{take}
use Rattle.srs_cell.specs.Corners.{boxed}
use Rattle.srs_cell.specs.Cutting.{IsFirstEnd}
use Rattle.srs_cell.proofs.ends.line_end.Given as goal

abbrev pub invariant-loop-i : goal.invariant-loop-i
invariant-loop-i l = IsFirstEnd l.line (boxed (take l.i l.region)) l.end
