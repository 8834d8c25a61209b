use Rattle.std.proofs.Common.{◌≡◌, ◌*◌, ◌^◌, take}
use Rattle.srs_num.specs.Points.{IsPointWithin}
use Rattle.srs_num.specs.Lines.{sum_of}
use Rattle.srs_num.proofs.lines.sum.Given as goal

abbrev pub invariant-loop-i : goal.invariant-loop-i
invariant-loop-i l = (l.total ≡ sum_of (take l.i l.corners)) × IsPointWithin (2 ^ 77 * l.i) l.total
