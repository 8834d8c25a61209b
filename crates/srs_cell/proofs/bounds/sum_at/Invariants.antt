use Rattle.std.proofs.Common.{take, ◌*◌, ◌+◌, ◌^◌}
use Rattle.srs_num.specs.Points.{IsPointWithin}
use Rattle.srs_cell.specs.Bounds.{IsLeastSum}
use Rattle.srs_cell.proofs.bounds.sum_at.Given as goal

abbrev pub invariant-loop-corner : goal.invariant-loop-corner
invariant-loop-corner l =
    IsLeastSum l.form l.corners (take l.corner-index l.corners) l.least l.total × IsPointWithin (2 ^ 77 * l.corner-index + 2 ^ 77) l.total
