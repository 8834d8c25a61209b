use Rattle.std.proofs.Common.{◌^◌, All, take}
use Rattle.srs_num.specs.Points.{IsPointWithin}
use Rattle.srs_cell.proofs.floors.are_short.Given as goal

abbrev pub invariant-loop-corner : goal.invariant-loop-corner
invariant-loop-corner l = All (IsPointWithin (2 ^ 38)) (take l.corner-index l.corners)
