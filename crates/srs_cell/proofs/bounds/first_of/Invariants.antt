use Rattle.std.proofs.Common.{All, take, ◌*ℤ◌, ◌<ℤ◌}
use Rattle.srs_num.specs.Points.{value}
use Rattle.srs_cell.proofs.bounds.first_of.Given as goal

abbrev pub invariant-loop-corner : goal.invariant-loop-corner
invariant-loop-corner l = All (λ c. (l.most *ℤ c.d) <ℤ value l.form c) (take l.corner-index l.corners)
