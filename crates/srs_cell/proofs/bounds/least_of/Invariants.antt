use Rattle.std.proofs.Common.{◌≡◌, take}
use Rattle.std.specs.List.{Contains}
use Rattle.srs_num.specs.Points.{value}
use Rattle.srs_cell.specs.Bounds.{IsLeast}
use Rattle.srs_cell.proofs.bounds.least_of.Given as goal

abbrev pub invariant-loop-i : goal.invariant-loop-i
invariant-loop-i l = Contains l.corners l.least × IsLeast l.form (take l.i l.corners) l.least × (l.num ≡ value l.form l.least) × (l.den ≡ l.least.d)
