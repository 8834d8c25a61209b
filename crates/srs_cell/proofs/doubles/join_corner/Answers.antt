use Rattle.std.proofs.Common.{refl}
use Rattle.srs_cell.proofs.Joining.{joined_double}
use Rattle.srs_cell.proofs.doubles.join_corner.Goals as goal

pub returns-then-has_double : goal.returns-then-has_double
returns-then-has_double c = joined_double c.args.corners.now.items c.args.corner (rw c.deref.ensures.value at (c.if-has_double.ensures refl))
