-- The paths get longer, and have at most 48 sides.
use Rattle.std.proofs.Common.{◌-◌}
use Rattle.srs_tree.proofs.Below.{depth_at}
use Rattle.srs_tree.proofs.descents.+descend.Given as goal

abbrev pub decreases-descend : goal.decreases-descend
decreases-descend g l = 49 - depth_at l.nodes.now l.i
