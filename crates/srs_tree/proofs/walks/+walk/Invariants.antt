-- The paths get longer, and have at most 48 sides.
use Rattle.std.proofs.Common.{◌-◌}
use Rattle.srs_tree.proofs.Below.{depth_at}
use Rattle.srs_tree.proofs.walks.+walk.Given as goal

abbrev pub decreases-walk : goal.decreases-walk
decreases-walk l = 49 - depth_at l.nodes.now l.i
