-- The paths get longer, and have at most 48 sides.
use Rattle.std.proofs.Common.{◌-◌}
use Rattle.srs_tree.proofs.Below.{depth_at}
use Rattle.srs_tree.proofs.meetings.+met_below.Given as goal

abbrev pub decreases-met_below : goal.decreases-met_below
decreases-met_below l = 49 - depth_at l.nodes.now l.i
