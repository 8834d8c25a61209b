use Rattle.std.proofs.Common.{below_more}
use Rattle.srs_plane.specs.Polygons.{TurnsLeft}
use Rattle.srs_plane.proofs.polygons.check_turns.Goals as goal

pub loop-i-preserved : goal.loop-i-preserved
loop-i-preserved c = below_more (TurnsLeft c.args.vs.now) _ c.loop-i.invariant c.if-not-turns_left.ensures
