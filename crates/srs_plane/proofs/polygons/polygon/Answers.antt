use Rattle.srs_plane.proofs.Inside.{polygon_has_point}
use Rattle.srs_plane.proofs.polygons.polygon.Goals as goal

pub returns-clause-point : goal.returns-clause-point
returns-clause-point c = polygon_has_point c.args.vs.now c.in_ok-check_turns.ensures.ok
