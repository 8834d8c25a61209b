use Rattle.srs_plane.proofs.Near.{polygon_bounded}
use Rattle.srs_plane.proofs.polygons.region_inside.Goals as goal

pub of-requires : goal.of-requires
of-requires c = rw c.in_ok-halves.ensures.ok (polygon_bounded c.args.vs.now c.requires)
