use Rattle.srs_plane.proofs.Ring_of_vertices.{vertex_at-within}
use Rattle.srs_plane.proofs.polygons.nth_vertex.Goals as goal

pub returns : goal.returns
returns c = vertex_at-within c.args.vs.now c.args.i _ c.requires
