use Rattle.std.proofs.Common.{List, sym, subst}
use Rattle.srs_plane.specs.declared.polygons.Vertex.{Vertex}
use Rattle.srs_plane.specs.Polygons.{IsPolygon}
use Rattle.srs_gen.proofs.Triangles.{made_polygon}
use Rattle.srs_gen.proofs.samples.made_sample.Goals as goal

pub returns-clause-polygon : goal.returns-clause-polygon
returns-clause-polygon c =
    subst (λ (vs : List Vertex). IsPolygon vs) (sym c.vertices-vertices.ensures.vertices)
    (made_polygon c.new-draws.result)
