-- Vertices with small numbers.
use Rattle.srs_num.specs.Points.{IsNear}
use Rattle.srs_plane.specs.declared.polygons.Vertex.{Vertex}
use Rattle.srs_plane.specs.Polygons.{point_of, HasSmallDenominator}

-- the denominator is one that a vertex may have, and |x|, |y| are at most 4
pub record IsPlaced (v : Vertex) : Type 0 where
  pub small : HasSmallDenominator v
  pub near : IsNear (point_of v)
