-- What the corners of a polygon tell of its points.
use Rattle.std.specs.Prelude.{◌≡◌, ℕ, ◌<◌, List, length, pos, ◌+ℤ◌, ◌*ℤ◌, ◌≤ℤ◌, ◌<ℤ◌}
use Rattle.srs_num.specs.Points.{Point, LinearForm, value}
use Rattle.srs_num.specs.Lines.{edge_form}
use Rattle.srs_plane.specs.declared.polygons.Vertex.{Vertex}
use Rattle.srs_plane.specs.Regions.{IsInClosed, HasPoint}
use Rattle.srs_plane.specs.Polygons.{point_of, vertex_at, IsPolygon, region_of}

-- the area of a triangle times the value of a form is the sum of its values at the corners, each
-- times the area of
-- the triangle that the point makes with the other two
abbrev pub CornersWeigh : Type 0
CornersWeigh =
    (u t w z : Point) (f : LinearForm) →
    value (edge_form u t) w *ℤ value f z ≡ value (edge_form t w) z *ℤ value f u +ℤ value
    (edge_form w u) z *ℤ value f t +ℤ value (edge_form u t) z *ℤ value f w

-- z isn't to the right of an edge of the triangle
pub record IsInTriangle (u t w z : Point) : Type 0 where
  pub first : pos 0 ≤ℤ value (edge_form u t) z
  pub second : pos 0 ≤ℤ value (edge_form t w) z
  pub third : pos 0 ≤ℤ value (edge_form w u) z

-- f is at least 0 at each of three points
pub record IsAboveThree (f : LinearForm) (u t w : Point) : Type 0 where
  pub first : pos 0 ≤ℤ value f u
  pub second : pos 0 ≤ℤ value f t
  pub third : pos 0 ≤ℤ value f w

-- what is at least 0 at the corners of a triangle that turns left is at least 0 at each point of
-- the closed triangle
abbrev pub CornersSpeak : Type 0
CornersSpeak =
    (u t w : Point) → pos 0 <ℤ value (edge_form u t) w → (f : LinearForm) → IsAboveThree f u t w
    → (z : Point) → IsInTriangle u t w z → pos 0 ≤ℤ value f z

-- f is at least 0 at each vertex
abbrev pub IsAboveVertices : LinearForm → List Vertex → Type 0
IsAboveVertices f vs = (i : ℕ) → i < length vs → pos 0 ≤ℤ value f (point_of (vertex_at vs i))

-- what is at least 0 at the vertices of a polygon is at least 0 at each point of the closed polygon
abbrev pub VerticesSpeak : Type 0
VerticesSpeak =
    (vs : List Vertex) → IsPolygon vs → (f : LinearForm) → IsAboveVertices f vs
    → (z : Point) → IsInClosed (region_of vs) z → pos 0 ≤ℤ value f z

-- a polygon has a point within all its edges
abbrev pub PolygonsHavePoints : Type 0
PolygonsHavePoints = (vs : List Vertex) → IsPolygon vs → HasPoint (region_of vs)
