-- What a map spans.
use Rattle.std.specs.Prelude.{ℤ, pos, ◌*ℤ◌, ◌≤ℤ◌, List, Contains}
use Rattle.srs_num.specs.Points.{IsWithin}
use Rattle.srs_num.specs.Floor.{IsFloor, IsCeiling}
use Rattle.srs_plane.specs.declared.polygons.Vertex.{Vertex}
use Rattle.srs_raster.specs.declared.frames.Axis.{Axis}
use Rattle.srs_raster.specs.declared.frames.Axis.TheVariants.{X, Y}
use Rattle.srs_raster.specs.declared.frames.Frame.{Frame}

-- 64 times the numerator of a vertex's coordinate
abbrev pub scaled_by : Axis → Vertex → ℤ
scaled_by X v = pos 64 *ℤ v.p
scaled_by Y v = pos 64 *ℤ v.q

-- k is the floor of 64 times the coordinate of one vertex, and isn't above that of any
pub record IsFloorOfLeast (axis : Axis) (vs : List Vertex) (k : ℤ) : Type 0 where
  pub floor : (v : Vertex) × Contains vs v × IsFloor (scaled_by axis v) v.d k
  pub least : (v : Vertex) → Contains vs v → (k *ℤ v.d) ≤ℤ scaled_by axis v

-- k is the ceiling of 64 times the coordinate of one vertex, and isn't below that of any
pub record IsCeilingOfGreatest (axis : Axis) (vs : List Vertex) (k : ℤ) : Type 0 where
  pub ceiling : (v : Vertex) × Contains vs v × IsCeiling (scaled_by axis v) v.d k
  pub greatest : (v : Vertex) → Contains vs v → scaled_by axis v ≤ℤ (k *ℤ v.d)

-- the ends of the coordinates of the vertices, in 64ths, rounded outwards
pub record IsFrame (vs : List Vertex) (f : Frame) : Type 0 where
  pub left : IsFloorOfLeast X vs f.left
  pub right : IsCeilingOfGreatest X vs f.right
  pub bottom : IsFloorOfLeast Y vs f.bottom
  pub top : IsCeilingOfGreatest Y vs f.top

-- the ends are within 256
pub record IsNarrow (f : Frame) : Type 0 where
  pub left : IsWithin 256 f.left
  pub right : IsWithin 256 f.right
  pub bottom : IsWithin 256 f.bottom
  pub top : IsWithin 256 f.top
