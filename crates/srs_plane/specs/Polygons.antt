-- Convex polygons by their vertices, in the order in which the inside stands to the left of each
-- edge.
use Rattle.std.specs.Prelude.{◌≢◌, ⊤, ℕ, ◌+◌, ◌<◌, ◌≤◌, ◌%◌, List, length, map, slice_index_or, pos, ◌≤ℤ◌, ◌<ℤ◌}
use Rattle.std.specs.List.{range_with_len}
use Rattle.srs_num.specs.Points.{Point, LinearForm, value, IsNear}
use Rattle.srs_num.specs.Lines.{edge_form}
use Rattle.srs_plane.specs.declared.halves.Kind.TheVariants.{Ge}
use Rattle.srs_plane.specs.declared.polygons.Vertex.{Vertex}
use Rattle.srs_plane.specs.declared.polygons.PolyErr.{PolyErr}
use Rattle.srs_plane.specs.declared.polygons.PolyErr.TheVariants.{Few, Many, Big, Far, Turn, NoMemory}
use Rattle.srs_plane.specs.declared.polygons.TheConstants.{MOST_VERTICES, MOST_VERTEX_DENOMINATOR}
use Rattle.srs_plane.specs.Regions.{Area}

-- where a vertex stands
abbrev pub point_of : Vertex → Point
point_of v = record { p = v.p; q = v.q; d = v.d }

-- vertex i, counted round the ring
abbrev pub vertex_at : List Vertex → ℕ → Vertex
vertex_at vs i = slice_index_or vs (i % length vs)
    (record { p = pos 0; q = pos 0; d = pos 1; kind = Ge })

-- the form of the edge from vertex i to the next one: above 0 to its left
abbrev pub edge_at : List Vertex → ℕ → LinearForm
edge_at vs i = edge_form (point_of (vertex_at vs i)) (point_of (vertex_at vs (i + 1)))

-- the denominator is one that a vertex may have
pub record HasSmallDenominator (v : Vertex) : Type 0 where
  pub d_low : pos 1 ≤ℤ v.d
  pub d_high : v.d ≤ℤ MOST_VERTEX_DENOMINATOR

-- vertex j is neither end of the edge from vertex i
pub record IsOffEdge (vs : List Vertex) (i j : ℕ) : Type 0 where
  pub there : j < length vs
  pub not_start : j ≢ i
  pub not_end : j ≢ (i + 1) % length vs

-- each other vertex is strictly to the left of the edge from vertex i
abbrev pub TurnsLeft : List Vertex → ℕ → Type 0
TurnsLeft vs i = (j : ℕ) → IsOffEdge vs i j → pos 0 <ℤ value (edge_at vs i)
    (point_of (vertex_at vs j))

-- some other vertex isn't strictly to the left of the edge from vertex i
abbrev pub TurnsWrong : List Vertex → ℕ → Type 0
TurnsWrong vs i = (j : ℕ) × IsOffEdge vs i j ×
    (value (edge_at vs i) (point_of (vertex_at vs j)) ≤ℤ pos 0)

-- three vertices at least and not more than a polygon may have
abbrev pub IsCounted : List Vertex → Type 0
IsCounted vs = (3 ≤ length vs) × (length vs ≤ MOST_VERTICES)

-- the first n vertices have such denominators
abbrev pub HaveSmallDenominators : List Vertex → ℕ → Type 0
HaveSmallDenominators vs n = (k : ℕ) → k < n → HasSmallDenominator (vertex_at vs k)

-- the first n vertices have |x|, |y| at most 4
abbrev pub AreNear : List Vertex → ℕ → Type 0
AreNear vs n = (k : ℕ) → k < n → IsNear (point_of (vertex_at vs k))

-- so many vertices with such denominators and |x|, |y| at most 4, and at each edge all others
-- strictly to the left
pub record IsPolygon (vs : List Vertex) : Type 0 where
  pub counted : IsCounted vs
  pub small : HaveSmallDenominators vs (length vs)
  pub near : AreNear vs (length vs)
  pub left : (i : ℕ) → i < length vs → TurnsLeft vs i

-- the first thing that is wrong with a list of vertices: their number, then the first d out of its
-- range, then the
-- first vertex too far off, then the first edge with another vertex that isn't strictly to its left
abbrev pub IsPolygonErr : List Vertex → PolyErr → Type 0
IsPolygonErr vs Few = length vs < 3
IsPolygonErr vs Many = MOST_VERTICES < length vs
IsPolygonErr vs (Big i) = IsCounted vs × (i < length vs) × HaveSmallDenominators vs i ×
    (HasSmallDenominator (vertex_at vs i) → ⊥)
IsPolygonErr vs (Far i) = IsCounted vs × HaveSmallDenominators vs (length vs) × (i < length vs) ×
    AreNear vs i × (IsNear (point_of (vertex_at vs i)) → ⊥)
IsPolygonErr vs (Turn i) =
    IsCounted vs × HaveSmallDenominators vs (length vs) × AreNear vs (length vs) × (i < length vs) ×
    ((k : ℕ) → k < i → TurnsLeft vs k) × TurnsWrong vs i
IsPolygonErr vs NoMemory = ⊤

-- the region of a polygon: the left of each edge, with the edge where it is closed
abbrev pub region_of : List Vertex → Area
region_of vs = map (λ i. record { form = edge_at vs i; kind = (vertex_at vs i).kind })
    (range_with_len 0 (length vs))
