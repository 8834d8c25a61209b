-- The lines of a ring of vertices: how many there are, and one line a vertex.
use Rattle.std.specs.Prelude.{◌≡◌, ◌≢◌, ◌⊎◌, ℕ, ◌+◌, ◌-◌, ◌<◌, ◌≤◌, List, [], ◌∷◌, ◌++◌, length, Option, Some, None}
use Rattle.std.specs.List.{All}
use Rattle.srs_plane.specs.declared.halves.Kind.{Kind}
use Rattle.srs_plane.specs.declared.polygons.Vertex.{Vertex}
use Rattle.srs_plane.specs.declared.polygons.PolyErr.TheVariants as polygons
use Rattle.srs_plane.specs.Regions.{Area}
use Rattle.srs_plane.specs.Polygons.{IsPolygon, IsPolygonErr, region_of}
use Rattle.srs_plane.specs.Placed.{IsPlaced}
use Rattle.srs_line.specs.declared.slip.Slip.{Slip}
use Rattle.srs_line.specs.declared.slip.Slip.TheVariants.{Word, Count, Range, Turn}
use Rattle.srs_line.specs.Fields.{Says, HasWord, IsFieldSlip, SaysCount, IsCountSlip}
use Rattle.srs_cert.specs.Texts.{kind_word}

-- what a ring is seen as while it is read: how many vertices are still to come, those that came, and the region once
-- all of them are there
pub record RingView : Type 0 where
  pub left : ℕ
  pub vertices : List Vertex
  pub region : Option Area

-- no vertex, and none to come
abbrev pub no_ring : RingView
no_ring = record { left = 0; vertices = []; region = None }

-- the vertices are a polygon, and the region is theirs
abbrev pub IsFull : RingView → Type 0
IsFull ring = IsPolygon ring.vertices × (ring.region ≡ Some (region_of ring.vertices))

-- what a ring keeps while it is read: each vertex is in its range, and together with those to come there are 3 to 16
pub record IsGrowing (left : ℕ) (vs : List Vertex) : Type 0 where
  pub placed : All IsPlaced vs
  pub counted : 0 < left → (3 ≤ length vs + left) × (length vs + left ≤ 16)

-- the line says the vertex, which is in its range
abbrev pub SaysVertex : Vertex → List ℕ → Type 0
SaysVertex v line = Says (kind_word v.kind) (v.p ∷ v.q ∷ v.d ∷ []) line × IsPlaced v

-- What is wrong with a line that should say a vertex: its word is neither of the two, its fields aren't three numbers,
-- or its vertex is out of range.
abbrev pub IsVertexSlip : List ℕ → Slip → Type 0
IsVertexSlip line slip =
    (((kind : Kind) → HasWord (kind_word kind) line → ⊥) × (slip ≡ Word))
    ⊎ (((kind : Kind) × HasWord (kind_word kind) line × IsFieldSlip (kind_word kind) 3 line slip)
    ⊎ ((v : Vertex) × Says (kind_word v.kind) (v.p ∷ v.q ∷ v.d ∷ []) line × (¬ (IsPlaced v)) × (slip ≡ Range)))

-- the vertices turn the wrong way at one of them, whose line stands so many lines before that of the last one
abbrev pub IsTurn : List Vertex → Slip → ℕ → Type 0
IsTurn vs slip back = (i : ℕ) × IsPolygonErr vs (polygons.Turn i) × (slip ≡ Turn) × (back ≡ length vs - 1 - i)

-- the line says by this word how many vertices come
abbrev pub Opens : List ℕ → List ℕ → RingView → Type 0
Opens word line new = (n : ℕ) × SaysCount word 3 16 n line × (new ≡ record { left = n; vertices = []; region = None })

-- what is wrong with a line that should say by this word how many vertices come
abbrev pub IsOpenSlip : List ℕ → List ℕ → Slip → Type 0
IsOpenSlip word line slip = IsCountSlip word 3 16 Count line slip

-- The vertex is put at the end. With the last one the vertices are a polygon, whose region is kept.
abbrev pub Adds : RingView → Vertex → RingView → Type 0
Adds old v new =
    ((old.left ≢ 1) × (new ≡ record { left = old.left - 1; vertices = old.vertices ++ v ∷ []; region = old.region }))
    ⊎ ((old.left ≡ 1) × IsPolygon (old.vertices ++ v ∷ [])
    × (new ≡ record { left = 0; vertices = old.vertices ++ v ∷ []; region = Some (region_of (old.vertices ++ v ∷ [])) }))

-- the vertex is the last one, and with it the vertices turn the wrong way
abbrev pub SlipsAdd : RingView → Vertex → Slip → ℕ → Type 0
SlipsAdd old v slip back = (old.left ≡ 1) × IsTurn (old.vertices ++ v ∷ []) slip back

-- the line says a vertex that can be added
abbrev pub TakesVertex : RingView → List ℕ → RingView → Type 0
TakesVertex old line new = (v : Vertex) × SaysVertex v line × Adds old v new

-- The line says no vertex in its range, or with the vertex that it says, the last one, the vertices turn the wrong way.
abbrev pub SlipsVertex : RingView → List ℕ → Slip → ℕ → Type 0
SlipsVertex old line slip back = (IsVertexSlip line slip × (back ≡ 0)) ⊎ ((v : Vertex) × SaysVertex v line × SlipsAdd old v slip back)
