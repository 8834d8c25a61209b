-- The vertices speak for a convex polygon: the point is in one of the triangles that the first vertex makes with an edge.
use Rattle.std.proofs.Common.{◌≡◌, ℕ, zero, suc, ◌+◌, ◌-◌, ◌<◌, ◌≤◌, List, [], ◌∷◌, length, ℤ, pos, neg_ℤ, ◌+ℤ◌, ◌≤ℤ◌, ◌<ℤ◌, ap, ◌∙◌, subst, arith}
use Rattle.std.proofs.lemmas.Int.{by_lt_z}
use Rattle.srs_num.specs.Points.{Point, LinearForm, value}
use Rattle.srs_num.specs.Lines.{edge_form}
use Rattle.srs_num.proofs.Linear.{linear, mul_nonneg, nonneg_from}
use Rattle.srs_num.proofs.Ring.{v, ◌⊕◌, ◌⊖◌, ◌⊗◌, minus, ring}
use Rattle.srs_num.proofs.Identities.{area_identity}
use Rattle.srs_plane.specs.declared.halves.Half.{Half}
use Rattle.srs_plane.specs.declared.polygons.Vertex.{Vertex}
use Rattle.srs_plane.specs.Regions.{IsInClosed}
use Rattle.srs_plane.specs.Polygons.{point_of, vertex_at, edge_at, IsPolygon, region_of}
use Rattle.srs_plane.specs.Convexity.{IsInTriangle, IsAboveThree, IsAboveVertices}
use Rattle.srs_plane.proofs.Members.{each_of_range}
use Rattle.srs_plane.proofs.Ring_of_vertices.{vertex_at-again, first_off}

-- the area of a triangle, counted from its next corner
pub value-edge_next : (u t w : Point) → value (edge_form u t) w ≡ value (edge_form t w) u
unfolding value edge_form
value-edge_next u t w =
    ring (u.p ∷ u.q ∷ u.d ∷ t.p ∷ t.q ∷ t.d ∷ w.p ∷ w.q ∷ w.d ∷ [])
    ((v 1 ⊗ v 5 ⊖ v 2 ⊗ v 4) ⊗ v 6 ⊕ (v 2 ⊗ v 3 ⊖ v 0 ⊗ v 5) ⊗ v 7 ⊕ (v 0 ⊗ v 4 ⊖ v 1 ⊗ v 3) ⊗ v 8)
    ((v 4 ⊗ v 8 ⊖ v 5 ⊗ v 7) ⊗ v 0 ⊕ (v 5 ⊗ v 6 ⊖ v 3 ⊗ v 8) ⊗ v 1 ⊕ (v 3 ⊗ v 7 ⊖ v 4 ⊗ v 6) ⊗ v 2)
    tt

-- an edge turned round
pub value-edge_turned : (u t z : Point) → value (edge_form t u) z ≡ neg_ℤ (value (edge_form u t) z)
unfolding value edge_form
value-edge_turned u t z =
    ring (u.p ∷ u.q ∷ u.d ∷ t.p ∷ t.q ∷ t.d ∷ z.p ∷ z.q ∷ z.d ∷ [])
    ((v 4 ⊗ v 2 ⊖ v 5 ⊗ v 1) ⊗ v 6 ⊕ (v 5 ⊗ v 0 ⊖ v 3 ⊗ v 2) ⊗ v 7 ⊕ (v 3 ⊗ v 1 ⊖ v 4 ⊗ v 0) ⊗ v 8)
    (minus ((v 1 ⊗ v 5 ⊖ v 2 ⊗ v 4) ⊗ v 6 ⊕ (v 2 ⊗ v 3 ⊖ v 0 ⊗ v 5) ⊗ v 7 ⊕ (v 0 ⊗ v 4 ⊖ v 1 ⊗ v 3) ⊗ v 8))
    tt

pub corners_speak : (u t w : Point) → pos 0 <ℤ value (edge_form u t) w → (f : LinearForm) → IsAboveThree f u t w
    → (z : Point) → IsInTriangle u t w z → pos 0 ≤ℤ value f z
corners_speak u t w turn f above z within =
    nonneg_from (value (edge_form u t) w) (value f z) turn
    (of_sum _ _ _ _ (area_identity u t w z f)
    (mul_nonneg (value (edge_form t w) z) (value f u) within.second above.first)
    (mul_nonneg (value (edge_form w u) z) (value f t) within.third above.second)
    (mul_nonneg (value (edge_form u t) z) (value f w) within.first above.third))
  where
    of_sum : (x a b c : ℤ) → x ≡ a +ℤ b +ℤ c → pos 0 ≤ℤ a → pos 0 ≤ℤ b → pos 0 ≤ℤ c → pos 0 ≤ℤ x
    of_sum x a b c e h k l = omega (arith, linear)

-- z isn't to the right of any edge
abbrev IsLeft : List Vertex → Point → Type 0
IsLeft vs z = (i : ℕ) → i < length vs → pos 0 ≤ℤ value (edge_at vs i) z

-- the value at z of the line from the first vertex to vertex i
abbrev diagonal : List Vertex → Point → ℕ → ℤ
diagonal vs z i = value (edge_form (point_of (vertex_at vs 0)) (point_of (vertex_at vs i))) z

pub nonneg_of_opposite : (a b : ℤ) → a ≡ neg_ℤ b → b ≤ℤ pos 0 → pos 0 ≤ℤ a
nonneg_of_opposite a b e h = omega (arith, linear)

pub nonpos_of_opposite : (a b : ℤ) → a ≡ neg_ℤ b → pos 0 ≤ℤ a → b ≤ℤ pos 0
nonpos_of_opposite a b e h = omega (arith, linear)

pub pos_by : (a b : ℤ) → a ≡ b → pos 0 <ℤ b → pos 0 <ℤ a
pos_by a b e h = omega (arith, linear)

-- the triangle of the first vertex and the edge from vertex i
in_slice : (vs : List Vertex) → IsPolygon vs → (f : LinearForm) → IsAboveVertices f vs → (z : Point) → IsLeft vs z
    → (i : ℕ) → 1 ≤ i → i + 1 < length vs → pos 0 ≤ℤ diagonal vs z i → diagonal vs z (i + 1) ≤ℤ pos 0 → pos 0 ≤ℤ value f z
in_slice vs polygon f above z left i low high first last =
    let u = point_of (vertex_at vs 0) in
    let t = point_of (vertex_at vs i) in
    let w = point_of (vertex_at vs (i + 1)) in
    corners_speak u t w
    (pos_by _ _ (value-edge_next u t w) (polygon.left i (omega arith) 0 (first_off vs i low high)))
    f (record { first = above 0 (omega arith); second = above i (omega arith); third = above (i + 1) high })
    z (record { first = first; second = left i (omega arith); third = nonneg_of_opposite _ _ (value-edge_turned u w z) last })

-- vertex i + 2 has the point on its right, seen from the first
in_fan : (vs : List Vertex) → IsPolygon vs → (f : LinearForm) → IsAboveVertices f vs → (z : Point) → IsLeft vs z
    → (i : ℕ) → i + 2 < length vs → diagonal vs z (i + 2) ≤ℤ pos 0 → pos 0 ≤ℤ value f z
in_fan vs polygon f above z left zero high last = in_slice vs polygon f above z left 1 (omega arith) (omega arith) (left 0 (omega arith)) last
in_fan vs polygon f above z left (suc i) high last =
    by_lt_z (diagonal vs z (i + 2)) (pos 0)
    (λ lt. in_fan vs polygon f above z left i (omega arith) (below _ lt))
    (λ le. in_slice vs polygon f above z left (i + 2) (omega arith) (omega arith) le
    (let P : ℕ → Type 0 = λ j. diagonal vs z j ≤ℤ pos 0 in subst P (count i) last))
  where
    below : (a : ℤ) → a <ℤ pos 0 → a ≤ℤ pos 0
    below a h = omega (arith, linear)

    count : (i : ℕ) → suc i + 2 ≡ i + 2 + 1
    count i = omega arith

-- the last diagonal is the last edge, turned round
last_diagonal : (vs : List Vertex) → 3 ≤ length vs → (z : Point) → IsLeft vs z → (i : ℕ) → i + 3 ≡ length vs → diagonal vs z (i + 2) ≤ℤ pos 0
last_diagonal vs many z left i e =
    let u = point_of (vertex_at vs 0) in
    let t = point_of (vertex_at vs (i + 2)) in
    let next : i + 2 + 1 ≡ length vs = omega arith in
    let again : vertex_at vs (i + 2 + 1) ≡ vertex_at vs 0 = ap (vertex_at vs) next ∙ vertex_at-again vs in
    let P : Vertex → Type 0 = λ x. pos 0 ≤ℤ value (edge_form t (point_of x)) z in
    nonpos_of_opposite _ _ (value-edge_turned u t z) (subst P again (left (i + 2) (omega arith)))

pub vertices_speak : (vs : List Vertex) → IsPolygon vs → (f : LinearForm) → IsAboveVertices f vs
    → (z : Point) → IsInClosed (region_of vs) z → pos 0 ≤ℤ value f z
vertices_speak vs polygon f above z within =
    let many : 3 ≤ length vs = polygon.counted.0 in
    let left : IsLeft vs z = λ i lt.
    each_of_range (λ (h : Half). pos 0 ≤ℤ value h.form z) (λ i. record { form = edge_at vs i; kind = (vertex_at vs i).kind }) (length vs) 0 within.halves i (omega arith) (omega arith) in
    let e : length vs - 3 + 3 ≡ length vs = omega arith in
    in_fan vs polygon f above z left (length vs - 3) (omega arith) (last_diagonal vs many z left (length vs - 3) e)
