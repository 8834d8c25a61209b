-- A polygon has a point: the sum of three vertices is strictly to the left of each edge, since one of the three is off it.
use Rattle.std.proofs.Common.{◌≡◌, ◌≢◌, ℕ, zero, suc, ◌+◌, ◌%◌, ◌<◌, ◌≤◌, ◌⊎◌, List, [], ◌∷◌, length, ℤ, pos, ◌+ℤ◌, ◌≤ℤ◌, ◌<ℤ◌, ap, ◌∙◌, arith, ⊎_elim, inl, inr}
use Rattle.srs_num.specs.Points.{Point, IsPoint, value}
use Rattle.srs_num.specs.Lines.{edge_form, plus}
use Rattle.srs_num.proofs.Linear.{linear}
use Rattle.srs_num.proofs.Ring.{v, lit, ◌⊕◌, ◌⊖◌, ◌⊗◌, ring}
use Rattle.srs_num.proofs.Identities.{value-plus}
use Rattle.srs_plane.specs.declared.halves.Kind.{Kind}
use Rattle.srs_plane.specs.declared.halves.Kind.TheVariants.{Ge, Gt}
use Rattle.srs_plane.specs.declared.halves.Half.{Half}
use Rattle.srs_plane.specs.declared.polygons.Vertex.{Vertex}
use Rattle.srs_plane.specs.Regions.{Asks, IsInHalf, HasPoint}
use Rattle.srs_plane.specs.Polygons.{point_of, vertex_at, edge_at, IsPolygon, region_of}
use Rattle.srs_plane.proofs.Members.{all_of_range}
use Rattle.srs_plane.proofs.Ring_of_vertices.{vertex_at-remainder}

-- both ends of an edge are on its line
value-edge_start : (u w : Point) → value (edge_form u w) u ≡ pos 0
unfolding value edge_form
value-edge_start u w =
    ring (u.p ∷ u.q ∷ u.d ∷ w.p ∷ w.q ∷ w.d ∷ [])
    ((v 1 ⊗ v 5 ⊖ v 2 ⊗ v 4) ⊗ v 0 ⊕ (v 2 ⊗ v 3 ⊖ v 0 ⊗ v 5) ⊗ v 1 ⊕ (v 0 ⊗ v 4 ⊖ v 1 ⊗ v 3) ⊗ v 2) (lit (pos 0)) tt

value-edge_end : (u w : Point) → value (edge_form u w) w ≡ pos 0
unfolding value edge_form
value-edge_end u w =
    ring (u.p ∷ u.q ∷ u.d ∷ w.p ∷ w.q ∷ w.d ∷ [])
    ((v 1 ⊗ v 5 ⊖ v 2 ⊗ v 4) ⊗ v 3 ⊕ (v 2 ⊗ v 3 ⊖ v 0 ⊗ v 5) ⊗ v 4 ⊕ (v 0 ⊗ v 4 ⊖ v 1 ⊗ v 3) ⊗ v 5) (lit (pos 0)) tt

same_or_not : (a b : ℕ) → (a ≡ b) ⊎ (a ≢ b)
same_or_not a b = grind arith

-- one of three numbers that is neither i nor m
record IsThird (i m : ℕ) : Type 0 where
  at : ℕ
  low : at < 3
  not_first : at ≢ i
  not_second : at ≢ m

third : (i m : ℕ) → IsThird i m
third zero zero = record { at = 1; low = omega arith; not_first = omega arith; not_second = omega arith }
third zero (suc zero) = record { at = 2; low = omega arith; not_first = omega arith; not_second = omega arith }
third zero (suc (suc m)) = record { at = 1; low = omega arith; not_first = omega arith; not_second = omega arith }
third (suc zero) zero = record { at = 2; low = omega arith; not_first = omega arith; not_second = omega arith }
third (suc (suc i)) zero = record { at = 1; low = omega arith; not_first = omega arith; not_second = omega arith }
third (suc i) (suc m) = record { at = 0; low = omega arith; not_first = omega arith; not_second = omega arith }

-- three numbers that are at least 0, one of them above 0
sum_pos : (f : ℕ → ℤ) → ((j : ℕ) → j < 3 → pos 0 ≤ℤ f j) → (k : ℕ) → k < 3 → pos 0 <ℤ f k → pos 0 <ℤ (f 0 +ℤ (f 1 +ℤ f 2))
sum_pos f each k low up = by_case k low up
  where
    add : (a b c : ℤ) → pos 0 ≤ℤ a → pos 0 ≤ℤ b → pos 0 ≤ℤ c → (pos 0 <ℤ a) ⊎ ((pos 0 <ℤ b) ⊎ (pos 0 <ℤ c)) → pos 0 <ℤ (a +ℤ (b +ℤ c))
    add a b c h k l some = ⊎_elim (λ u. first a b c u k l) (λ rest. ⊎_elim (λ u. second a b c h u l) (λ u. last a b c h k u) rest) some
      where
        first : (a b c : ℤ) → pos 0 <ℤ a → pos 0 ≤ℤ b → pos 0 ≤ℤ c → pos 0 <ℤ (a +ℤ (b +ℤ c))
        first a b c h k l = omega (arith, linear)

        second : (a b c : ℤ) → pos 0 ≤ℤ a → pos 0 <ℤ b → pos 0 ≤ℤ c → pos 0 <ℤ (a +ℤ (b +ℤ c))
        second a b c h k l = omega (arith, linear)

        last : (a b c : ℤ) → pos 0 ≤ℤ a → pos 0 ≤ℤ b → pos 0 <ℤ c → pos 0 <ℤ (a +ℤ (b +ℤ c))
        last a b c h k l = omega (arith, linear)

    by_case : (k : ℕ) → k < 3 → pos 0 <ℤ f k → pos 0 <ℤ (f 0 +ℤ (f 1 +ℤ f 2))
    by_case zero low up = add (f 0) (f 1) (f 2) (each 0 (omega arith)) (each 1 (omega arith)) (each 2 (omega arith)) (inl up)
    by_case (suc zero) low up = add (f 0) (f 1) (f 2) (each 0 (omega arith)) (each 1 (omega arith)) (each 2 (omega arith)) (inr (inl up))
    by_case (suc (suc zero)) low up = add (f 0) (f 1) (f 2) (each 0 (omega arith)) (each 1 (omega arith)) (each 2 (omega arith)) (inr (inr up))
    by_case (suc (suc (suc k))) low up = absurd (omega arith)

-- no vertex is to the right of an edge
not_right : (vs : List Vertex) → IsPolygon vs → (i : ℕ) → i < length vs → (j : ℕ) → j < length vs → pos 0 ≤ℤ value (edge_at vs i) (point_of (vertex_at vs j))
not_right vs polygon i lt j there =
    let u = point_of (vertex_at vs i) in
    let w = point_of (vertex_at vs (i + 1)) in
    ⊎_elim
    (λ (e : j ≡ i). zero_or_more _ (ap (λ k. value (edge_at vs i) (point_of (vertex_at vs k))) e ∙ value-edge_start u w))
    (λ (start : j ≢ i). ⊎_elim
    (λ (e : j ≡ (i + 1) % length vs).
    zero_or_more _ (ap (λ k. value (edge_at vs i) (point_of (vertex_at vs k))) e ∙ ap (λ x. value (edge_at vs i) (point_of x)) (vertex_at-remainder vs (i + 1)) ∙ value-edge_end u w))
    (λ (end : j ≢ (i + 1) % length vs). weaken _ (polygon.left i lt j (record { there = there; not_start = start; not_end = end })))
    (same_or_not j ((i + 1) % length vs)))
    (same_or_not j i)
  where
    zero_or_more : (a : ℤ) → a ≡ pos 0 → pos 0 ≤ℤ a
    zero_or_more a e = omega (arith, linear)

    weaken : (a : ℤ) → pos 0 <ℤ a → pos 0 ≤ℤ a
    weaken a h = omega (arith, linear)

-- the sum of the first three vertices
middle_of : List Vertex → Point
middle_of vs = plus (point_of (vertex_at vs 0)) (plus (point_of (vertex_at vs 1)) (point_of (vertex_at vs 2)))

middle_deep : (vs : List Vertex) → IsPolygon vs → IsPoint (middle_of vs)
unfolding plus middle_of
middle_deep vs polygon =
    let many : 3 ≤ length vs = polygon.counted.0 in
    deep _ _ _ (polygon.small 0 (omega arith)).d_low (polygon.small 1 (omega arith)).d_low (polygon.small 2 (omega arith)).d_low
  where
    deep : (a b c : ℤ) → pos 1 ≤ℤ a → pos 1 ≤ℤ b → pos 1 ≤ℤ c → pos 1 ≤ℤ (a +ℤ (b +ℤ c))
    deep a b c h k l = omega (arith, linear)

middle_left : (vs : List Vertex) → IsPolygon vs → (i : ℕ) → i < length vs → pos 0 <ℤ value (edge_at vs i) (middle_of vs)
unfolding middle_of
middle_left vs polygon i lt =
    let many : 3 ≤ length vs = polygon.counted.0 in
    let f = edge_at vs i in
    let at = λ (j : ℕ). value f (point_of (vertex_at vs j)) in
    let t = third i ((i + 1) % length vs) in
    let up : pos 0 <ℤ at t.at = polygon.left i lt t.at (record { there = more t.at t.low many; not_start = t.not_first; not_end = t.not_second }) in
    by_sum _ _
    (value-plus f (point_of (vertex_at vs 0)) (plus (point_of (vertex_at vs 1)) (point_of (vertex_at vs 2)))
    ∙ ap (λ x. value f (point_of (vertex_at vs 0)) +ℤ x) (value-plus f (point_of (vertex_at vs 1)) (point_of (vertex_at vs 2))))
    (sum_pos at (λ j low. not_right vs polygon i lt j (more j low many)) t.at t.low up)
  where
    more : (j : ℕ) → j < 3 → 3 ≤ length vs → j < length vs
    more j h k = omega arith

    by_sum : (a b : ℤ) → a ≡ b → pos 0 <ℤ b → pos 0 <ℤ a
    by_sum a b e h = omega (arith, linear)

pub polygon_has_point : (vs : List Vertex) → IsPolygon vs → HasPoint (region_of vs)
polygon_has_point vs polygon = (
  middle_of vs,
  record {
    is_point = middle_deep vs polygon;
    halves = all_of_range (λ (h : Half). IsInHalf h (middle_of vs)) (λ i. record { form = edge_at vs i; kind = (vertex_at vs i).kind }) (length vs) 0
        (λ i low high. holds (vertex_at vs i).kind (value (edge_at vs i) (middle_of vs)) (middle_left vs polygon i (omega arith)));
  },
)
  where
    holds : (kind : Kind) (a : ℤ) → pos 0 <ℤ a → Asks kind a
    holds Ge a h = omega (arith, linear)
    holds Gt a h = h
