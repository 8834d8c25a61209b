-- A line of a ring says a vertex that can be added, or has a slip.
use Rattle.std.proofs.Common.{◌≡◌, ◌≢◌, ◌⊎◌, ◌<◌, ◌+◌, ◌-◌, ◌%◌, ◌++◌, All, ℕ, zero, suc, ℤ, pos, neg_ℤ, ◌*ℤ◌, ◌≤ℤ◌, ◌<ℤ◌, unsigned_abs, Some, List, [], ◌∷◌, length, get_or, codes, refl, sym, inl, inr, arith, length-append}
use Rattle.std.specs.Int.Signed.{clash_ℤ}
use Rattle.std.proofs.lemmas.Int.{by_lt_z}
use Rattle.std.proofs.lemmas.List.Elements.{All-nil, All-cons, All-append}
use Rattle.std.proofs.lemmas.Bool.Decides.{leb_tells}
use Rattle.srs_num.specs.Points.{Point, IsNear, IsWithin, value}
use Rattle.srs_plane.specs.declared.halves.Kind.{Kind}
use Rattle.srs_plane.specs.declared.halves.Kind.TheVariants.{Ge, Gt}
use Rattle.srs_plane.specs.declared.polygons.Vertex.{Vertex}
use Rattle.srs_plane.specs.declared.polygons.PolyErr.TheVariants as polygons
use Rattle.srs_plane.specs.declared.polygons.TheConstants.{MOST_VERTEX_DENOMINATOR}
use Rattle.srs_plane.specs.Placed.{IsPlaced}
use Rattle.srs_plane.specs.Polygons.{point_of, vertex_at, edge_at, HasSmallDenominator, IsOffEdge, TurnsLeft, TurnsWrong, IsCounted, IsPolygon, IsPolygonErr, region_of}
use Rattle.srs_plane.proofs.Ring_of_vertices.{vertex_at-within}
use Rattle.srs_line.specs.declared.slip.Slip.{Slip}
use Rattle.srs_line.specs.declared.slip.Slip.TheVariants.{Word, Range, Turn}
use Rattle.srs_line.specs.Fields.{Says, HasWord}
use Rattle.srs_line.proofs.Decided.{Decided, both_decided, same_decided, eq_decided, le_decided, word_decided, three_decided}
use Rattle.srs_cert.specs.Texts.{kind_word}
use Rattle.srs_file.specs.Ring.{RingView, IsGrowing, SaysVertex, IsVertexSlip, Adds, TakesVertex, SlipsVertex}
use Rattle.srs_file.proofs.Growing.{grows}

pub int_le_decided : (x y : ℤ) → Decided (x ≤ℤ y)
int_le_decided x y = by_lt_z y x (λ lt. inr (λ le. clash_ℤ lt le)) (λ le. inl le)

pub within_decided : (m : ℕ) (z : ℤ) → Decided (IsWithin m z)
within_decided m z = le_decided (unsigned_abs z) m

pub near_decided : (r : Point) → Decided (IsNear r)
near_decided r =
    let low = neg_ℤ (pos 4 *ℤ r.d) in
    let high = pos 4 *ℤ r.d in
    same_decided ((low ≤ℤ r.p × (r.p ≤ℤ high)) × (low ≤ℤ r.q × (r.q ≤ℤ high))) (IsNear r)
    (λ n. record { p_low = n.0.0; p_high = n.0.1; q_low = n.1.0; q_high = n.1.1 }) (λ n. ((n.p_low, n.p_high), (n.q_low, n.q_high)))
    (both_decided (low ≤ℤ r.p × (r.p ≤ℤ high)) (low ≤ℤ r.q × (r.q ≤ℤ high))
    (both_decided (low ≤ℤ r.p) (r.p ≤ℤ high) (int_le_decided low r.p) (int_le_decided r.p high))
    (both_decided (low ≤ℤ r.q) (r.q ≤ℤ high) (int_le_decided low r.q) (int_le_decided r.q high)))

placed_decided : (v : Vertex) → Decided (IsPlaced v)
placed_decided v =
    same_decided ((pos 1 ≤ℤ v.d × (v.d ≤ℤ MOST_VERTEX_DENOMINATOR)) × IsNear (point_of v)) (IsPlaced v)
    (λ p. record { small = record { d_low = p.0.0; d_high = p.0.1 }; near = p.1 }) (λ p. ((p.small.d_low, p.small.d_high), p.near))
    (both_decided (pos 1 ≤ℤ v.d × (v.d ≤ℤ MOST_VERTEX_DENOMINATOR)) (IsNear (point_of v))
    (both_decided (pos 1 ≤ℤ v.d) (v.d ≤ℤ MOST_VERTEX_DENOMINATOR) (int_le_decided (pos 1) v.d) (int_le_decided v.d MOST_VERTEX_DENOMINATOR))
    (near_decided (point_of v)))

-- no kind's word begins the line
no_kind : (line : List ℕ) → ¬ (HasWord (codes "ge") line) → ¬ (HasWord (codes "gt") line) → (kind : Kind) → HasWord (kind_word kind) line → ⊥
no_kind line ge gt Ge w = ge w
no_kind line ge gt Gt w = gt w

kind_decided : (line : List ℕ) → ((kind : Kind) × HasWord (kind_word kind) line) ⊎ ((kind : Kind) → HasWord (kind_word kind) line → ⊥)
kind_decided line =
    elim (word_decided (codes "ge") line) [
      | inl ge ↦ inl (Ge, ge)
      | inr no_ge ↦ elim (word_decided (codes "gt") line) [
        | inl gt ↦ inl (Gt, gt)
        | inr no_gt ↦ inr (no_kind line no_ge no_gt)
      ]
    ]

vertex_decided : (line : List ℕ) → ((v : Vertex) × SaysVertex v line) ⊎ ((slip : Slip) × IsVertexSlip line slip)
vertex_decided line =
    elim (kind_decided line) [
      | inl k ↦ elim (three_decided (kind_word k.0) line) [
        | inl s ↦
            let v : Vertex = record { p = s.0; q = s.1; d = s.2; kind = k.0 } in
            elim (placed_decided v) [ inl placed ↦ inl (v, (s.3, placed)) | inr out ↦ inr (Range, inr (inr (v, s.3, out, refl))) ]
        | inr f ↦ inr (f.0, inr (inl (k.0, k.1, f.1)))
      ]
      | inr none ↦ inr (Word, inl (none, refl))
    ]

lt_decided : (m n : ℕ) → Decided (m < n)
lt_decided m n = elim (leb_tells n m) [ inl e ↦ inr (λ lt. absurd (let le = e.1 in omega arith)) | inr e ↦ inl e.1 ]

not_decided : (P : Type 0) → Decided P → Decided (¬ P)
not_decided P (inl p) = inr (λ no_p. no_p p)
not_decided P (inr p) = inl p

off_decided : (vs : List Vertex) (i j : ℕ) → Decided (IsOffEdge vs i j)
off_decided vs i j =
    same_decided (((j < length vs) × (j ≢ i)) × (j ≢ (i + 1) % length vs)) (IsOffEdge vs i j)
    (λ o. record { there = o.0.0; not_start = o.0.1; not_end = o.1 }) (λ o. ((o.there, o.not_start), o.not_end))
    (both_decided ((j < length vs) × (j ≢ i)) (j ≢ (i + 1) % length vs)
    (both_decided (j < length vs) (j ≢ i) (lt_decided j (length vs)) (not_decided (j ≡ i) (eq_decided j i)))
    (not_decided (j ≡ (i + 1) % length vs) (eq_decided j ((i + 1) % length vs))))

-- the vertices below n are to the left of the edge from vertex i
abbrev AreLeft : List Vertex → ℕ → ℕ → Type 0
AreLeft vs i n = (j : ℕ) → j < n → IsOffEdge vs i j → pos 0 <ℤ value (edge_at vs i) (point_of (vertex_at vs j))

one_left : (vs : List Vertex) (i n : ℕ) → AreLeft vs i n → (IsOffEdge vs i n → pos 0 <ℤ value (edge_at vs i) (point_of (vertex_at vs n))) → AreLeft vs i (suc n)
one_left vs i n before here j lt off =
    elim (eq_decided j n) [
      | inl e ↦ rw e (here (rw e at off))
      | inr ne ↦ before j (omega arith) off
    ]

left_upto : (vs : List Vertex) (i n : ℕ) → AreLeft vs i n ⊎ TurnsWrong vs i
left_upto vs i zero = inl (λ j lt off. absurd (omega arith))
left_upto vs i (suc n) =
    elim (left_upto vs i n) [
      | inl before ↦ elim (off_decided vs i n) [
        | inl off ↦ by_lt_z (pos 0) (value (edge_at vs i) (point_of (vertex_at vs n))) (λ lt. inl (one_left vs i n before (λ o. lt))) (λ le. inr (n, off, le))
        | inr on ↦ inl (one_left vs i n before (λ off. absurd (on off)))
      ]
      | inr wrong ↦ inr wrong
    ]

turn_decided : (vs : List Vertex) (i : ℕ) → TurnsLeft vs i ⊎ TurnsWrong vs i
turn_decided vs i = elim (left_upto vs i (length vs)) [ inl all ↦ inl (λ j off. all j off.there off) | inr wrong ↦ inr wrong ]

-- the first of the edges below n that turns the wrong way
abbrev FirstTurn : List Vertex → ℕ → Type 0
FirstTurn vs n = (i : ℕ) × (i < n) × ((k : ℕ) → k < i → TurnsLeft vs k) × TurnsWrong vs i

one_more : (vs : List Vertex) (n : ℕ) → ((k : ℕ) → k < n → TurnsLeft vs k) → TurnsLeft vs n → (k : ℕ) → k < suc n → TurnsLeft vs k
one_more vs n before here k lt = elim (eq_decided k n) [ inl e ↦ rw e here | inr ne ↦ before k (omega arith) ]

first_turn : (vs : List Vertex) (n : ℕ) → ((k : ℕ) → k < n → TurnsLeft vs k) ⊎ FirstTurn vs n
first_turn vs zero = inl (λ k lt. absurd (omega arith))
first_turn vs (suc n) =
    elim (first_turn vs n) [
      | inl before ↦ elim (turn_decided vs n) [
        | inl here ↦ inl (one_more vs n before here)
        | inr wrong ↦ inr (n, omega arith, before, wrong)
      ]
      | inr first ↦ inr (first.0, omega (arith, first.1), first.2, first.3)
    ]

polygon_decided : (vs : List Vertex) → IsCounted vs → All IsPlaced vs → IsPolygon vs ⊎ ((i : ℕ) × IsPolygonErr vs (polygons.Turn i))
polygon_decided vs counted placed =
    let each : (k : ℕ) → k < length vs → IsPlaced (vertex_at vs k) = λ k lt. rw (vertex_at-within vs k (vertex_at vs k) lt) at (placed k (vertex_at vs k) lt) in
    let small : (k : ℕ) → k < length vs → HasSmallDenominator (vertex_at vs k) = λ k lt. (each k lt).small in
    let near : (k : ℕ) → k < length vs → IsNear (point_of (vertex_at vs k)) = λ k lt. (each k lt).near in
    elim (first_turn vs (length vs)) [
      | inl left ↦ inl (record { counted = counted; small = small; near = near; left = left })
      | inr first ↦ inr (first.0, (counted, small, near, first.1, first.2, first.3))
    ]

-- what a good line of a ring makes, or its slip
pub ring_decided : (r : RingView) → IsGrowing r.left r.vertices → 0 < r.left → (line : List ℕ)
    → ((t : RingView) × TakesVertex r line t) ⊎ ((slip : Slip) × (back : ℕ) × SlipsVertex r line slip back)
ring_decided r g more line =
    elim (vertex_decided line) [
      | inl v ↦ elim (eq_decided r.left 1) [
        | inl last ↦
            let vs = r.vertices ++ v.0 ∷ [] in
            let size : length vs ≡ length r.vertices + 1 = length-append r.vertices (v.0 ∷ []) in
            let bounds = g.counted more in
            let placed = All-append IsPlaced r.vertices (v.0 ∷ []) g.placed (All-cons IsPlaced v.0 [] v.1.1 (All-nil IsPlaced)) in
            elim (polygon_decided vs (omega (arith, size, bounds), omega (arith, size, bounds)) placed) [
              | inl p ↦ inl (record { left = 0; vertices = vs; region = Some (region_of vs) }, (v.0, v.1, inr (last, p, refl)))
              | inr t ↦ inr (Turn, length vs - 1 - t.0, inr (v.0, v.1, (last, (t.0, t.1, refl, refl))))
            ]
        | inr not_last ↦ inl (record { left = r.left - 1; vertices = r.vertices ++ v.0 ∷ []; region = r.region }, (v.0, v.1, inl (not_last, refl)))
      ]
      | inr f ↦ inr (f.0, 0, inl (f.1, refl))
    ]

pub ring_keeps : (r t : RingView) (line : List ℕ) → IsGrowing r.left r.vertices → 0 < r.left → TakesVertex r line t → IsGrowing t.left t.vertices
ring_keeps r t line g more (v, said, inl (not_last, e)) = rw e (grows r.left r.vertices (r.vertices ++ v ∷ []) v g more said.1 refl)
ring_keeps r t line g more (v, said, inr (last, p, e)) =
    let less : r.left - 1 ≡ 0 = omega arith in
    rw (e, ← less) (grows r.left r.vertices (r.vertices ++ v ∷ []) v g more said.1 refl)
