-- Vertices by their number, round the ring.
use Rattle.std.proofs.Common.{◌≡◌, ◌≢◌, ℕ, ◌+◌, ◌%◌, ◌<◌, ◌≤◌, List, length, get_or, pos, sym, ap, ◌∙◌, arith}
use Rattle.std.proofs.Math.Nat.{mod-eq_of_lt, mod_self, zero-mod, mod-mod}
use Rattle.std.proofs.lemmas.List.{get_or_default}
use Rattle.std.proofs.lemmas.List.FromFn.{length-map-range_with_len}
use Rattle.srs_plane.specs.declared.halves.Kind.TheVariants.{Ge}
use Rattle.srs_plane.specs.declared.halves.Half.{Half}
use Rattle.srs_plane.specs.declared.polygons.Vertex.{Vertex}
use Rattle.srs_plane.specs.Regions.{Area}
use Rattle.srs_plane.specs.Polygons.{vertex_at, edge_at, IsCounted, IsOffEdge, region_of}

abbrev nought : Vertex
nought = record { p = pos 0; q = pos 0; d = pos 1; kind = Ge }

-- vertex i, for i below the number of vertices
pub vertex_at-within : (vs : List Vertex) (i : ℕ) (v : Vertex) → i < length vs → get_or vs i v ≡ vertex_at vs i
vertex_at-within vs i v lt = get_or_default vs i v nought lt ∙ ap (λ k. get_or vs k nought) (sym (mod-eq_of_lt lt))

-- after the last vertex comes the first
pub vertex_at-again : (vs : List Vertex) → vertex_at vs (length vs) ≡ vertex_at vs 0
vertex_at-again vs = ap (λ k. get_or vs k nought) (mod_self (length vs) ∙ sym (zero-mod (length vs)))

-- a remainder stands for the same vertex
pub vertex_at-remainder : (vs : List Vertex) (i : ℕ) → vertex_at vs (i % length vs) ≡ vertex_at vs i
vertex_at-remainder vs i = ap (λ k. get_or vs k nought) (mod-mod i (length vs))

-- the first vertex is off each edge but the first and the last
pub first_off : (vs : List Vertex) (i : ℕ) → 1 ≤ i → i + 1 < length vs → IsOffEdge vs i 0
first_off vs i low high = record { there = omega arith; not_start = omega arith; not_end = off (mod-eq_of_lt high) }
  where
    off : (i + 1) % length vs ≡ i + 1 → 0 ≢ (i + 1) % length vs
    off e = omega arith

-- a polygon has as many halves as vertices
pub few_halves : (vs : List Vertex) (R : Area) → IsCounted vs → R ≡ region_of vs → length R ≤ 16
few_halves vs R counted is =
    let side : ℕ → Half = λ i. record { form = edge_at vs i; kind = (vertex_at vs i).kind } in
    let e : length R ≡ length vs = ap length is ∙ length-map-range_with_len side 0 (length vs) in
    omega (arith, e, counted.1)
