-- The polygon and the points of a seed.
use Rattle.std.specs.Prelude.{ℕ, zero, suc, ◌+◌, ◌*◌, ℤ, pos, neg_ℤ, ◌-ℤ◌, List, [], ◌∷◌, map}
use Rattle.std.specs.List.{range_with_len}
use Rattle.srs_num.specs.Points.{Point}
use Rattle.srs_plane.specs.declared.halves.Kind.{Kind}
use Rattle.srs_plane.specs.declared.halves.Kind.TheVariants.{Ge, Gt}
use Rattle.srs_plane.specs.declared.polygons.Vertex.{Vertex}
use Rattle.srs_gen.specs.Draws.{next_state, draw_from, state_after}

-- closed for 0, open for 1
abbrev pub kind_by : ℕ → Kind
kind_by zero = Ge
kind_by (suc n) = Gt

-- the vertex at (p, q), whose kind is drawn in the state x
abbrev pub vertex_from : ℕ → ℤ → ℤ → Vertex
vertex_from x p q = record { p = p; q = q; d = pos 1; kind = kind_by (draw_from x 2) }

-- the triangle with the corners (-1, 0), (1, -2) and (1, 2), whose kinds are the first three draws
abbrev pub made_vertices : ℕ → List Vertex
made_vertices seed =
    vertex_from seed (neg_ℤ (pos 1)) (pos 0)
    ∷ vertex_from (state_after seed 1) (pos 1) (neg_ℤ (pos 2))
    ∷ vertex_from (state_after seed 2) (pos 1) (pos 2) ∷ []

-- the point that is drawn in the state x: two draws for its numerators, both coordinates at most 2
-- in magnitude
abbrev pub point_from : ℕ → Point
point_from x = record {
  p = pos (draw_from x 129) -ℤ pos 64;
  q = pos (draw_from (next_state x) 257) -ℤ pos 128;
  d = pos 64;
}

-- the first n points that are drawn from the state x on
abbrev pub points_from : ℕ → ℕ → List Point
points_from x n = map (λ i. point_from (state_after x (2 * i))) (range_with_len 0 n)

-- the first n points of the seed, drawn behind the kinds of the vertices
abbrev pub made_points : ℕ → ℕ → List Point
made_points seed n = points_from (state_after seed 3) n
