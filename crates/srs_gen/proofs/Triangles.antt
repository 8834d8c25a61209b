-- The vertices of a seed are those of a polygon.
use Rattle.std.proofs.Common.{◌≡◌, ℕ, zero, suc, ◌+◌, ◌<◌, List, [], ◌∷◌, pos, neg_ℤ, ◌<ℤ◌, refl, arith}
use Rattle.std.proofs.lemmas.Int.{ints}
use Rattle.srs_num.specs.Points.{value, IsNear}
use Rattle.srs_num.specs.Lines.{edge_form}
use Rattle.srs_plane.specs.declared.halves.Kind.{Kind}
use Rattle.srs_plane.specs.declared.polygons.Vertex.{Vertex}
use Rattle.srs_plane.specs.Polygons.{vertex_at, edge_at, point_of, HasSmallDenominator, IsOffEdge, TurnsLeft, IsPolygon}
use Rattle.srs_gen.specs.Samples.{made_vertices}

-- the triangle with edges of these kinds
abbrev triangle : Kind → Kind → Kind → List Vertex
triangle a b c =
    record { p = neg_ℤ (pos 1); q = pos 0; d = pos 1; kind = a } ∷ record {
      p = pos 1;
      q = neg_ℤ (pos 2);
      d = pos 1;
      kind = b;
    }
    ∷ record { p = pos 1; q = pos 2; d = pos 1; kind = c } ∷ []

at_three : (P : ℕ → Type 0) → P 0 → P 1 → P 2 → (k : ℕ) → k < 3 → P k
at_three P a b c zero h = a
at_three P a b c (suc zero) h = b
at_three P a b c (suc (suc zero)) h = c
at_three P a b c (suc (suc (suc k))) h = absurd (omega arith)

module _ (a b c : Kind) where
  small : (k : ℕ) → k < 3 → HasSmallDenominator (vertex_at (triangle a b c) k)
  small =
      let one : HasSmallDenominator (vertex_at (triangle a b c) 0) =
      record { d_low = omega (arith, ints); d_high = omega (arith, ints) } in
      at_three (λ k. HasSmallDenominator (vertex_at (triangle a b c) k)) one
      (record { d_low = omega (arith, ints); d_high = omega (arith, ints) })
      (record { d_low = omega (arith, ints); d_high = omega (arith, ints) })

  near : (k : ℕ) → k < 3 → IsNear (point_of (vertex_at (triangle a b c) k))
  near = at_three (λ k. IsNear (point_of (vertex_at (triangle a b c) k)))
      (record {
        p_low = omega (arith, ints);
        p_high = omega (arith, ints);
        q_low = omega (arith, ints);
        q_high = omega (arith, ints);
      })
      (record {
        p_low = omega (arith, ints);
        p_high = omega (arith, ints);
        q_low = omega (arith, ints);
        q_high = omega (arith, ints);
      })
      (record {
        p_low = omega (arith, ints);
        p_high = omega (arith, ints);
        q_low = omega (arith, ints);
        q_high = omega (arith, ints);
      })

  -- vertex j is left of the edge from vertex i
  abbrev IsLeftOf : ℕ → ℕ → Type 0
  IsLeftOf i j =
      pos 0 <ℤ value (edge_at (triangle a b c) i) (point_of (vertex_at (triangle a b c) j))

  first_left : IsLeftOf 0 2
  unfolding value edge_form
  first_left = omega (arith, ints)

  second_left : IsLeftOf 1 0
  unfolding value edge_form
  second_left = omega (arith, ints)

  third_left : IsLeftOf 2 1
  unfolding value edge_form
  third_left = omega (arith, ints)

  -- but for its two ends, one vertex is off an edge
  left_of : (i : ℕ) → ((j : ℕ) → j < 3 → IsOffEdge (triangle a b c) i j → IsLeftOf i j)
      → TurnsLeft (triangle a b c) i
  left_of i each j off = each j off.there off

  all_left : (i : ℕ) → i < 3 → TurnsLeft (triangle a b c) i
  all_left = at_three (λ i. TurnsLeft (triangle a b c) i)
      (left_of 0 (at_three (λ j. IsOffEdge (triangle a b c) 0 j → IsLeftOf 0 j)
      (λ off. absurd (off.not_start refl)) (λ off. absurd (off.not_end refl)) (λ off. first_left)))
      (left_of 1 (at_three (λ j. IsOffEdge (triangle a b c) 1 j → IsLeftOf 1 j)
      (λ off. second_left) (λ off. absurd (off.not_start refl)) (λ off. absurd (off.not_end refl))))
      (left_of 2 (at_three (λ j. IsOffEdge (triangle a b c) 2 j → IsLeftOf 2 j)
      (λ off. absurd (off.not_end refl)) (λ off. third_left) (λ off. absurd (off.not_start refl))))

  triangle_is : IsPolygon (triangle a b c)
  triangle_is =
      record { counted = (omega arith, omega arith); small = small; near = near; left = all_left }

pub made_polygon : (seed : ℕ) → IsPolygon (made_vertices seed)
made_polygon seed = triangle_is _ _ _
