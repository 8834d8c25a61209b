-- The least floor and the greatest ceiling of the coordinates of vertices.
use Rattle.std.proofs.Common.{◌≡◌, ◌⊎◌, inl, inr, ℕ, ◌+◌, ◌^◌, ◌<◌, ℤ, pos, neg_ℤ, ◌+ℤ◌, ◌-ℤ◌, ◌*ℤ◌, ◌≤ℤ◌, ◌<ℤ◌, List, [], ◌∷◌, length, get_or, Bool, true, false, cond, refl, sym, subst, ◌∙◌, FitsSigned, w64, arith, lit<}
use Rattle.std.specs.Prelude.{Contains, int_lt}
use Rattle.std.specs.Int.{int_min, int_max, w128}
use Rattle.std.proofs.lemmas.Bool.{cases_order}
use Rattle.std.proofs.lemmas.Int.{ints}
use Rattle.srs_num.specs.Points.{IsWithin}
use Rattle.srs_num.specs.Floor.{IsFloor, IsCeiling}
use Rattle.srs_num.proofs.Linear.{linear, mul_mono}
use Rattle.srs_num.proofs.Floors.{floor_within}
use Rattle.srs_num.proofs.Ranges.{small_fits}
use Rattle.srs_num.proofs.Ring.{v, ◌⊗◌, minus, ring}
use Rattle.srs_plane.specs.declared.polygons.Vertex.{Vertex}
use Rattle.srs_plane.specs.Polygons.{IsPolygon}
use Rattle.srs_plane.specs.Placed.{IsPlaced}
use Rattle.srs_plane.proofs.Ring_of_vertices.{vertex_at-within}
use Rattle.srs_raster.specs.declared.frames.Axis.{Axis}
use Rattle.srs_raster.specs.Frames.{scaled_by, IsFloorOfLeast, IsCeilingOfGreatest}

pub least_within : (m : ℕ) (k f : ℤ) → IsWithin m k → IsWithin m f → IsWithin m (int_min k f)
least_within m k f a b = elim (int_lt f k) as (λ t. IsWithin m (cond t f k)) [ true ↦ b | false ↦ a ]

pub greatest_within : (m : ℕ) (k f : ℤ) → IsWithin m k → IsWithin m f → IsWithin m (int_max k f)
greatest_within m k f a b = elim (int_lt f k) as (λ t. IsWithin m (cond t k f)) [ true ↦ a | false ↦ b ]

-- a ceiling between -m and m, where the number is between -m*d and m*d
pub ceiling_within : (m : ℕ) (n d k : ℤ) → pos 1 ≤ℤ d → IsCeiling n d k → neg_ℤ (pos m *ℤ d) ≤ℤ n → n ≤ℤ (pos m *ℤ d) → IsWithin m k
ceiling_within m n d k h c low high =
    back (floor_within m (neg_ℤ n) d (neg_ℤ k) h floor (turn_low (pos m *ℤ d) n high) (turn_high (pos m *ℤ d) n low))
  where
    turned : neg_ℤ k *ℤ d ≡ neg_ℤ (k *ℤ d)
    turned = ring (k ∷ d ∷ []) (minus (v 0) ⊗ v 1) (minus (v 0 ⊗ v 1)) tt

    not_above : (x y n : ℤ) → x ≡ neg_ℤ y → n ≤ℤ y → x ≤ℤ neg_ℤ n
    not_above x y n e h = omega (arith, linear)

    greatest : (x y n d : ℤ) → x ≡ neg_ℤ y → (y -ℤ d) <ℤ n → neg_ℤ n <ℤ (x +ℤ d)
    greatest x y n d e h = omega (arith, linear)

    floor : IsFloor (neg_ℤ n) d (neg_ℤ k)
    floor = record {
      not_above = not_above (neg_ℤ k *ℤ d) (k *ℤ d) n turned c.not_below;
      greatest = greatest (neg_ℤ k *ℤ d) (k *ℤ d) n d turned c.least;
    }

    turn_low : (x n : ℤ) → n ≤ℤ x → neg_ℤ x ≤ℤ neg_ℤ n
    turn_low x n h = omega (arith, linear)

    turn_high : (x n : ℤ) → neg_ℤ x ≤ℤ n → neg_ℤ n ≤ℤ x
    turn_high x n h = omega (arith, linear)

    back : IsWithin m (neg_ℤ k) → IsWithin m k
    back h = omega (arith, ints)

-- a coordinate 64 times over and its denominator, in the widths in which they are divided
pub record ScaledFits (n d : ℤ) : Type 0 where
  pub n128 : FitsSigned w128 n
  pub d64 : FitsSigned w64 d
  pub d128 : FitsSigned w128 d

pub scaled_fits : (u : Vertex) (n : ℤ) → IsPlaced u → IsWithin (2 ^ 30) n → ScaledFits n u.d
scaled_fits u n placed sized = record {
  n128 = small_fits w128 n (2 ^ 30) sized (lit< tt);
  d64 = small_fits w64 u.d 65536 d_range (lit< tt);
  d128 = small_fits w128 u.d 65536 d_range (lit< tt);
}
  where
    denominator : (d : ℤ) → pos 1 ≤ℤ d → d ≤ℤ pos 65536 → IsWithin 65536 d
    denominator d h k = omega (arith, ints)

    d_range : IsWithin 65536 u.d
    d_range = denominator u.d placed.small.d_low placed.small.d_high

-- the quotient, in both widths
pub record EndFits (k : ℤ) : Type 0 where
  pub narrow : IsWithin 256 k
  pub in64 : FitsSigned w64 k
  pub in128 : FitsSigned w128 k

end_fits : (k : ℤ) → IsWithin 256 k → EndFits k
end_fits k h = record {
  narrow = h;
  in64 = small_fits w64 k 256 h (lit< tt);
  in128 = small_fits w128 k 256 h (lit< tt);
}

pub floor_fits : (n d k : ℤ) → IsFloor n d k → pos 1 ≤ℤ d → neg_ℤ (pos 256 *ℤ d) ≤ℤ n → n ≤ℤ (pos 256 *ℤ d) → EndFits k
floor_fits n d k floor h low high = end_fits k (floor_within 256 n d k h floor low high)

pub ceiling_fits : (n d k : ℤ) → IsCeiling n d k → pos 1 ≤ℤ d → neg_ℤ (pos 256 *ℤ d) ≤ℤ n → n ≤ℤ (pos 256 *ℤ d) → EndFits k
ceiling_fits n d k ceiling h low high = end_fits k (ceiling_within 256 n d k h ceiling low high)

module _ (vs : List Vertex) (polygon : IsPolygon vs) where
  -- each vertex is placed
  pub placed : (i : ℕ) (d : Vertex) → i < length vs → IsPlaced (get_or vs i d)
  placed i d l = subst IsPlaced (sym (vertex_at-within vs i d l)) (record { small = polygon.small i l; near = polygon.near i l })

  -- a vertex that was read
  pub read : (i : ℕ) (d : Vertex) → i < length vs → get_or vs i d ≡ get_or vs i (get_or vs i d)
  read i d l = vertex_at-within vs i d l ∙ sym (vertex_at-within vs i (get_or vs i d) l)

  pub placed_at : (i : ℕ) (u : Vertex) → i < length vs → u ≡ get_or vs i u → IsPlaced u
  placed_at i u l e = subst IsPlaced (sym e) (placed i u l)

  module _ (axis : Axis) where
    -- k is the floor at some vertex, and isn't above at the first n
    pub record IsLowest (n : ℕ) (k : ℤ) : Type 0 where
      pub floor : (u : Vertex) × Contains vs u × IsFloor (scaled_by axis u) u.d k
      pub below : (j : ℕ) (u : Vertex) → j < n → j < length vs → get_or vs j u ≡ u → (k *ℤ u.d) ≤ℤ scaled_by axis u

    -- k is the ceiling at some vertex, and isn't below at the first n
    pub record IsHighest (n : ℕ) (k : ℤ) : Type 0 where
      pub ceiling : (u : Vertex) × Contains vs u × IsCeiling (scaled_by axis u) u.d k
      pub above : (j : ℕ) (u : Vertex) → j < n → j < length vs → get_or vs j u ≡ u → scaled_by axis u ≤ℤ (k *ℤ u.d)

    member : (i : ℕ) (u : Vertex) → i < length vs → u ≡ get_or vs i u → Contains vs u
    member i u l e = (i, l, sym e)

    pub lowest_first : (u : Vertex) (k : ℤ) (i : ℕ) → i < length vs → u ≡ get_or vs i u → IsFloor (scaled_by axis u) u.d k → IsLowest 0 k
    lowest_first u k i l e floor = record { floor = (u, member i u l e, floor); below = λ j w m. absurd (omega arith) }

    pub highest_first : (u : Vertex) (k : ℤ) (i : ℕ) → i < length vs → u ≡ get_or vs i u → IsCeiling (scaled_by axis u) u.d k → IsHighest 0 k
    highest_first u k i l e ceiling = record { ceiling = (u, member i u l e, ceiling); above = λ j w m. absurd (omega arith) }

    not_negative : (j : ℕ) (w : Vertex) → j < length vs → get_or vs j w ≡ w → pos 0 ≤ℤ w.d
    not_negative j w l e = low w.d (placed_at j w l (sym e)).small.d_low
      where
        low : (d : ℤ) → pos 1 ≤ℤ d → pos 0 ≤ℤ d
        low d h = omega (arith, linear)

    at_or_before : (i j : ℕ) → j < i + 1 → (j < i) ⊎ (j ≡ i)
    at_or_before i j h = elim (cases_order j i) [ inl e ↦ inr e | inr t ↦ elim t [ inl a ↦ inl a | inr b ↦ absurd (omega arith) ] ]

    -- the same vertex at the place
    at_place : (i : ℕ) (u w : Vertex) → i < length vs → u ≡ get_or vs i u → get_or vs i w ≡ w → u ≡ w
    at_place i u w l e f = e ∙ vertex_at-within vs i u l ∙ sym (vertex_at-within vs i w l) ∙ f

    through : (x y z : ℤ) → x ≤ℤ y → y ≤ℤ z → x ≤ℤ z
    through x y z a b = omega (arith, linear)

    module _ (i : ℕ) (u : Vertex) (l : i < length vs) (e : u ≡ get_or vs i u) (k f : ℤ) where
      pub lowest_falls : IsLowest i k → IsFloor (scaled_by axis u) u.d f → f ≤ℤ k → IsLowest (i + 1) f
      lowest_falls old floor h = record { floor = (u, member i u l e, floor); below = below }
        where
          below : (j : ℕ) (w : Vertex) → j < i + 1 → j < length vs → get_or vs j w ≡ w → (f *ℤ w.d) ≤ℤ scaled_by axis w
          below j w m n g = elim (at_or_before i j m) [
            | inl a ↦ through _ _ _ (mul_mono f k w.d (not_negative j w n g) h) (old.below j w a n g)
            | inr b ↦ subst (λ (z : Vertex). (f *ℤ z.d) ≤ℤ scaled_by axis z) (at_place i u w l e (subst (λ (q : ℕ). get_or vs q w ≡ w) b g)) floor.not_above
          ]

      pub lowest_stays : IsLowest i k → IsFloor (scaled_by axis u) u.d f → k ≤ℤ f → IsLowest (i + 1) k
      lowest_stays old floor h = record { floor = old.floor; below = below }
        where
          at_u : (k *ℤ u.d) ≤ℤ scaled_by axis u
          at_u = through _ _ _ (mul_mono k f u.d (not_negative i u l (sym e)) h) floor.not_above

          below : (j : ℕ) (w : Vertex) → j < i + 1 → j < length vs → get_or vs j w ≡ w → (k *ℤ w.d) ≤ℤ scaled_by axis w
          below j w m n g = elim (at_or_before i j m) [
            | inl a ↦ old.below j w a n g
            | inr b ↦ subst (λ (z : Vertex). (k *ℤ z.d) ≤ℤ scaled_by axis z) (at_place i u w l e (subst (λ (q : ℕ). get_or vs q w ≡ w) b g)) at_u
          ]

      pub highest_rises : IsHighest i k → IsCeiling (scaled_by axis u) u.d f → k ≤ℤ f → IsHighest (i + 1) f
      highest_rises old ceiling h = record { ceiling = (u, member i u l e, ceiling); above = above }
        where
          above : (j : ℕ) (w : Vertex) → j < i + 1 → j < length vs → get_or vs j w ≡ w → scaled_by axis w ≤ℤ (f *ℤ w.d)
          above j w m n g = elim (at_or_before i j m) [
            | inl a ↦ through _ _ _ (old.above j w a n g) (mul_mono k f w.d (not_negative j w n g) h)
            | inr b ↦ subst (λ (z : Vertex). scaled_by axis z ≤ℤ (f *ℤ z.d)) (at_place i u w l e (subst (λ (q : ℕ). get_or vs q w ≡ w) b g)) ceiling.not_below
          ]

      pub highest_stays : IsHighest i k → IsCeiling (scaled_by axis u) u.d f → f ≤ℤ k → IsHighest (i + 1) k
      highest_stays old ceiling h = record { ceiling = old.ceiling; above = above }
        where
          at_u : scaled_by axis u ≤ℤ (k *ℤ u.d)
          at_u = through _ _ _ ceiling.not_below (mul_mono f k u.d (not_negative i u l (sym e)) h)

          above : (j : ℕ) (w : Vertex) → j < i + 1 → j < length vs → get_or vs j w ≡ w → scaled_by axis w ≤ℤ (k *ℤ w.d)
          above j w m n g = elim (at_or_before i j m) [
            | inl a ↦ old.above j w a n g
            | inr b ↦ subst (λ (z : Vertex). scaled_by axis z ≤ℤ (k *ℤ z.d)) (at_place i u w l e (subst (λ (q : ℕ). get_or vs q w ≡ w) b g)) at_u
          ]

      pub lowest_more : IsLowest i k → IsFloor (scaled_by axis u) u.d f → IsLowest (i + 1) (int_min k f)
      lowest_more old floor = by (int_lt f k) refl
        where
          by : (t : Bool) → int_lt f k ≡ t → IsLowest (i + 1) (cond t f k)
          by true q = lowest_falls old floor (omega (arith, ints))
          by false q = lowest_stays old floor (omega (arith, ints))

      pub highest_more : IsHighest i k → IsCeiling (scaled_by axis u) u.d f → IsHighest (i + 1) (int_max k f)
      highest_more old ceiling = by (int_lt f k) refl
        where
          by : (t : Bool) → int_lt f k ≡ t → IsHighest (i + 1) (cond t k f)
          by true q = highest_stays old ceiling (omega (arith, ints))
          by false q = highest_rises old ceiling (omega (arith, ints))

    pub lowest_all : (n : ℕ) (k : ℤ) → n ≡ length vs → IsLowest n k → IsFloorOfLeast axis vs k
    lowest_all n k e low = record { floor = low.floor; least = λ u c. low.below c.0 u (let l : c.0 < length vs = c.1 in omega (arith, e)) c.1 c.2 }

    pub highest_all : (n : ℕ) (k : ℤ) → n ≡ length vs → IsHighest n k → IsCeilingOfGreatest axis vs k
    highest_all n k e high = record { ceiling = high.ceiling; greatest = λ u c. high.above c.0 u (let l : c.0 < length vs = c.1 in omega (arith, e)) c.1 c.2 }
