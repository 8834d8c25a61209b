-- Each point of a polygon is near, since its vertices are.
use Rattle.std.proofs.Common.{◌≡◌, ℕ, ◌<◌, List, [], ◌∷◌, length, ℤ, pos, negsuc, neg_ℤ, ◌+ℤ◌, ◌*ℤ◌, ◌≤ℤ◌, refl, ◌∙◌, arith}
use Rattle.std.proofs.lemmas.List.FromFn.{length-map-range_with_len}
use Rattle.srs_num.specs.Points.{Point, LinearForm, value, IsNear}
use Rattle.srs_num.proofs.Linear.{linear}
use Rattle.srs_num.proofs.Ring.{v, lit, ◌⊕◌, ◌⊗◌, minus, ring}
use Rattle.srs_plane.specs.declared.halves.Kind.{Kind}
use Rattle.srs_plane.specs.declared.halves.Kind.TheVariants.{Ge, Gt}
use Rattle.srs_plane.specs.declared.halves.Half.{Half}
use Rattle.srs_plane.specs.declared.polygons.Vertex.{Vertex}
use Rattle.srs_plane.specs.Regions.{Area, Asks, IsInHalf, IsIn, IsInClosed}
use Rattle.srs_plane.specs.Bounded.{IsBounded}
use Rattle.srs_plane.specs.Polygons.{point_of, vertex_at, edge_at, IsPolygon, region_of}
use Rattle.srs_plane.proofs.Members.{all_weaker}
use Rattle.srs_plane.proofs.Fan.{vertices_speak}

closes : (kind : Kind) (a : ℤ) → Asks kind a → pos 0 ≤ℤ a
closes Ge a h = h
closes Gt a h = omega (arith, linear)

-- a point is in the closed region too
pub IsIn-closed : (R : Area) (r : Point) → IsIn R r → IsInClosed R r
IsIn-closed R r i = record {
  is_point = i.is_point;
  halves = all_weaker (λ h. IsInHalf h r) (λ h. pos 0 ≤ℤ value h.form r) (λ h. closes h.kind (value h.form r)) R i.halves;
}

-- the form of a side of the box |x| <= 4, |y| <= 4
abbrev side : ℤ → ℤ → LinearForm
side a b = record { a = a; b = b; c = pos 4 }

value-side : (a b : ℤ) (r : Point) → value (side a b) r ≡ a *ℤ r.p +ℤ b *ℤ r.q +ℤ pos 4 *ℤ r.d
unfolding value
value-side a b r = refl

-- the four sides
record IsBoxed (r : Point) : Type 0 where
  right : pos 0 ≤ℤ value (side (pos 1) (pos 0)) r
  left : pos 0 ≤ℤ value (side (negsuc 0) (pos 0)) r
  top : pos 0 ≤ℤ value (side (pos 0) (pos 1)) r
  bottom : pos 0 ≤ℤ value (side (pos 0) (negsuc 0)) r

near_boxed : (r : Point) → IsNear r → IsBoxed r
near_boxed r n = record {
  right = low _ r.p (pos 4 *ℤ r.d) (value-side (pos 1) (pos 0) r ∙ ring (r.p ∷ r.q ∷ r.d ∷ []) (lit (pos 1) ⊗ v 0 ⊕ lit (pos 0) ⊗ v 1 ⊕ lit (pos 4) ⊗ v 2) (v 0 ⊕ lit (pos 4) ⊗ v 2) tt) n.p_low;
  left = high _ r.p (pos 4 *ℤ r.d) (value-side (negsuc 0) (pos 0) r ∙ ring (r.p ∷ r.q ∷ r.d ∷ []) (lit (negsuc 0) ⊗ v 0 ⊕ lit (pos 0) ⊗ v 1 ⊕ lit (pos 4) ⊗ v 2) (minus (v 0) ⊕ lit (pos 4) ⊗ v 2) tt) n.p_high;
  top = low _ r.q (pos 4 *ℤ r.d) (value-side (pos 0) (pos 1) r ∙ ring (r.p ∷ r.q ∷ r.d ∷ []) (lit (pos 0) ⊗ v 0 ⊕ lit (pos 1) ⊗ v 1 ⊕ lit (pos 4) ⊗ v 2) (v 1 ⊕ lit (pos 4) ⊗ v 2) tt) n.q_low;
  bottom = high _ r.q (pos 4 *ℤ r.d) (value-side (pos 0) (negsuc 0) r ∙ ring (r.p ∷ r.q ∷ r.d ∷ []) (lit (pos 0) ⊗ v 0 ⊕ lit (negsuc 0) ⊗ v 1 ⊕ lit (pos 4) ⊗ v 2) (minus (v 1) ⊕ lit (pos 4) ⊗ v 2) tt) n.q_high;
}
  where
    low : (x a m : ℤ) → x ≡ a +ℤ m → neg_ℤ m ≤ℤ a → pos 0 ≤ℤ x
    low x a m e h = omega (arith, linear)

    high : (x a m : ℤ) → x ≡ neg_ℤ a +ℤ m → a ≤ℤ m → pos 0 ≤ℤ x
    high x a m e h = omega (arith, linear)

boxed_near : (r : Point) → IsBoxed r → IsNear r
boxed_near r n = record {
  p_low = low _ r.p (pos 4 *ℤ r.d) (value-side (pos 1) (pos 0) r ∙ ring (r.p ∷ r.q ∷ r.d ∷ []) (lit (pos 1) ⊗ v 0 ⊕ lit (pos 0) ⊗ v 1 ⊕ lit (pos 4) ⊗ v 2) (v 0 ⊕ lit (pos 4) ⊗ v 2) tt) n.right;
  p_high = high _ r.p (pos 4 *ℤ r.d) (value-side (negsuc 0) (pos 0) r ∙ ring (r.p ∷ r.q ∷ r.d ∷ []) (lit (negsuc 0) ⊗ v 0 ⊕ lit (pos 0) ⊗ v 1 ⊕ lit (pos 4) ⊗ v 2) (minus (v 0) ⊕ lit (pos 4) ⊗ v 2) tt) n.left;
  q_low = low _ r.q (pos 4 *ℤ r.d) (value-side (pos 0) (pos 1) r ∙ ring (r.p ∷ r.q ∷ r.d ∷ []) (lit (pos 0) ⊗ v 0 ⊕ lit (pos 1) ⊗ v 1 ⊕ lit (pos 4) ⊗ v 2) (v 1 ⊕ lit (pos 4) ⊗ v 2) tt) n.top;
  q_high = high _ r.q (pos 4 *ℤ r.d) (value-side (pos 0) (negsuc 0) r ∙ ring (r.p ∷ r.q ∷ r.d ∷ []) (lit (pos 0) ⊗ v 0 ⊕ lit (negsuc 0) ⊗ v 1 ⊕ lit (pos 4) ⊗ v 2) (minus (v 1) ⊕ lit (pos 4) ⊗ v 2) tt) n.bottom;
}
  where
    low : (x a m : ℤ) → x ≡ a +ℤ m → pos 0 ≤ℤ x → neg_ℤ m ≤ℤ a
    low x a m e h = omega (arith, linear)

    high : (x a m : ℤ) → x ≡ neg_ℤ a +ℤ m → pos 0 ≤ℤ x → a ≤ℤ m
    high x a m e h = omega (arith, linear)

pub polygon_near : (vs : List Vertex) → IsPolygon vs → (r : Point) → IsIn (region_of vs) r → IsNear r
polygon_near vs polygon r i =
    let closed = IsIn-closed (region_of vs) r i in
    let boxed = λ (i : ℕ) (lt : i < length vs). near_boxed (point_of (vertex_at vs i)) (polygon.near i lt) in
    boxed_near r (record {
      right = vertices_speak vs polygon (side (pos 1) (pos 0)) (λ i lt. (boxed i lt).right) r closed;
      left = vertices_speak vs polygon (side (negsuc 0) (pos 0)) (λ i lt. (boxed i lt).left) r closed;
      top = vertices_speak vs polygon (side (pos 0) (pos 1)) (λ i lt. (boxed i lt).top) r closed;
      bottom = vertices_speak vs polygon (side (pos 0) (negsuc 0)) (λ i lt. (boxed i lt).bottom) r closed;
    })

-- a polygon's region has as many halves as the polygon has vertices
pub polygon_bounded : (vs : List Vertex) → IsPolygon vs → IsBounded (region_of vs)
polygon_bounded vs polygon =
    let n = length-map-range_with_len (λ i. let half : Half = record { form = edge_at vs i; kind = (vertex_at vs i).kind } in half) 0 (length vs) in
    record { low = omega (arith, n, polygon.counted.0); high = omega (arith, n, polygon.counted.1); near = polygon_near vs polygon }
