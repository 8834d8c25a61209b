-- What the corners of a cell tell of the points near them.
use Rattle.std.proofs.Common.{◌≡◌, ◌^◌, [], ◌∷◌, List, ℤ, pos, neg_ℤ, ◌+ℤ◌, ◌-ℤ◌, ◌*ℤ◌, ◌≤ℤ◌, ◌<ℤ◌, All, get_or, ap, ◌∙◌, arith}
use Rattle.std.specs.List.{Contains}
use Rattle.std.proofs.lemmas.List.Elements.{All-contains, All-weaker, recursion_from_All}
use Rattle.srs_num.specs.Points.{LinearForm, Point, value, opposite, IsNear, IsPointWithin}
use Rattle.srs_num.proofs.Linear.{linear, mul_one, mul_comm}
use Rattle.srs_num.proofs.Ring.{v, lit, ◌⊕◌, ◌⊖◌, ◌⊗◌, minus, ring}
use Rattle.srs_num.proofs.Combinations.{combine, mix, depth}
use Rattle.srs_num.proofs.Identities.{value-combine, value-depth, value-opposite}
use Rattle.srs_plane.specs.Regions.{Area, IsIn, IsInClosed}
use Rattle.srs_cell.specs.Hull.{IsInHalves}
use Rattle.srs_cell.specs.Corners.{boxed, IsCell}
use Rattle.srs_cell.specs.Bounds.{IsLeastCorner, Takes}
use Rattle.srs_cell.specs.Floors.{IsFloorBelow, IsLeastFloor}
use Rattle.srs_cell.proofs.Least.{quotient_through}
use Rattle.srs_cell.proofs.Areas.{boxed_halves, boxed_box, in_boxed}
use Rattle.srs_cell.proofs.BoxHull.{near_by_box}
use Rattle.srs_cell.proofs.Closed.{mix_in, closed_too}
use Rattle.srs_cell.proofs.Extremes.{near, all_below}

-- how far a form is above the whole number k
pub gap : LinearForm → ℤ → LinearForm
gap f k = combine (pos 1) f (neg_ℤ k) depth

pub value-gap : (f : LinearForm) (k : ℤ) (z : Point) → value (gap f k) z ≡ value f z -ℤ k *ℤ z.d
unfolding gap
value-gap f k z =
    value-combine (pos 1) (neg_ℤ k) f depth z ∙ ap (λ x. pos 1 *ℤ value f z +ℤ neg_ℤ k *ℤ x) (value-depth z)
    ∙ ring (value f z ∷ k ∷ z.d ∷ []) (lit (pos 1) ⊗ v 0 ⊕ minus (v 1) ⊗ v 2) (v 0 ⊖ v 1 ⊗ v 2) tt

pub step_up : (k d : ℤ) → (k +ℤ pos 1) *ℤ d ≡ k *ℤ d +ℤ d
step_up k d = ring (k ∷ d ∷ []) ((v 0 ⊕ lit (pos 1)) ⊗ v 1) (v 0 ⊗ v 1 ⊕ v 1) tt

-- a point of the halves of R and of the box
pub from_boxed : (R : Area) (z : Point) → IsInHalves (boxed R) z → IsInClosed R z
from_boxed R z i = record {
  is_point = deep _ i.positive;
  halves = recursion_from_All (λ h. pos 0 ≤ℤ value h.form z) R (boxed_halves (λ h. pos 0 ≤ℤ value h z) R i.each);
}
  where
    deep : (a : ℤ) → pos 0 <ℤ a → pos 1 ≤ℤ a
    deep a h = omega (arith, linear)

module _ (R : Area) (cs : List Point) (sample : Point) (cell : IsCell R cs sample) where
  -- near a corner at which a form is above 0 there is a point of the cell at which it is
  pub reaches : (c : Point) → Contains cs c → (g : LinearForm) → pos 0 <ℤ value g c → (z : Point) × IsIn R z × (pos 0 <ℤ value g z)
  reaches c among g up =
      let w = near g c sample up in
      (mix w.0 c (pos 1) sample, mix_in R w.0 (pos 1) c sample w.1 one (from_boxed R c (All-contains (IsInHalves (boxed R)) cs c cell.corners.hull.inside among)) cell.inside, w.2)
    where
      one : pos 0 <ℤ pos 1
      one = omega (arith, linear)

  pub corners_near : All IsNear cs
  corners_near = All-weaker (IsInHalves (boxed R)) IsNear (λ c i. near_by_box c (boxed_box (λ h. pos 0 ≤ℤ value h c) R i.each)) cs cell.corners.hull.inside

  -- what is the least floor at the corners is the least floor at the points
  pub least_floor : (f : LinearForm) (k : ℤ) → IsFloorBelow f cs cs k → IsLeastFloor R f k
  least_floor f k b = record {
    bound = λ z z_in.
        back _ _ _ (value-gap f k z) (cell.corners.hull.whole (gap f k)
        (All-weaker (λ e. (k *ℤ e.d) ≤ℤ value f e) (λ e. pos 0 ≤ℤ value (gap f k) e) (λ e h. forth _ _ _ (value-gap f k e) h) cs b.bound) z (in_boxed R z z_in (cell.near z z_in)));
    taken =
        let c = b.taken.0 in
        let w = reaches c b.taken.1 (opposite (gap f (k +ℤ pos 1))) (up _ _ _ _ _ (value-opposite (gap f (k +ℤ pos 1)) c) (value-gap f (k +ℤ pos 1) c) (step_up k c.d) b.taken.2) in
        (w.0, w.1, down _ _ _ _ _ (value-opposite (gap f (k +ℤ pos 1)) w.0) (value-gap f (k +ℤ pos 1) w.0) (step_up k w.0.d) w.2);
  }
    where
      forth : (r a b : ℤ) → r ≡ a -ℤ b → b ≤ℤ a → pos 0 ≤ℤ r
      forth r a b e h = omega (arith, linear)

      back : (r a b : ℤ) → r ≡ a -ℤ b → pos 0 ≤ℤ r → b ≤ℤ a
      back r a b e h = omega (arith, linear)

      up : (o r n s x : ℤ) → o ≡ neg_ℤ r → r ≡ n -ℤ s → s ≡ x → n <ℤ x → pos 0 <ℤ o
      up o r n s x e f g h = omega (arith, linear)

      down : (o r n s x : ℤ) → o ≡ neg_ℤ r → r ≡ n -ℤ s → s ≡ x → pos 0 <ℤ o → n <ℤ x
      down o r n s x e f g h = omega (arith, linear)

  -- where the form is k at no corner and below k at none, it is above k at each point
  pub none_takes : (f : LinearForm) (k : ℤ) → All (λ c. (k *ℤ c.d) <ℤ value f c) cs → (z : Point) → IsIn R z → (k *ℤ z.d) <ℤ value f z
  none_takes f k above z z_in =
      back _ _ _ _ (value-opposite (gap f k) z) (value-gap f k z)
      (all_below (boxed R) cs (opposite (gap f k)) cell.corners.hull
      (All-weaker (λ c. (k *ℤ c.d) <ℤ value f c) (λ c. value (opposite (gap f k)) c <ℤ pos 0) (λ c h. forth _ _ _ _ (value-opposite (gap f k) c) (value-gap f k c) h) cs above)
      z (in_boxed R z z_in (cell.near z z_in)))
    where
      forth : (o r n s : ℤ) → o ≡ neg_ℤ r → r ≡ n -ℤ s → s <ℤ n → o <ℤ pos 0
      forth o r n s e f h = omega (arith, linear)

      back : (o r n s : ℤ) → o ≡ neg_ℤ r → r ≡ n -ℤ s → o <ℤ pos 0 → s <ℤ n
      back o r n s e f h = omega (arith, linear)

  -- what the points aren't below, the corners aren't
  pub corner_bound : (f : LinearForm) (k : ℤ) → ((z : Point) → IsIn R z → (k *ℤ z.d) ≤ℤ value f z) → All (λ c. (k *ℤ c.d) ≤ℤ value f c) cs
  corner_bound f k bound i d lt =
      let c = get_or cs i d in
      back _ _ _ (value-gap f k c)
      (closed_too R c sample (gap f k) (from_boxed R c (cell.corners.hull.inside i d lt)) cell.inside (λ r r_in. forth _ _ _ (value-gap f k r) (bound r r_in)))
    where
      forth : (r a b : ℤ) → r ≡ a -ℤ b → b ≤ℤ a → pos 0 ≤ℤ r
      forth r a b e h = omega (arith, linear)

      back : (r a b : ℤ) → r ≡ a -ℤ b → pos 0 ≤ℤ r → b ≤ℤ a
      back r a b e h = omega (arith, linear)

  -- a corner at which the form is k, and it is below k at no point
  module _ (f : LinearForm) (k : ℤ) (bound : (z : Point) → IsIn R z → (k *ℤ z.d) ≤ℤ value f z) (c : Point) (among : Contains cs c) (up_to : value f c ≤ℤ (k *ℤ c.d)) where
    pub whole_value : value f c ≡ k *ℤ c.d
    whole_value = both _ _ up_to (All-contains (λ c. (k *ℤ c.d) ≤ℤ value f c) cs c (corner_bound f k bound) among)
      where
        both : (a b : ℤ) → a ≤ℤ b → b ≤ℤ a → a ≡ b
        both a b h g = omega (arith, linear)

    pub whole_least : IsLeastCorner f cs c
    whole_least = record {
      among = among;
      least = λ i d lt.
          let e = get_or cs i d in
          quotient_through (value f c) c.d k (pos 1) (value f e) e.d (All-contains (IsPointWithin (2 ^ 77)) cs c cell.corners.sized among).is_point (omega (arith, linear)) (cell.corners.sized i d lt).is_point
          (first _ _ _ (mul_comm (value f c) (pos 1) ∙ mul_one (value f c)) up_to) (second _ _ _ (mul_comm (value f e) (pos 1) ∙ mul_one (value f e)) (corner_bound f k bound i d lt));
    }
      where
        first : (x a b : ℤ) → x ≡ a → a ≤ℤ b → x ≤ℤ b
        first x a b e h = omega (arith, linear)

        second : (x a b : ℤ) → x ≡ a → b ≤ℤ a → b ≤ℤ x
        second x a b e h = omega (arith, linear)

  -- where the form is above k at each corner, no point takes k
  pub nowhere_taken : (f : LinearForm) (k : ℤ) → All (λ c. (k *ℤ c.d) <ℤ value f c) cs → Takes R f k (pos 1) → ⊥
  nowhere_taken f k above t = clash _ _ _ (mul_one (value f t.0)) t.2 (none_takes f k above t.0 t.1)
    where
      clash : (m a b : ℤ) → m ≡ a → m ≡ b → b <ℤ a → ⊥
      clash m a b e f h = omega (arith, linear)
