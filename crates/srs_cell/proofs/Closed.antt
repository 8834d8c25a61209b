-- The closed halves of a region that has a point: the box adds nothing to them.
use Rattle.std.proofs.Common.{◌≡◌, List, get_or, ℤ, pos, neg_ℤ, ◌+ℤ◌, ◌-ℤ◌, ◌*ℤ◌, ◌≤ℤ◌, ◌<ℤ◌, arith, ◌∷◌, []}
use Rattle.std.proofs.lemmas.Int.{by_lt_z}
use Rattle.std.proofs.lemmas.List.Elements.{All-weaker, All-from_recursion}
use Rattle.srs_num.specs.Points.{Point, LinearForm, value, IsNear}
use Rattle.srs_num.proofs.Linear.{linear, nonneg_of_positive, mul_one, mul_nonneg, mul_pos}
use Rattle.srs_num.proofs.Combinations.{mix}
use Rattle.srs_num.proofs.Identities.{value-mix, mix-d}
use Rattle.srs_num.proofs.Ring.{lit, ◌⊕◌, ◌⊖◌, ◌⊗◌, v, minus, ring}
use Rattle.srs_plane.specs.declared.halves.Kind.{Kind}
use Rattle.srs_plane.specs.declared.halves.Kind.TheVariants.{Ge, Gt}
use Rattle.srs_plane.specs.Regions.{Area, Asks, IsInHalf, IsIn, IsInClosed}
use Rattle.srs_cell.specs.Hull.{IsInHalves, IsAbove}
use Rattle.srs_cell.specs.Corners.{box, boxed, IsCell}
use Rattle.srs_cell.proofs.Signs.{both_signs}
use Rattle.srs_cell.proofs.BoxHull.{near_in_box, near_by_box}
use Rattle.srs_cell.proofs.Areas.{all_by_recursion, boxed_all, asked}

-- a weighted sum of two that are at least what the half asks, where the second meets it
asks_mix : (kind : Kind) (k l r a b : ℤ) → r ≡ k *ℤ a +ℤ l *ℤ b → pos 0 ≤ℤ k → pos 0 <ℤ l → pos 0 ≤ℤ a → Asks kind b → Asks kind r
asks_mix Ge k l r a b e hk hl ha hb = add _ _ _ e (mul_nonneg k a hk ha) (mul_nonneg l b (not_below _ hl) hb)
  where
    not_below : (a : ℤ) → pos 0 <ℤ a → pos 0 ≤ℤ a
    not_below a h = omega (arith, linear)

    add : (r a b : ℤ) → r ≡ a +ℤ b → pos 0 ≤ℤ a → pos 0 ≤ℤ b → pos 0 ≤ℤ r
    add r a b e h k = omega (arith, linear)
asks_mix Gt k l r a b e hk hl ha hb = add _ _ _ e (mul_nonneg k a hk ha) (mul_pos l b hl hb)
  where
    add : (r a b : ℤ) → r ≡ a +ℤ b → pos 0 ≤ℤ a → pos 0 <ℤ b → pos 0 <ℤ r
    add r a b e h k = omega (arith, linear)

-- between a point of the closed halves and a point of the region there are points of the region
pub mix_in : (R : Area) (k l : ℤ) (c s : Point) → pos 0 ≤ℤ k → pos 0 <ℤ l → IsInClosed R c → IsIn R s → IsIn R (mix k c l s)
mix_in R k l c s hk hl c_in s_in =
    let m = mix k c l s in
    record {
      is_point = deep _ _ _ (mix-d k l c s) (mul_nonneg k c.d hk (nonneg_of_positive _ c_in.is_point)) (mul_pos l s.d hl (above _ s_in.is_point));
      halves = all_by_recursion (λ h. IsInHalf h m) R (λ i d lt.
          let h = get_or R i d in
          asks_mix h.kind k l _ _ _ (value-mix k l h.form c s) hk hl
          (All-from_recursion (λ h. pos 0 ≤ℤ value h.form c) R c_in.halves i d lt)
          (All-from_recursion (λ h. IsInHalf h s) R s_in.halves i d lt));
    }
  where
    above : (a : ℤ) → pos 1 ≤ℤ a → pos 0 <ℤ a
    above a h = omega (arith, linear)

    deep : (r a b : ℤ) → r ≡ a +ℤ b → pos 0 ≤ℤ a → pos 0 <ℤ b → pos 1 ≤ℤ r
    deep r a b e h k = omega (arith, linear)

-- a point of the region is in the closed halves
pub closed_in : (R : Area) (z : Point) → IsIn R z → IsInClosed R z
closed_in R z i = record {
  is_point = i.is_point;
  halves = all_by_recursion (λ h. pos 0 ≤ℤ value h.form z) R
      (All-weaker (λ h. IsInHalf h z) (λ h. pos 0 ≤ℤ value h.form z) (λ h k. asked h.kind (value h.form z) k) R (All-from_recursion (λ h. IsInHalf h z) R i.halves));
}

-- what is at least 0 on the region is so on the closed halves
pub closed_too : (R : Area) (z p : Point) (h : LinearForm) → IsInClosed R z → IsIn R p → ((r : Point) → IsIn R r → pos 0 ≤ℤ value h r) → pos 0 ≤ℤ value h z
closed_too R z p h z_in p_in good =
    let hp = good p p_in in
    let n = value h p +ℤ pos 1 in
    by_lt_z (value h z) (pos 0)
    (λ low. absurd (both_signs _ (good (mix n z (pos 1) p) (mix_in R n (pos 1) z p (one_more _ hp) one z_in p_in))
    (too_low (value h p) (value h z) _ (value-mix n (pos 1) h z p) low hp)))
    (λ high. high)
  where
    one : pos 0 <ℤ pos 1
    one = omega (arith, linear)

    one_more : (a : ℤ) → pos 0 ≤ℤ a → pos 0 ≤ℤ (a +ℤ pos 1)
    one_more a h = omega (arith, linear)

    too_low : (a b r : ℤ) → r ≡ (a +ℤ pos 1) *ℤ b +ℤ pos 1 *ℤ a → b <ℤ pos 0 → pos 0 ≤ℤ a → r <ℤ pos 0
    too_low a b r e low h =
        let p = mul_nonneg (a +ℤ pos 1) (neg_ℤ b -ℤ pos 1) (omega (arith, linear)) (omega (arith, linear)) in
        let q = ring (a ∷ b ∷ []) ((v 0 ⊕ lit (pos 1)) ⊗ (minus (v 1) ⊖ lit (pos 1))) (minus ((v 0 ⊕ lit (pos 1)) ⊗ v 1) ⊖ v 0 ⊖ lit (pos 1)) tt in
        let o = mul_one a in
        omega (arith, linear)

-- where the region has a point, all points of its closed halves are near
pub closed_near : (R : Area) (z p : Point) → IsInClosed R z → IsIn R p → ((r : Point) → IsIn R r → IsNear r) → IsNear z
closed_near R z p z_in p_in near =
    let at_side : (h : LinearForm) → ((r : Point) → IsNear r → pos 0 ≤ℤ value h r) → pos 0 ≤ℤ value h z = λ h good. closed_too R z p h z_in p_in (λ r r_in. good r (near r r_in)) in
    near_by_box z (λ i d lt. at_side (get_or box i d) (λ r n. near_in_box r n i d lt))

-- the points of the closed halves of a cell are those of the box and the closed halves
pub closed_boxed : (R : Area) (z : Point) → IsInClosed R z → IsNear z → IsInHalves (boxed R) z
closed_boxed R z z_in near = record {
  positive = deeper z.d z_in.is_point;
  each = boxed_all (λ h. pos 0 ≤ℤ value h z) R (near_in_box z near) (All-from_recursion (λ h. pos 0 ≤ℤ value h.form z) R z_in.halves);
}
  where
    deeper : (d : ℤ) → pos 1 ≤ℤ d → pos 0 <ℤ d
    deeper d h = omega (arith, linear)

-- a form that is at least 0 at each corner of a cell is at least 0 at each point of its closed halves
pub corners_speak : (R : Area) (cs : List Point) (s : Point) → IsCell R cs s → (f : LinearForm) → IsAbove f cs → (z : Point) → IsInClosed R z → pos 0 ≤ℤ value f z
corners_speak R cs s k f above z z_in = k.corners.hull.whole f above z (closed_boxed R z z_in (closed_near R z s z_in k.inside k.near))
