-- What the corners at which a form is least tell of its infimum over a region.
use Rattle.std.proofs.Common.{◌≡◌, ◌+◌, ◌*◌, ◌^◌, List, [], ◌∷◌, get_or, ℤ, pos, ◌+ℤ◌, ◌-ℤ◌, ◌*ℤ◌, neg_ℤ, ◌≤ℤ◌, ◌<ℤ◌, ◌⊎◌, inl, inr, All, Bool, IsTrue, ap, sym, ◌∙◌, arith, lit≤}
use Rattle.std.specs.Prelude.{◌↔◌}
use Rattle.std.proofs.lemmas.Int.{by_lt_z}
use Rattle.std.proofs.lemmas.List.Elements.{All-weaker, All-from_recursion, recursion_from_All}
use Rattle.srs_num.specs.Points.{LinearForm, Point, value, opposite, IsWithin, IsFormSized, IsPointWithin}
use Rattle.srs_num.proofs.Ranges.{within_product, within_sum, within_more}
use Rattle.srs_num.proofs.Linear.{linear, mul_comm, mul_neg, mul_one, zero_from}
use Rattle.srs_num.proofs.Ring.{v, ◌⊕◌, ◌⊖◌, ◌⊗◌, minus, ring}
use Rattle.srs_num.proofs.Combinations.{combine, depth}
use Rattle.srs_num.proofs.Identities.{value-combine, value-depth, value-opposite}
use Rattle.srs_plane.specs.declared.halves.Kind.{Kind}
use Rattle.srs_plane.specs.declared.halves.Kind.TheVariants.{Ge, Gt}
use Rattle.srs_plane.specs.Regions.{Area, Asks, IsInHalf}
use Rattle.srs_cell.specs.Hull.{IsInHalves, IsAbove}
use Rattle.srs_cell.specs.Corners.{boxed, IsCell}
use Rattle.srs_cell.specs.Bounds.{IsInfimum, IsSupremum, Takes, IsLow, IsHigh, IsBoundSized, AreShort, IsLeastCorner, IsLeastSum}
use Rattle.srs_cell.specs.declared.bounds.Bound.{Bound}
use Rattle.srs_cell.proofs.Areas.{boxed_halves, in_boxed}
use Rattle.srs_cell.proofs.Least.{sized_among}
use Rattle.srs_cell.proofs.Reaching.{reaches}
use Rattle.srs_cell.proofs.Extremes.{low_bound, attained_core}

-- a sum of corners is in the halves with their edges
pub least_in_halves : (R : Area) (cs : List Point) → All (IsInHalves (boxed R)) cs → (f : LinearForm) (c total : Point) → IsLeastSum f cs cs c total → IsInHalves (boxed R) total
least_in_halves R cs inside f c total l = record {
  positive = deeper total.d l.is_point;
  each = λ i d lt. l.above (get_or (boxed R) i d) (λ j e lt'. (inside j e lt').each i d lt);
}
  where
    deeper : (d : ℤ) → pos 1 ≤ℤ d → pos 0 <ℤ d
    deeper d h = omega (arith, linear)

module _ (R : Area) (cs : List Point) (sample : Point) (cell : IsCell R cs sample) (f : LinearForm) (c : Point) (corner : IsLeastCorner f cs c) where
  -- how far a form is above its value at c
  gap : LinearForm
  gap = combine c.d f (neg_ℤ (value f c)) depth

  value-gap : (z : Point) → value gap z ≡ c.d *ℤ value f z -ℤ value f c *ℤ z.d
  unfolding gap
  value-gap z =
      value-combine c.d (neg_ℤ (value f c)) f depth z ∙ ap (λ x. c.d *ℤ value f z +ℤ neg_ℤ (value f c) *ℤ x) (value-depth z)
      ∙ ring (c.d ∷ value f z ∷ value f c ∷ z.d ∷ []) (v 0 ⊗ v 1 ⊕ minus (v 2) ⊗ v 3) (v 0 ⊗ v 1 ⊖ v 2 ⊗ v 3) tt

  pub infimum : IsInfimum R f (value f c) c.d
  infimum = record {
    bound = λ z z_in.
        low_bound (boxed R) cs f (value f c) c.d cell.corners.hull
        (All-weaker (λ e. (value f c *ℤ e.d) ≤ℤ (value f e *ℤ c.d)) (λ e. (value f c *ℤ e.d) ≤ℤ (c.d *ℤ value f e)) (λ e h. turned _ _ _ (mul_comm (value f e) c.d) h) cs corner.least)
        z (in_boxed R z z_in (cell.near z z_in));
    greatest = λ n e he lt.
        let w = reaches R cs sample cell c corner.among (combine n depth (neg_ℤ e) f) (up_at n e lt) in
        (w.0, w.1, under _ _ _ (value-g n e w.0) w.2);
  }
    where
      turned : (a b c : ℤ) → b ≡ c → a ≤ℤ b → a ≤ℤ c
      turned a b c e h = omega (arith, linear)

      value-g : (n e : ℤ) (z : Point) → value (combine n depth (neg_ℤ e) f) z ≡ n *ℤ z.d -ℤ e *ℤ value f z
      value-g n e z =
          value-combine n (neg_ℤ e) depth f z ∙ ap (λ x. n *ℤ x +ℤ neg_ℤ e *ℤ value f z) (value-depth z)
          ∙ ring (n ∷ z.d ∷ e ∷ value f z ∷ []) (v 0 ⊗ v 1 ⊕ minus (v 2) ⊗ v 3) (v 0 ⊗ v 1 ⊖ v 2 ⊗ v 3) tt

      under : (r a b : ℤ) → r ≡ a -ℤ b → pos 0 <ℤ r → b <ℤ a
      under r a b e h = omega (arith, linear)

      up : (r a b x : ℤ) → r ≡ a -ℤ b → b ≡ x → x <ℤ a → pos 0 <ℤ r
      up r a b x e g h = omega (arith, linear)

      up_at : (n e : ℤ) → (value f c *ℤ e) <ℤ (n *ℤ c.d) → pos 0 <ℤ value (combine n depth (neg_ℤ e) f) c
      up_at n e lt = up _ _ _ _ (value-g n e c) (mul_comm e (value f c)) lt

  module _ (total : Point) (sum : IsLeastSum f cs cs c total) where
    -- where the sum is in each half, it takes the infimum
    pub sum_takes : All (λ h. IsInHalf h total) R → Takes R f (value f c) c.d
    sum_takes inside = (
      total,
      record { is_point = sum.is_point; halves = recursion_from_All (λ h. IsInHalf h total) R inside },
      mul_comm c.d (value f total) ∙ sum.same,
    )

    sides : (k : LinearForm) → IsAbove k cs → All (λ e. ((value gap e ≡ pos 0) × (value k e ≤ℤ value k total)) ⊎ (pos 0 <ℤ value gap e)) cs
    sides k above i d lt =
        let e = get_or cs i d in
        by_lt_z (pos 0) (value gap e) (λ up. inr up)
        (λ low.
        let least = corner.least i d lt in
        let zero = zero_gap _ _ _ _ (value-gap e) (mul_comm c.d (value f e)) low least in
        inl (zero, sum.parts k above i d lt (even _ _ _ _ (value-gap e) (mul_comm c.d (value f e)) low)))
      where
        zero_gap : (r a b x : ℤ) → r ≡ a -ℤ b → a ≡ x → r ≤ℤ pos 0 → b ≤ℤ x → r ≡ pos 0
        zero_gap r a b x e g h k = omega (arith, linear)

        even : (r a b x : ℤ) → r ≡ a -ℤ b → a ≡ x → r ≤ℤ pos 0 → x ≤ℤ b
        even r a b x e g h = omega (arith, linear)

    asks_sum : (kind : Kind) (t w : ℤ) → pos 0 ≤ℤ t → (t ≤ℤ pos 0 → w ≤ℤ pos 0) → Asks kind w → Asks kind t
    asks_sum Ge t w h k a = h
    asks_sum Gt t w h k a = by_lt_z (pos 0) t (λ up. up) (λ low. absurd (clash w a (k low)))
      where
        clash : (w : ℤ) → pos 0 <ℤ w → w ≤ℤ pos 0 → ⊥
        clash w h k = omega (arith, linear)

    -- where a point takes the infimum, the sum is in each half
    pub takes_sum : Takes R f (value f c) c.d → All (λ h. IsInHalf h total) R
    takes_sum t i d lt =
        let h = get_or R i d in
        let z = t.0 in
        let z_in = t.1 in
        let above : IsAbove h.form cs = λ j e jt. boxed_halves (λ k. pos 0 ≤ℤ value k (get_or cs j e)) R (cell.corners.hull.inside j e jt).each i d lt in
        asks_sum h.kind (value h.form total) (value h.form z) (sum.above h.form above)
        (λ low. attained_core (boxed R) cs gap h.form (value h.form total) cell.corners.hull above (sides h.form above) low z (in_boxed R z z_in (cell.near z z_in)) (zero _ _ _ (value-gap z) t.2))
        (All-from_recursion (λ h. IsInHalf h z) R z_in.halves i d lt)
      where
        zero : (r a b : ℤ) → r ≡ a -ℤ b → a ≡ b → r ≡ pos 0
        zero r a b e g = omega (arith, linear)

    -- the bound by the numbers n and d of c, where b says whether the sum is in each half
    pub low_is : (n d : ℤ) (b : Bool) → n ≡ value f c → d ≡ c.d → (IsTrue b → All (λ h. IsInHalf h total) R) → (All (λ h. IsInHalf h total) R → IsTrue b)
        → IsLow R f (record { num = n; den = d; attained = b })
    low_is n d b en ed inside all = rw (en, ed) (record {
      positive = (sized_among cs c cell.corners.sized corner.among).is_point;
      infimum = infimum;
      attained = λ t. sum_takes (inside t);
      all_attained = λ t. all (takes_sum t);
    })

    -- the same of the whole number k that the form is at c
    pub takes_whole : (k : ℤ) (b : Bool) → value f c ≡ k *ℤ c.d → (IsTrue b → All (λ h. IsInHalf h total) R) → (All (λ h. IsInHalf h total) R → IsTrue b) → IsTrue b ↔ Takes R f k (pos 1)
    takes_whole k b e inside all = (λ t. forth (sum_takes (inside t)), λ t. all (takes_sum (back t)))
      where
        forth : Takes R f (value f c) c.d → Takes R f k (pos 1)
        forth t =
            let r = ring (c.d ∷ value f t.0 ∷ k ∷ t.0.d ∷ []) (v 0 ⊗ (v 1 ⊖ v 2 ⊗ v 3)) (v 0 ⊗ v 1 ⊖ (v 2 ⊗ v 0) ⊗ v 3) tt in
            let deep_c = deep c.d (sized_among cs c cell.corners.sized corner.among).is_point in
            let z = zero_from c.d (value f t.0 -ℤ k *ℤ t.0.d) deep_c (r ∙ off _ _ (t.2 ∙ ap (λ x. x *ℤ t.0.d) e)) in
            (t.0, t.1, mul_one (value f t.0) ∙ level _ _ z)
          where
            deep : (a : ℤ) → pos 1 ≤ℤ a → pos 0 <ℤ a
            deep a h = omega (arith, linear)

            level : (a b : ℤ) → a -ℤ b ≡ pos 0 → a ≡ b
            level a b h = omega (arith, linear)

            off : (a b : ℤ) → a ≡ b → a -ℤ b ≡ pos 0
            off a b h = omega (arith, linear)

        back : Takes R f k (pos 1) → Takes R f (value f c) c.d
        back t =
            let r = ring (c.d ∷ k ∷ t.0.d ∷ []) (v 0 ⊗ (v 1 ⊗ v 2)) ((v 1 ⊗ v 0) ⊗ v 2) tt in
            (t.0, t.1, ap (λ x. c.d *ℤ x) (sym (mul_one (value f t.0)) ∙ t.2) ∙ r ∙ ap (λ x. x *ℤ t.0.d) (sym e))

-- ---- the supremum by the infimum of the opposite form
neg_mul : (a b : ℤ) → neg_ℤ a *ℤ b ≡ neg_ℤ (a *ℤ b)
neg_mul a b = ring (a ∷ b ∷ []) (minus (v 0) ⊗ v 1) (minus (v 0 ⊗ v 1)) tt

module _ (R : Area) (f : LinearForm) (num den : ℤ) where
  value-turned : (e : ℤ) (z : Point) → e *ℤ value (opposite f) z ≡ neg_ℤ (e *ℤ value f z)
  value-turned e z = ap (λ x. e *ℤ x) (value-opposite f z) ∙ mul_neg e (value f z)

  takes_turned : Takes R (opposite f) num den → Takes R f (neg_ℤ num) den
  takes_turned t = (t.0, t.1, turn _ _ _ _ (value-turned den t.0) (neg_mul num t.0.d) t.2)
    where
      turn : (x y a b : ℤ) → x ≡ neg_ℤ y → a ≡ neg_ℤ b → x ≡ b → y ≡ a
      turn x y a b e g h = omega (arith, linear)

  takes_back : Takes R f (neg_ℤ num) den → Takes R (opposite f) num den
  takes_back t = (t.0, t.1, turn _ _ _ _ (value-turned den t.0) (neg_mul num t.0.d) t.2)
    where
      turn : (x y a b : ℤ) → x ≡ neg_ℤ y → a ≡ neg_ℤ b → y ≡ a → x ≡ b
      turn x y a b e g h = omega (arith, linear)

  supremum : IsInfimum R (opposite f) num den → IsSupremum R f (neg_ℤ num) den
  supremum low = record {
    bound = λ z z_in. under _ _ _ _ (value-turned den z) (neg_mul num z.d) (low.bound z z_in);
    least = λ n e he lt.
        let w = low.greatest (neg_ℤ n) e he (below _ _ _ _ (neg_mul num e) (neg_mul n den) lt) in
        (w.0, w.1, over _ _ _ _ (value-turned e w.0) (neg_mul n w.0.d) w.2);
  }
    where
      under : (x y a b : ℤ) → x ≡ neg_ℤ y → a ≡ neg_ℤ b → b ≤ℤ x → y ≤ℤ a
      under x y a b e g h = omega (arith, linear)

      below : (x y a b : ℤ) → x ≡ neg_ℤ y → a ≡ neg_ℤ b → b <ℤ x → y <ℤ a
      below x y a b e g h = omega (arith, linear)

      over : (x y a b : ℤ) → x ≡ neg_ℤ y → a ≡ neg_ℤ b → x <ℤ a → b <ℤ y
      over x y a b e g h = omega (arith, linear)

-- the bound by the negated number n
pub high_is : (R : Area) (f : LinearForm) (low : Bound) → IsLow R (opposite f) low → IsHigh R f (record { num = pos 0 -ℤ low.num; den = low.den; attained = low.attained })
high_is R f low is = rw (turned low.num) (record {
  positive = is.positive;
  supremum = supremum R f low.num low.den is.infimum;
  attained = λ t. takes_turned R f low.num low.den (is.attained t);
  all_attained = λ t. is.all_attained (takes_back R f low.num low.den t);
})
  where
    turned : (a : ℤ) → pos 0 -ℤ a ≡ neg_ℤ a
    turned a = omega (arith, linear)

-- ---- sizes
pub value_within : (f : LinearForm) (z : Point) → IsFormSized f → IsPointWithin (2 ^ 77) z → IsWithin (2 ^ 117) (value f z)
unfolding value
value_within f z h k =
    let m = 2 ^ 38 * 2 ^ 77 in
    let x = within_product f.a z.p (2 ^ 38) (2 ^ 77) h.a_range k.p_range in
    let y = within_product f.b z.q (2 ^ 38) (2 ^ 77) h.b_range k.q_range in
    let w = within_product f.c z.d (2 ^ 38) (2 ^ 77) h.c_range k.d_range in
    within_more (f.a *ℤ z.p +ℤ f.b *ℤ z.q +ℤ f.c *ℤ z.d) (m + m + m) (2 ^ 117) (within_sum (f.a *ℤ z.p +ℤ f.b *ℤ z.q) (f.c *ℤ z.d) (m + m) m (within_sum (f.a *ℤ z.p) (f.b *ℤ z.q) m m x y) w) (lit≤ tt)

pub value_short : (f : LinearForm) (z : Point) → IsFormSized f → IsPointWithin (2 ^ 38) z → IsWithin (2 ^ 79) (value f z)
unfolding value
value_short f z h k =
    let m = 2 ^ 38 * 2 ^ 38 in
    let x = within_product f.a z.p (2 ^ 38) (2 ^ 38) h.a_range k.p_range in
    let y = within_product f.b z.q (2 ^ 38) (2 ^ 38) h.b_range k.q_range in
    let w = within_product f.c z.d (2 ^ 38) (2 ^ 38) h.c_range k.d_range in
    within_more (f.a *ℤ z.p +ℤ f.b *ℤ z.q +ℤ f.c *ℤ z.d) (m + m + m) (2 ^ 79) (within_sum (f.a *ℤ z.p +ℤ f.b *ℤ z.q) (f.c *ℤ z.d) (m + m) m (within_sum (f.a *ℤ z.p) (f.b *ℤ z.q) m m x y) w) (lit≤ tt)

-- the values and the depths at two corners whose numbers are within 2^38
pub are_short : (f : LinearForm) (c e : Point) (n d m g : ℤ) → IsFormSized f → IsPointWithin (2 ^ 38) c → IsPointWithin (2 ^ 38) e
    → n ≡ value f c → d ≡ c.d → m ≡ value f e → g ≡ e.d → AreShort n d m g
are_short f c e n d m g h k l a b t w = record {
  first_value = rw a (value_short f c h k);
  first_denominator = rw b k.d_range;
  second_value = rw t (value_short f e h l);
  second_denominator = rw w l.d_range;
}

pub bound_sized : (n d : ℤ) (b : Bool) (c : Point) → IsWithin (2 ^ 117) n → d ≡ c.d → IsPointWithin (2 ^ 77) c → IsBoundSized (record { num = n; den = d; attained = b })
bound_sized n d b c h e k = record { num_range = h; den_range = rw e k.d_range }
