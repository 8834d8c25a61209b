-- What the code of a step computes, in its widths.
use Rattle.std.proofs.Common.{◌≡◌, ℕ, ◌+◌, ◌*◌, ◌^◌, ◌<◌, ℤ, pos, negsuc, ◌+ℤ◌, ◌-ℤ◌, ◌*ℤ◌, neg_ℤ, ◌≤ℤ◌, FitsSigned, to_z, of_z, to_z-of_z, w64, arith, ap, ap₂, sym, subst, ◌∙◌, lit<}
use Rattle.std.specs.Int.{w128}
use Rattle.std.proofs.lemmas.Int.{ints}
use Rattle.srs_num.specs.declared.pairs.V2.{V2}
use Rattle.srs_num.specs.Points.{Point, IsPoint, IsWithin, IsPtSized, IsNear}
use Rattle.srs_num.specs.Floor.{IsFloor, floor_quotient}
use Rattle.srs_num.proofs.Ranges.{within_product, within_sum, small_fits}
use Rattle.srs_num.proofs.Floors.{floor_is, floor_within}
use Rattle.srs_map.specs.Step.{IsNarrow, pair, step_of}

-- p*a + q*b at numbers that are each read through 64 bits
module _ (p q : ℤ) (z : V2) (fp : FitsSigned w64 p) (fq : FitsSigned w64 q) (n : IsNarrow z) where
  within_word : (x : ℤ) → FitsSigned w64 x → IsWithin (2 ^ 63) x
  within_word x f = omega (arith, ints)

  -- a number of 64 bits, read at 128
  read_wide : (x y : ℤ) → FitsSigned w64 x → y ≡ to_z w64 (of_z w64 x) → to_z w128 (of_z w128 y) ≡ x
  read_wide x y f e = omega (arith, ints, e)

  narrow_product : (x y : ℤ) → FitsSigned w64 x → IsWithin (2 ^ 37) y → IsWithin (2 ^ 63 * 2 ^ 37) (x *ℤ y)
  narrow_product x y f k = within_product x y (2 ^ 63) (2 ^ 37) (within_word x f) k

  product_reads : (x y u w : ℤ) → FitsSigned w64 x → IsWithin (2 ^ 37) y → u ≡ to_z w64 (of_z w64 x) → w ≡ to_z w64 (of_z w64 y)
      → to_z w128 (of_z w128 (to_z w128 (of_z w128 u) *ℤ to_z w128 (of_z w128 w))) ≡ x *ℤ y
  product_reads x y u w f k e g =
      let fy : FitsSigned w64 y = small_fits w64 y (2 ^ 37) k (lit< tt) in
      rw (read_wide x u f e, read_wide y w fy g) (to_z-of_z (small_fits w128 (x *ℤ y) (2 ^ 63 * 2 ^ 37) (narrow_product x y f k) (lit< tt)))

  sum_within : IsWithin (2 ^ 63 * 2 ^ 37 + 2 ^ 63 * 2 ^ 37) (p *ℤ z.a +ℤ q *ℤ z.b)
  sum_within = within_sum (p *ℤ z.a) (q *ℤ z.b) (2 ^ 63 * 2 ^ 37) (2 ^ 63 * 2 ^ 37) (narrow_product p z.a fp n.0) (narrow_product q z.b fq n.1)

  module _ (u w s t : ℤ) (eu : u ≡ to_z w64 (of_z w64 p)) (ew : w ≡ to_z w64 (of_z w64 z.a)) (es : s ≡ to_z w64 (of_z w64 q)) (et : t ≡ to_z w64 (of_z w64 z.b)) where
    sum_reads : to_z w128 (of_z w128 (to_z w128 (of_z w128 u) *ℤ to_z w128 (of_z w128 w))) +ℤ to_z w128 (of_z w128 (to_z w128 (of_z w128 s) *ℤ to_z w128 (of_z w128 t))) ≡ p *ℤ z.a +ℤ q *ℤ z.b
    sum_reads = ap₂ ◌+ℤ◌ (product_reads p z.a u w fp n.0 eu ew) (product_reads q z.b s t fq n.1 es et)

    pub weighed_fits : FitsSigned w128 (to_z w128 (of_z w128 (to_z w128 (of_z w128 u) *ℤ to_z w128 (of_z w128 w))) +ℤ to_z w128 (of_z w128 (to_z w128 (of_z w128 s) *ℤ to_z w128 (of_z w128 t))))
    weighed_fits = rw sum_reads (small_fits w128 (p *ℤ z.a +ℤ q *ℤ z.b) _ sum_within (lit< tt))

    pub weighed_reads : to_z w128 (of_z w128 (to_z w128 (of_z w128 (to_z w128 (of_z w128 u) *ℤ to_z w128 (of_z w128 w))) +ℤ to_z w128 (of_z w128 (to_z w128 (of_z w128 s) *ℤ to_z w128 (of_z w128 t))))) ≡ p *ℤ z.a +ℤ q *ℤ z.b
    weighed_reads = to_z-of_z weighed_fits ∙ sum_reads

-- the floor of a near parameter's sum at a narrow pair
near_floor : (p q a b : ℤ) (d : ℕ) (k : ℤ) → pos 1 ≤ℤ pos d → IsWithin (4 * d) p → IsWithin (4 * d) q → IsWithin (2 ^ 37) a → IsWithin (2 ^ 37) b → IsFloor (p *ℤ a +ℤ q *ℤ b) (pos d) k → IsWithin (2 ^ 40) k
near_floor p q a b d k h np nq na nb f =
    let m = 4 * d * 2 ^ 37 in
    let s : IsWithin (m + m) (p *ℤ a +ℤ q *ℤ b) = within_sum (p *ℤ a) (q *ℤ b) m m (within_product p a (4 * d) (2 ^ 37) np na) (within_product q b (4 * d) (2 ^ 37) nq nb) in
    floor_within (2 ^ 40) (p *ℤ a +ℤ q *ℤ b) (pos d) k h f (low d (p *ℤ a +ℤ q *ℤ b) s) (high d (p *ℤ a +ℤ q *ℤ b) s)
  where
    low : (d : ℕ) (s : ℤ) → IsWithin (4 * d * 2 ^ 37 + 4 * d * 2 ^ 37) s → neg_ℤ (pos (2 ^ 40) *ℤ pos d) ≤ℤ s
    low d s h = omega (arith, ints)

    high : (d : ℕ) (s : ℤ) → IsWithin (4 * d * 2 ^ 37 + 4 * d * 2 ^ 37) s → s ≤ℤ (pos (2 ^ 40) *ℤ pos d)
    high d s h = omega (arith, ints)

-- the floor that a step takes is within 2^40
pub step_floor_within : (r : Point) (z : V2) (k : ℤ) → IsPoint r → IsNear r → IsNarrow z → IsFloor (r.p *ℤ z.a +ℤ r.q *ℤ z.b) r.d k → IsWithin (2 ^ 40) k
step_floor_within r z k h near n f = by_sign r.p r.q r.d h near.p_low near.p_high near.q_low near.q_high f
  where
    coordinate : (d : ℕ) (p : ℤ) → neg_ℤ (pos 4 *ℤ pos d) ≤ℤ p → p ≤ℤ (pos 4 *ℤ pos d) → IsWithin (4 * d) p
    coordinate d p low high = omega (arith, ints)

    by_sign : (p q d : ℤ) → pos 1 ≤ℤ d → neg_ℤ (pos 4 *ℤ d) ≤ℤ p → p ≤ℤ (pos 4 *ℤ d) → neg_ℤ (pos 4 *ℤ d) ≤ℤ q → q ≤ℤ (pos 4 *ℤ d) → IsFloor (p *ℤ z.a +ℤ q *ℤ z.b) d k → IsWithin (2 ^ 40) k
    by_sign p q (pos d) h p1 p2 q1 q2 f = near_floor p q z.a z.b d k h (coordinate d p p1 p2) (coordinate d q q1 q2) n.0 n.1 f
    by_sign p q (negsuc d) h p1 p2 q1 q2 f = absurd (omega (arith, ints))

-- p, q and d are the parts of r, s is the weighed sum, e is d at 128 bits, and k is the floor
module _ (r : Point) (z : V2) (sized : IsPtSized r) (near : IsNear r) (n : IsNarrow z) (p q d : ℤ) (ep : p ≡ r.p) (eq : q ≡ r.q) (ed : d ≡ r.d)
    (s : ℤ) (es : s ≡ to_z w64 (of_z w64 p) *ℤ z.a +ℤ to_z w64 (of_z w64 q) *ℤ z.b) (e : ℤ) (ee : e ≡ to_z w64 (of_z w64 d))
    (k : ℤ) (ek : k ≡ floor_quotient (to_z w128 (of_z w128 s)) (to_z w128 (of_z w128 e))) where
  reads : (m : ℕ) (x y : ℤ) → IsWithin m y → m < 2 ^ 63 → x ≡ y → to_z w64 (of_z w64 x) ≡ y
  reads m x y h l g = ap (λ x. to_z w64 (of_z w64 x)) g ∙ to_z-of_z (small_fits w64 y m h l)

  e_reads : to_z w128 (of_z w128 e) ≡ r.d
  e_reads =
      let g : e ≡ r.d = ee ∙ reads (2 ^ 40) d r.d sized.d_range (lit< tt) ed in
      ap (λ x. to_z w128 (of_z w128 x)) g ∙ to_z-of_z (small_fits w128 r.d (2 ^ 40) sized.d_range (lit< tt))

  s_is : s ≡ r.p *ℤ z.a +ℤ r.q *ℤ z.b
  s_is = es ∙ ap₂ (λ x y. x *ℤ z.a +ℤ y *ℤ z.b) (reads (2 ^ 42) p r.p sized.p_range (lit< tt) ep) (reads (2 ^ 42) q r.q sized.q_range (lit< tt) eq)

  sum_fits : FitsSigned w128 (r.p *ℤ z.a +ℤ r.q *ℤ z.b)
  sum_fits = small_fits w128 _ (2 ^ 42 * 2 ^ 37 + 2 ^ 42 * 2 ^ 37)
      (within_sum (r.p *ℤ z.a) (r.q *ℤ z.b) _ _ (within_product r.p z.a (2 ^ 42) (2 ^ 37) sized.p_range n.0) (within_product r.q z.b (2 ^ 42) (2 ^ 37) sized.q_range n.1))
      (lit< tt)

  k_is : k ≡ floor_quotient (r.p *ℤ z.a +ℤ r.q *ℤ z.b) r.d
  k_is = ek ∙ ap₂ floor_quotient (ap (λ x. to_z w128 (of_z w128 x)) s_is ∙ to_z-of_z sum_fits) e_reads

  k_within : IsWithin (2 ^ 40) k
  k_within = step_floor_within r z k sized.is_point near n (subst (IsFloor (r.p *ℤ z.a +ℤ r.q *ℤ z.b) r.d) (sym k_is) (floor_is _ r.d sized.is_point))

  k_reads : to_z w128 (of_z w128 k) ≡ k
  k_reads = to_z-of_z (small_fits w128 k (2 ^ 40) k_within (lit< tt))

  k_fits : FitsSigned w64 k
  k_fits = small_fits w64 k (2 ^ 40) k_within (lit< tt)

  turned : (k : ℤ) → pos 0 -ℤ k ≡ neg_ℤ k
  turned k = omega (arith, ints)

  turned_within : (k : ℤ) → IsWithin (2 ^ 40) k → IsWithin (2 ^ 40) (pos 0 -ℤ k)
  turned_within k h = omega (arith, ints)

  word_is : to_z w64 (of_z w64 (to_z w128 (of_z w128 k))) ≡ k
  word_is = ap (λ x. to_z w64 (of_z w64 x)) k_reads ∙ to_z-of_z k_fits

  pub floor_fits : FitsSigned w64 (to_z w128 (of_z w128 k))
  floor_fits = subst (FitsSigned w64) (sym k_reads) k_fits

  pub minus_fits : FitsSigned w64 (pos 0 -ℤ to_z w64 (of_z w64 (to_z w128 (of_z w128 k))))
  minus_fits = subst (λ x. FitsSigned w64 (pos 0 -ℤ x)) (sym word_is) (small_fits w64 (pos 0 -ℤ k) (2 ^ 40) (turned_within k k_within) (lit< tt))

  pub step_is : ◌≡◌ {A = V2} (record { a = to_z w64 (of_z w64 z.b); b = to_z w64 (of_z w64 (pos 0 -ℤ to_z w64 (of_z w64 (to_z w128 (of_z w128 k))))) }) (step_of r z)
  step_is =
      ap₂ pair (to_z-of_z (small_fits w64 z.b (2 ^ 37) n.1 (lit< tt)))
      (to_z-of_z minus_fits ∙ ap (λ x. pos 0 -ℤ x) word_is ∙ turned k ∙ ap neg_ℤ k_is)
