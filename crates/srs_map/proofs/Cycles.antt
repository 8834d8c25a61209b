-- Where steps lead: an orbit goes on the same way from equal pairs, and what follows for the first pair that is met twice.
use Rattle.std.proofs.Common.{◌≡◌, ◌≢◌, inl, inr, ℕ, zero, suc, ◌+◌, ◌-◌, ◌*◌, ◌/◌, ◌<◌, ◌≤◌, sym, ap, ◌∙◌, subst, arith, add-one, zero-add, suc-add}
use Rattle.std.proofs.Math.Nat.{lt-div-mul-add, div-mul-le_self}
use Rattle.std.proofs.lemmas.Bool.{cases_lt}
use Rattle.srs_num.specs.declared.pairs.V2.{V2}
use Rattle.srs_num.specs.Points.{Point}
use Rattle.srs_map.specs.Step.{step_of, after}
use Rattle.srs_map.specs.Orbits.{IsQuietBefore}
use Rattle.srs_map.specs.Chase.{IsPlain, IsPlainBefore}

pub after-next : (n : ℕ) (r : Point) (z : V2) → after (n + 1) r z ≡ step_of r (after n r z)
after-next n r z = ap (λ k. after k r z) (add-one n)

pub after-add : (m n : ℕ) (r : Point) (z : V2) → after (m + n) r z ≡ after m r (after n r z)
after-add zero n r z = ap (λ k. after k r z) (zero-add n)
after-add (suc m) n r z = ap (λ k. after k r z) (suc-add m n) ∙ ap (step_of r) (after-add m n r z)

module _ (r : Point) (z : V2) where
  -- the same number of further steps from equal pairs
  pub shift : (i j m : ℕ) → after i r z ≡ after j r z → after (m + i) r z ≡ after (m + j) r z
  shift i j m e = after-add m i r z ∙ ap (after m r) e ∙ sym (after-add m j r z)

  -- the same, where the sums are named
  pub shifted : (i j x y : ℕ) → after i r z ≡ after j r z → i ≤ x → x + j ≡ y + i → after x r z ≡ after y r z
  shifted i j x y e h g =
      let f = shift i j (x - i) e in
      let u : x - i + i ≡ x = omega arith in
      let w : x - i + j ≡ y = omega arith in
      subst (λ k. after k r z ≡ after y r z) u (subst (λ k. after (x - i + i) r z ≡ after k r z) w f)

  -- once a pair comes back after p steps, it comes back after each multiple of p
  pub again : (j p q : ℕ) → after j r z ≡ after (p + j) r z → after j r z ≡ after (q * p + j) r z
  again j p zero e = ap (λ k. after k r z) (omega arith)
  again j p (suc q) e = again j p q e ∙ shifted j (p + j) (q * p + j) (suc q * p + j) e (omega arith) (omega arith)

  -- where a pair comes back by step i, the pair after some number of steps, up to i, is that after twice as many
  pub doubled : (j p : ℕ) → 1 ≤ p → after j r z ≡ after (p + j) r z → (t : ℕ) × (1 ≤ t) × (t ≤ p + j) × (after t r z ≡ after (t + t) r z)
  doubled j p h e =
      let t = j / p * p + p in
      let low : j < t = lt-div-mul-add h in
      let high : j / p * p ≤ j = div-mul-le_self j p in
      let u : t ≡ (j / p + 1) * p = omega arith in
      let f : after j r z ≡ after (t + j) r z = subst (λ k. after j r z ≡ after (k + j) r z) (sym u) (again j p (j / p + 1) e) in
      (t, omega arith, omega arith, shifted j (t + j) t (t + t) f (omega arith) (omega arith))

  -- the first pair that shows an event of its own comes before any that is met twice
  pub quiet_before_event : (k : ℕ) → IsPlainBefore r z k → ¬ IsPlain (after k r z) → IsQuietBefore r z k
  quiet_before_event k plain event i l = record {
    not_zero = (plain i l).not_zero;
    narrow = (plain i l).narrow;
    unmet = λ j m e. let back : after (k - (i - j)) r z ≡ after k r z = shifted j i (k - (i - j)) k e (omega arith) (omega arith) in
        event (subst IsPlain back (plain (k - (i - j)) (omega arith)));
  }

  -- no pair is met twice by step n, if none is met by the one that goes twice as fast
  pub quiet_before_meeting : (n : ℕ) → IsPlainBefore r z (n + 1) → ((t : ℕ) → 1 ≤ t → t ≤ n → after t r z ≢ after (t + t) r z) → IsQuietBefore r z (n + 1)
  quiet_before_meeting n plain apart i l = record {
    not_zero = (plain i l).not_zero;
    narrow = (plain i l).narrow;
    unmet = λ j m e. let u : i ≡ i - j + j = omega arith in
        let w = doubled j (i - j) (omega arith) (subst (λ k. after j r z ≡ after k r z) u e) in
        apart w.0 w.1 (omega (arith, w.2)) w.3;
  }

  -- m is the first pair that comes back after i steps, and l is the first number of steps after which it does
  module _ (i m l : ℕ) (mi : after m r z ≡ after (m + i) r z) (first : (j : ℕ) → j < m → after j r z ≢ after (j + i) r z)
      (least : (k : ℕ) → 1 ≤ k → k < l → after m r z ≢ after (m + k) r z) (h : l ≤ i) where
    -- a pair of the loop isn't met before
    in_loop : (j k : ℕ) → j < k → k < m + l → m ≤ j → after j r z ≢ after k r z
    in_loop j k lt below from e =
        let fore : after (m + i) r z ≡ after (m + i + (k - j)) r z = shifted j k (m + i) (m + i + (k - j)) e (omega arith) (omega arith) in
        let back : after (m + (k - j)) r z ≡ after (m + i + (k - j)) r z = shifted m (m + i) (m + (k - j)) (m + i + (k - j)) mi (omega arith) (omega arith) in
        least (k - j) (omega arith) (omega arith) (mi ∙ fore ∙ sym back)

    -- nor does a pair before the loop come back
    before_loop : (j k : ℕ) → j < k → j < m → after j r z ≢ after k r z
    before_loop j k lt below e =
        let p = k - j in
        let u : k ≡ p + j = omega arith in
        let far : after j r z ≡ after (m * p + j) r z = again j p m (subst (λ x. after j r z ≡ after x r z) u e) in
        let past : m ≤ m * p + j = reach m p j (omega arith) in
        let round : after (m * p + j) r z ≡ after (m * p + j + i) r z = shifted m (m + i) (m * p + j) (m * p + j + i) mi past (omega arith) in
        let fore : after (j + i) r z ≡ after (m * p + j + i) r z = shifted j (m * p + j) (j + i) (m * p + j + i) far (omega arith) (omega arith) in
        first j below (far ∙ round ∙ sym fore)
      where
        reach : (m p j : ℕ) → 1 ≤ p → m ≤ m * p + j
        reach m zero j h = absurd (omega arith)
        reach m (suc p) j h = omega arith

    pub quiet_before_loop : IsPlainBefore r z (m + l) → IsQuietBefore r z (m + l)
    quiet_before_loop plain k l = record {
      not_zero = (plain k l).not_zero;
      narrow = (plain k l).narrow;
      unmet = λ j lt. elim (cases_lt j m) [ inl below ↦ before_loop j k lt below | inr from ↦ in_loop j k lt l from ];
    }
