-- The quotient is the floor, a number has one floor, and what division with a remainder gives.
use Rattle.std.proofs.Common.{◌≡◌, ℕ, ℤ, pos, negsuc, ◌+ℤ◌, ◌-ℤ◌, ◌*ℤ◌, neg_ℤ, ◌≤ℤ◌, ◌<ℤ◌, FitsSigned, of_z, ap, ◌∙◌, arith, [], ◌∷◌}
use Rattle.std.proofs.lemmas.Int.{ints, by_lt_z}
use Rattle.std.specs.Int.{int_div_euclid, int_rem_euclid, w128}
use Rattle.srs_num.specs.Points.{IsWithin}
use Rattle.srs_num.specs.Floor.{IsFloor, IsCeiling, floor_quotient}
use Rattle.srs_num.proofs.Linear.{linear, nonneg_of_positive, mul_nonneg, mul_mono, mul_comm, mul_neg}
use Rattle.srs_num.proofs.Ranges.{within_of}
use Rattle.srs_num.proofs.Ring.{v, lit, ◌⊕◌, ◌⊖◌, ◌⊗◌, ring}

-- the quotient and the remainder
pub euclid : (n d : ℤ) → pos 1 ≤ℤ d → (int_div_euclid n d *ℤ d +ℤ int_rem_euclid n d ≡ n) × (pos 0 ≤ℤ int_rem_euclid n d) × (int_rem_euclid n d <ℤ d)
euclid (pos n) (pos d) h = (omega (arith, ints), omega (arith, ints), omega (arith, ints))
euclid (negsuc n) (pos d) h = (omega (arith, ints), omega (arith, ints), omega (arith, ints))
euclid n (negsuc d) h = absurd (omega (arith, ints))

pub floor_is : (n d : ℤ) → pos 1 ≤ℤ d → IsFloor n d (floor_quotient n d)
floor_is n d h =
    let u = euclid n d h in
    record {
      not_above = low (int_div_euclid n d *ℤ d) (int_rem_euclid n d) n u.0 u.1;
      greatest = high (int_div_euclid n d *ℤ d) (int_rem_euclid n d) n d u.0 u.2;
    }
  where
    low : (x r n : ℤ) → x +ℤ r ≡ n → pos 0 ≤ℤ r → x ≤ℤ n
    low x r n e h = omega (arith, linear)

    high : (x r n d : ℤ) → x +ℤ r ≡ n → r <ℤ d → n <ℤ (x +ℤ d)
    high x r n d e h = omega (arith, linear)

step_up : (q d : ℤ) → (q +ℤ pos 1) *ℤ d ≡ q *ℤ d +ℤ d
step_up q d = ring (q ∷ d ∷ []) ((v 0 ⊕ lit (pos 1)) ⊗ v 1) (v 0 ⊗ v 1 ⊕ v 1) tt

-- a whole number that isn't above the quotient isn't above its floor
pub floor_greatest : (n d k j : ℤ) → pos 1 ≤ℤ d → IsFloor n d j → (k *ℤ d) ≤ℤ n → k ≤ℤ j
floor_greatest n d k j h w low =
    by_lt_z j k
    (λ l. absurd (clash (k *ℤ d) (j *ℤ d) _ n d (mul_mono (j +ℤ pos 1) k d (nonneg_of_positive d h) (next j k l)) (step_up j d) low w.greatest))
    (λ l. l)
  where
    next : (j k : ℤ) → j <ℤ k → (j +ℤ pos 1) ≤ℤ k
    next j k h = omega (arith, linear)

    clash : (x y s n d : ℤ) → s ≤ℤ x → s ≡ y +ℤ d → x ≤ℤ n → n <ℤ (y +ℤ d) → ⊥
    clash x y s n d a e b c = omega (arith, linear)

pub floor_unique : (n d k j : ℤ) → pos 1 ≤ℤ d → IsFloor n d k → IsFloor n d j → k ≡ j
floor_unique n d k j h u w = both k j (floor_greatest n d k j h w u.not_above) (floor_greatest n d j k h u w.not_above)
  where
    both : (k j : ℤ) → k ≤ℤ j → j ≤ℤ k → k ≡ j
    both k j a b = omega (arith, linear)

-- a floor between -m and m, where the number is between -m*d and m*d
pub floor_within : (m : ℕ) (n d k : ℤ) → pos 1 ≤ℤ d → IsFloor n d k → neg_ℤ (pos m *ℤ d) ≤ℤ n → n ≤ℤ (pos m *ℤ d) → IsWithin m k
floor_within m n d k h w low high =
    within_of m k
    (floor_greatest n d (neg_ℤ (pos m)) k h w (from_turned _ _ _ (mul_neg d (pos m)) (mul_comm d (neg_ℤ (pos m))) (mul_comm d (pos m)) low))
    (by_lt_z (pos m) k
    (λ l. absurd (clash _ _ _ n d (mul_mono (pos m +ℤ pos 1) k d (nonneg_of_positive d h) (next (pos m) k l)) (step_up (pos m) d) w.not_above high h))
    (λ l. l))
  where
    from_turned : {n : ℤ} (x y z : ℤ) → x ≡ neg_ℤ y → x ≡ z → y ≡ pos m *ℤ d → neg_ℤ (pos m *ℤ d) ≤ℤ n → z ≤ℤ n
    from_turned x y z e f g h = omega (arith, linear)

    next : (j k : ℤ) → j <ℤ k → (j +ℤ pos 1) ≤ℤ k
    next j k h = omega (arith, linear)

    clash : (x y s n d : ℤ) → s ≤ℤ x → s ≡ y +ℤ d → x ≤ℤ n → n ≤ℤ y → pos 1 ≤ℤ d → ⊥
    clash x y s n d a e b c h = omega (arith, linear)

-- the ceiling from a quotient q and a remainder r
pub ceiling_even : (n d q r : ℤ) → pos 1 ≤ℤ d → q ≡ int_div_euclid n d → r ≡ int_rem_euclid n d → r ≡ pos 0 → IsCeiling n d q
ceiling_even n d q r h eq er z =
    let u = euclid n d h in
    let s : q *ℤ d +ℤ r ≡ n = ap (λ x. x *ℤ d +ℤ r) eq ∙ ap (λ x. int_div_euclid n d *ℤ d +ℤ x) er ∙ u.0 in
    record { not_below = up (q *ℤ d) r n s z; least = low (q *ℤ d) r d n s z h }
  where
    up : (x r n : ℤ) → x +ℤ r ≡ n → r ≡ pos 0 → n ≤ℤ x
    up x r n s z = omega (arith, linear)

    low : (x r d n : ℤ) → x +ℤ r ≡ n → r ≡ pos 0 → pos 1 ≤ℤ d → (x -ℤ d) <ℤ n
    low x r d n s z h = omega (arith, linear)

pub ceiling_odd : (n d q r : ℤ) → pos 1 ≤ℤ d → q ≡ int_div_euclid n d → r ≡ int_rem_euclid n d → ¬ (r ≡ pos 0) → IsCeiling n d (q +ℤ pos 1)
ceiling_odd n d q r h eq er off =
    let u = euclid n d h in
    let s : q *ℤ d +ℤ r ≡ n = ap (λ x. x *ℤ d +ℤ r) eq ∙ ap (λ x. int_div_euclid n d *ℤ d +ℤ x) er ∙ u.0 in
    record {
      not_below = up (q *ℤ d) r d n _ s (step_up q d) (below r _ d er u.2);
      least = low (q *ℤ d) r d n _ s (step_up q d) (not_less r _ er u.1) off;
    }
  where
    not_less : (r s : ℤ) → r ≡ s → pos 0 ≤ℤ s → pos 0 ≤ℤ r
    not_less r s e h = omega (arith, linear)

    below : (r s d : ℤ) → r ≡ s → s <ℤ d → r <ℤ d
    below r s d e h = omega (arith, linear)

    up : (x r d n y : ℤ) → x +ℤ r ≡ n → y ≡ x +ℤ d → r <ℤ d → n ≤ℤ y
    up x r d n y s e l = omega (arith, linear)

    low : (x r d n y : ℤ) → x +ℤ r ≡ n → y ≡ x +ℤ d → pos 0 ≤ℤ r → ¬ (r ≡ pos 0) → (y -ℤ d) <ℤ n
    low x r d n y s e k z = omega (arith, linear)

-- a test against 0 compares the bits
pub zero_bits : (r : ℤ) → FitsSigned w128 r → of_z w128 r ≡ 0 → r ≡ pos 0
zero_bits (pos n) f e = ap pos e
zero_bits (negsuc n) f e = absurd (omega (arith, f.sfits))

pub nonzero_bits : (r : ℤ) → (of_z w128 r ≡ 0 → ⊥) → ¬ (r ≡ pos 0)
nonzero_bits r n e = n (ap (of_z w128) e)

-- one more than a quotient with a remainder fits where the number does
pub next_fits : (n d q r : ℤ) → FitsSigned w128 n → pos 1 ≤ℤ d → q ≡ int_div_euclid n d → r ≡ int_rem_euclid n d → ¬ (r ≡ pos 0) → FitsSigned w128 q → FitsSigned w128 (q +ℤ pos 1)
next_fits n d q r fn h eq er off fq =
    let u = euclid n d h in
    let s : q *ℤ d +ℤ r ≡ n = ap (λ x. x *ℤ d +ℤ r) eq ∙ ap (λ x. int_div_euclid n d *ℤ d +ℤ x) er ∙ u.0 in
    let e : q *ℤ d ≡ q +ℤ q *ℤ (d -ℤ pos 1) = ring (q ∷ d ∷ []) (v 0 ⊗ v 1) (v 0 ⊕ v 0 ⊗ (v 1 ⊖ lit (pos 1))) tt in
    by_lt_z q (pos 0)
    (λ low. below q fq low)
    (λ high. above n q (q *ℤ d) r (q *ℤ (d -ℤ pos 1)) fn high s e (at_least r _ er u.1) off
    (mul_nonneg q (d -ℤ pos 1) high (omega (arith, linear))))
  where
    at_least : (r s : ℤ) → r ≡ s → pos 0 ≤ℤ s → pos 0 ≤ℤ r
    at_least r s e h = omega (arith, linear)

    below : (q : ℤ) → FitsSigned w128 q → q <ℤ pos 0 → FitsSigned w128 (q +ℤ pos 1)
    below q f h = omega (arith, ints)

    above : (n q x r y : ℤ) → FitsSigned w128 n → pos 0 ≤ℤ q → x +ℤ r ≡ n → x ≡ q +ℤ y → pos 0 ≤ℤ r → ¬ (r ≡ pos 0) → pos 0 ≤ℤ y → FitsSigned w128 (q +ℤ pos 1)
    above n q x r y f h s e k z p = omega (arith, ints)
