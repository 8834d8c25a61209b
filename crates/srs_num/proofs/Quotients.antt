-- Two quotients by whole parts and remainders.
use Rattle.std.proofs.Common.{◌≡◌, [], ◌∷◌, ℤ, pos, ◌+ℤ◌, ◌-ℤ◌, ◌*ℤ◌, ◌≤ℤ◌, ◌<ℤ◌, FitsSigned, sym, ap, ◌∙◌, arith}
use Rattle.std.specs.Int.{w128, int_div_euclid, int_rem_euclid}
use Rattle.std.proofs.Math.Facts.{to_z-of_z}
use Rattle.srs_num.proofs.Linear.{linear, nonneg_of_positive, mul_zero, mul_nonneg, mul_pos}
use Rattle.srs_num.proofs.Ring.{v, lit, ◌⊕◌, ◌⊖◌, ◌⊗◌, ring}
use Rattle.srs_num.proofs.Floors.{euclid}
use Rattle.srs_num.proofs.Ranges.{held}

-- n is q * d + r
pub record IsSplit (n d q r : ℤ) : Type 0 where
  pub sum : q *ℤ d +ℤ r ≡ n
  pub low : pos 0 ≤ℤ r
  pub high : r <ℤ d

pub split_of : (n d : ℤ) → pos 1 ≤ℤ d → IsSplit n d (int_div_euclid n d) (int_rem_euclid n d)
split_of n d h = let u = euclid n d h in record { sum = u.0; low = u.1; high = u.2 }

-- the difference of the two sides
pub gap : (n1 d1 q1 r1 n2 d2 q2 r2 : ℤ) → IsSplit n1 d1 q1 r1 → IsSplit n2 d2 q2 r2
    → n2 *ℤ d1 -ℤ n1 *ℤ d2 ≡ (q2 -ℤ q1) *ℤ (d1 *ℤ d2) +ℤ (r2 *ℤ d1 -ℤ r1 *ℤ d2)
gap n1 d1 q1 r1 n2 d2 q2 r2 s t =
    ap (λ x. x *ℤ d1 -ℤ n1 *ℤ d2) (sym t.sum) ∙ ap (λ x. (q2 *ℤ d2 +ℤ r2) *ℤ d1 -ℤ x *ℤ d2) (sym s.sum)
    ∙ ring (d1 ∷ q1 ∷ r1 ∷ d2 ∷ q2 ∷ r2 ∷ [])
    ((v 4 ⊗ v 3 ⊕ v 5) ⊗ v 0 ⊖ (v 1 ⊗ v 0 ⊕ v 2) ⊗ v 3)
    ((v 4 ⊖ v 1) ⊗ (v 0 ⊗ v 3) ⊕ (v 5 ⊗ v 0 ⊖ v 2 ⊗ v 3)) tt

pub less_whole : (n1 d1 q1 r1 n2 d2 q2 r2 : ℤ) → pos 1 ≤ℤ d1 → pos 1 ≤ℤ d2 → IsSplit n1 d1 q1 r1 → IsSplit n2 d2 q2 r2 → q1 <ℤ q2 → (n1 *ℤ d2) <ℤ (n2 *ℤ d1)
less_whole n1 d1 q1 r1 n2 d2 q2 r2 h1 h2 s t lt =
    let dd = mul_pos d1 d2 (omega (arith, linear)) (omega (arith, linear)) in
    let p = mul_nonneg (q2 -ℤ q1 -ℤ pos 1) (d1 *ℤ d2) (omega (arith, linear)) (omega (arith, linear)) in
    let e = ring (q2 ∷ q1 ∷ (d1 *ℤ d2) ∷ []) ((v 0 ⊖ v 1 ⊖ lit (pos 1)) ⊗ v 2) ((v 0 ⊖ v 1) ⊗ v 2 ⊖ v 2) tt in
    let a = mul_nonneg r2 d1 t.low (omega (arith, linear)) in
    let b = mul_pos (d1 -ℤ r1) d2 (gap_pos _ _ s.high) (omega (arith, linear)) in
    let f = ring (d1 ∷ r1 ∷ d2 ∷ []) ((v 0 ⊖ v 1) ⊗ v 2) (v 0 ⊗ v 2 ⊖ v 1 ⊗ v 2) tt in
    finish _ _ _ _ _ _ _ _ (gap n1 d1 q1 r1 n2 d2 q2 r2 s t) p e a b f
  where
    gap_pos : (r d : ℤ) → r <ℤ d → pos 0 <ℤ (d -ℤ r)
    gap_pos r d h = omega (arith, linear)

    finish : (x y w dd rd sd p b : ℤ) → y -ℤ x ≡ w +ℤ (rd -ℤ sd) → pos 0 ≤ℤ p → p ≡ w -ℤ dd → pos 0 ≤ℤ rd → pos 0 <ℤ b → b ≡ dd -ℤ sd → x <ℤ y
    finish x y w dd rd sd p b g hp e ha hb f = omega (arith, linear)

pub less_even : (n1 d1 q1 r1 n2 d2 q2 r2 : ℤ) → IsSplit n1 d1 q1 r1 → IsSplit n2 d2 q2 r2 → q1 ≡ q2 → n2 *ℤ d1 -ℤ n1 *ℤ d2 ≡ r2 *ℤ d1 -ℤ r1 *ℤ d2
less_even n1 d1 q1 r1 n2 d2 q2 r2 s t e =
    gap n1 d1 q1 r1 n2 d2 q2 r2 s t ∙ flat (q2 -ℤ q1) (d1 *ℤ d2) _ (zero_gap _ _ e)
  where
    zero_gap : (a b : ℤ) → a ≡ b → b -ℤ a ≡ pos 0
    zero_gap a b e = omega (arith, linear)

    flat : (a b r : ℤ) → a ≡ pos 0 → a *ℤ b +ℤ r ≡ r
    flat a b r e = let z : a *ℤ b ≡ pos 0 = ap (λ x. x *ℤ b) e ∙ mul_zero b in omega (arith, linear)

-- the two ends and the next pair
pub record Outcomes (n1 d1 q1 r1 n2 d2 q2 r2 : ℤ) : Type 0 where
  pub lower : q1 <ℤ q2 → (n1 *ℤ d2) <ℤ (n2 *ℤ d1)
  pub higher : q2 <ℤ q1 → (n2 *ℤ d1) ≤ℤ (n1 *ℤ d2)
  pub second_even : q1 ≡ q2 → r2 ≡ pos 0 → (n2 *ℤ d1) ≤ℤ (n1 *ℤ d2)
  pub first_even : q1 ≡ q2 → r1 ≡ pos 0 → ¬ (r2 ≡ pos 0) → (n1 *ℤ d2) <ℤ (n2 *ℤ d1)
  pub next : q1 ≡ q2 → n2 *ℤ d1 -ℤ n1 *ℤ d2 ≡ d1 *ℤ r2 -ℤ d2 *ℤ r1

pub outcomes : (n1 d1 q1 r1 n2 d2 q2 r2 : ℤ) → pos 1 ≤ℤ d1 → pos 1 ≤ℤ d2 → IsSplit n1 d1 q1 r1 → IsSplit n2 d2 q2 r2 → Outcomes n1 d1 q1 r1 n2 d2 q2 r2
outcomes n1 d1 q1 r1 n2 d2 q2 r2 h1 h2 s t = record {
  lower = λ lt. less_whole n1 d1 q1 r1 n2 d2 q2 r2 h1 h2 s t lt;
  higher = λ lt. weaken _ _ (less_whole n2 d2 q2 r2 n1 d1 q1 r1 h2 h1 t s lt);
  second_even = λ e z. none_left _ _ _ _ (less_even n1 d1 q1 r1 n2 d2 q2 r2 s t e) (ap (λ x. x *ℤ d1) z ∙ mul_zero d1) (mul_nonneg r1 d2 s.low (nonneg_of_positive _ h2));
  first_even = λ e z off. some_left _ _ _ _ (less_even n1 d1 q1 r1 n2 d2 q2 r2 s t e) (ap (λ x. x *ℤ d2) z ∙ mul_zero d2) (mul_pos r2 d1 (above _ t.low off) (positive _ h1));
  next = λ e. less_even n1 d1 q1 r1 n2 d2 q2 r2 s t e ∙ ring (r2 ∷ d1 ∷ r1 ∷ d2 ∷ []) (v 0 ⊗ v 1 ⊖ v 2 ⊗ v 3) (v 1 ⊗ v 0 ⊖ v 3 ⊗ v 2) tt;
}
  where
    weaken : (a b : ℤ) → a <ℤ b → a ≤ℤ b
    weaken a b h = omega (arith, linear)

    positive : (a : ℤ) → pos 1 ≤ℤ a → pos 0 <ℤ a
    positive a h = omega (arith, linear)

    above : (a : ℤ) → pos 0 ≤ℤ a → ¬ (a ≡ pos 0) → pos 0 <ℤ a
    above a h n = omega (arith, linear)

    none_left : (x y a b : ℤ) → y -ℤ x ≡ a -ℤ b → a ≡ pos 0 → pos 0 ≤ℤ b → y ≤ℤ x
    none_left x y a b e z h = omega (arith, linear)

    some_left : (x y a b : ℤ) → y -ℤ x ≡ a -ℤ b → b ≡ pos 0 → pos 0 <ℤ a → x <ℤ y
    some_left x y a b e z h = omega (arith, linear)

pub parts : (n1 d1 q1 r1 n2 d2 q2 r2 : ℤ) → pos 1 ≤ℤ d1 → pos 1 ≤ℤ d2 → q1 ≡ int_div_euclid n1 d1 → r1 ≡ int_rem_euclid n1 d1
    → q2 ≡ int_div_euclid n2 d2 → r2 ≡ int_rem_euclid n2 d2 → Outcomes n1 d1 q1 r1 n2 d2 q2 r2
parts n1 d1 q1 r1 n2 d2 q2 r2 h1 h2 e1 g1 e2 g2 = outcomes n1 d1 q1 r1 n2 d2 q2 r2 h1 h2 (splits n1 d1 q1 r1 h1 e1 g1) (splits n2 d2 q2 r2 h2 e2 g2)
  where
    carried : (n d q r q' r' : ℤ) → q ≡ q' → r ≡ r' → IsSplit n d q' r' → IsSplit n d q r
    carried n d q r q' r' e g s = rw (e, g) s

    splits : (n d q r : ℤ) → pos 1 ≤ℤ d → q ≡ int_div_euclid n d → r ≡ int_rem_euclid n d → IsSplit n d q r
    splits n d q r h e g = carried n d q r _ _ e g (split_of n d h)

-- the outcomes, for numbers that 128 bits hold
pub held_parts : (n1 d1 q1 r1 n2 d2 q2 r2 : ℤ) → FitsSigned w128 n1 → FitsSigned w128 d1 → FitsSigned w128 n2 → FitsSigned w128 d2 → pos 1 ≤ℤ d1 → pos 1 ≤ℤ d2
    → q1 ≡ int_div_euclid (held w128 n1) (held w128 d1) → r1 ≡ int_rem_euclid (held w128 n1) (held w128 d1)
    → q2 ≡ int_div_euclid (held w128 n2) (held w128 d2) → r2 ≡ int_rem_euclid (held w128 n2) (held w128 d2) → Outcomes n1 d1 q1 r1 n2 d2 q2 r2
held_parts n1 d1 q1 r1 n2 d2 q2 r2 fn1 fd1 fn2 fd2 h1 h2 e1 g1 e2 g2 =
    parts n1 d1 q1 r1 n2 d2 q2 r2 h1 h2
    (simp (to_z-of_z fn1, to_z-of_z fd1) at e1) (simp (to_z-of_z fn1, to_z-of_z fd1) at g1)
    (simp (to_z-of_z fn2, to_z-of_z fd2) at e2) (simp (to_z-of_z fn2, to_z-of_z fd2) at g2)

pub below_not : (x y : ℤ) → y ≤ℤ x → x <ℤ y → ⊥
below_not x y h k = omega (arith, linear)

pub gap_less : (x y a b : ℤ) → y -ℤ x ≡ a -ℤ b → b <ℤ a → x <ℤ y
gap_less x y a b e h = omega (arith, linear)

pub gap_more : (x y a b : ℤ) → y -ℤ x ≡ a -ℤ b → x <ℤ y → b <ℤ a
gap_more x y a b e h = omega (arith, linear)
