-- What the bounds of a form tell of the side on which a region is.
use Rattle.std.proofs.Common.{◌≡◌, ℤ, pos, ◌*ℤ◌, neg_ℤ, ◌≤ℤ◌, ◌<ℤ◌, [], ◌∷◌, Bool, true, false, not, IsTrue, MatchBool, refl, ap, sym, ◌∙◌, arith, ℕ, ◌≤◌, nat_eq}
use Rattle.std.specs.Prelude.{◌↔◌}
use Rattle.std.specs.Int.Signed.{le_z, lt_z}
use Rattle.std.proofs.lemmas.Int.{ints, by_lt_z}
use Rattle.std.proofs.lemmas.Bool.{false≢true, eqb-true, eqb-false}
use Rattle.srs_num.specs.Points.{LinearForm, value}
use Rattle.srs_num.proofs.Linear.{linear, nonneg_of_positive, mul_nonneg, mul_pos, zero_from, mul_zero, mul_one, mul_comm}
use Rattle.srs_num.proofs.Ring.{v, ◌⊗◌, minus, ring}
use Rattle.srs_plane.specs.Regions.{Area}
use Rattle.srs_cell.specs.declared.bounds.Bound.{Bound}
use Rattle.srs_cell.specs.Bounds.{IsHigh}
use Rattle.srs_cell.specs.Sides.{StaysBelow, ReachesAbove}

pub by_lt : {P Q : Type 0} (a b : ℤ) → (a <ℤ b → P) → (b ≤ℤ a → Q) → MatchBool (lt_z a b) P Q
by_lt {P} {Q} a b f g = by (lt_z a b) refl
  where
    by : (t : Bool) → lt_z a b ≡ t → MatchBool t P Q
    by true e = f (omega (arith, ints))
    by false e = g (omega (arith, ints))

pub by_not : {P Q : Type 0} (b : Bool) → (b ≡ false → P) → (b ≡ true → Q) → MatchBool (not b) P Q
by_not true f g = g refl
by_not false f g = f refl

pub by_zero : {P Q : Type 0} (n : ℕ) → (n ≡ 0 → P) → (1 ≤ n → Q) → MatchBool (nat_eq n 0) P Q
by_zero {P} {Q} n f g = by (nat_eq n 0) refl
  where
    least : (n : ℕ) → (n ≡ 0 → ⊥) → 1 ≤ n
    least n h = omega (arith, h)

    by : (t : Bool) → nat_eq n 0 ≡ t → MatchBool t P Q
    by true e = f (eqb-true n 0 e)
    by false e = g (least n (eqb-false n 0 e))

-- ---- the supremum
pub below_from_high : (R : Area) (f : LinearForm) (b : Bound) → IsHigh R f b → b.num <ℤ pos 0 → StaysBelow R f
below_from_high R f b high h z i =
    by_lt_z (value f z) (pos 0) (λ l. l)
    (λ k. absurd (clash _ _ _ (high.supremum.bound z i) (mul_nonneg b.den (value f z) (nonneg_of_positive _ high.positive) k)
    (mul_pos (neg_ℤ b.num) z.d (turned _ h) (above _ i.is_point)) (ring (b.num ∷ z.d ∷ []) (minus (v 0) ⊗ v 1) (minus (v 0 ⊗ v 1)) tt)))
  where
    above : (a : ℤ) → pos 1 ≤ℤ a → pos 0 <ℤ a
    above a h = omega (arith, linear)

    turned : (a : ℤ) → a <ℤ pos 0 → pos 0 <ℤ neg_ℤ a
    turned a h = omega (arith, linear)

    clash : (x y t : ℤ) → x ≤ℤ y → pos 0 ≤ℤ x → pos 0 <ℤ t → t ≡ neg_ℤ y → ⊥
    clash x y t a b c e = omega (arith, linear)

pub above_from_high : (R : Area) (f : LinearForm) (b : Bound) → IsHigh R f b → ¬ (b.num ≡ pos 0) → pos 0 ≤ℤ b.num → ReachesAbove R f
above_from_high R f b high off h =
    let p = high.supremum.least (pos 0) (pos 1) (omega (arith, linear)) (start _ _ _ _ (mul_zero b.den) (mul_comm b.num (pos 1) ∙ mul_one b.num) (apart _ off h)) in
    (p.0, p.1, weaken _ _ _ _ (sym (mul_zero p.0.d)) (sym (mul_one (value f p.0))) p.2)
  where
    start : (a b c d : ℤ) → a ≡ b → c ≡ d → b <ℤ d → a <ℤ c
    start a b c d e g h = omega (arith, linear)

    apart : (a : ℤ) → ¬ (a ≡ pos 0) → pos 0 ≤ℤ a → pos 0 <ℤ a
    apart a n h = omega (arith, linear)

    weaken : (a b c d : ℤ) → a ≡ b → c ≡ d → b <ℤ d → a ≤ℤ c
    weaken a b c d e g h = omega (arith, linear)

-- a supremum 0 that no point takes
pub below_from_open : (R : Area) (f : LinearForm) (b : Bound) → IsHigh R f b → b.num ≡ pos 0 → b.attained ≡ false → StaysBelow R f
below_from_open R f b high zero off z i =
    by_lt_z (value f z) (pos 0) (λ l. l)
    (λ k. absurd (false≢true (sym off ∙ high.all_attained (
      z,
      i,
      same _ _ (ap (λ n. n *ℤ z.d) zero ∙ mul_zero z.d) (high.supremum.bound z i) (mul_nonneg b.den (value f z) (nonneg_of_positive _ high.positive) k),
    ))))
  where
    same : (x y : ℤ) → y ≡ pos 0 → x ≤ℤ y → pos 0 ≤ℤ x → x ≡ y
    same x y e h k = omega (arith, linear)

-- a supremum 0 that a point takes
pub above_from_closed : (R : Area) (f : LinearForm) (b : Bound) → IsHigh R f b → b.num ≡ pos 0 → b.attained ≡ true → ReachesAbove R f
above_from_closed R f b high zero on =
    let p = high.attained on in
    (p.0, p.1, level _ (zero_from b.den (value f p.0) (above _ high.positive) (p.2 ∙ ap (λ n. n *ℤ p.0.d) zero ∙ mul_zero p.0.d)))
  where
    above : (a : ℤ) → pos 1 ≤ℤ a → pos 0 <ℤ a
    above a h = omega (arith, linear)

    level : (a : ℤ) → a ≡ pos 0 → pos 0 ≤ℤ a
    level a e = omega (arith, linear)

-- a test of two numbers that are known by other names
pub le_test : (a b c d : ℤ) → a ≡ c → b ≡ d → IsTrue (le_z a b) ↔ (c ≤ℤ d)
le_test a b c d e f = (λ t. read t, λ h. test h)
  where
    read : IsTrue (le_z a b) → c ≤ℤ d
    read t = omega (arith, ints)

    test : c ≤ℤ d → IsTrue (le_z a b)
    test h = by (le_z a b) refl
      where
        by : (t : Bool) → le_z a b ≡ t → IsTrue t
        by true g = refl
        by false g = absurd (omega (arith, ints))
