-- How large the levels of a form are, by how large it is over a region.
use Rattle.std.proofs.Common.{◌≡◌, ℕ, ℤ, pos, ◌+ℤ◌, ◌*ℤ◌, neg_ℤ, ◌≤ℤ◌, ◌<ℤ◌, [], ◌∷◌, arith}
use Rattle.std.proofs.lemmas.Int.{by_lt_z}
use Rattle.srs_num.specs.Points.{LinearForm, IsWithin}
use Rattle.srs_num.proofs.Linear.{linear, mul_mono}
use Rattle.srs_num.proofs.Ranges.{within_of}
use Rattle.srs_num.proofs.Ring.{v, lit, ◌⊕◌, ◌⊗◌, minus, ring}
use Rattle.srs_plane.specs.Regions.{Area}
use Rattle.srs_grid.specs.Levels.{Splits, IsSpread}

not_below_zero : (a : ℤ) → pos 1 ≤ℤ a → pos 0 ≤ℤ a
not_below_zero a h = omega (arith, linear)

turned : (t d : ℤ) → neg_ℤ t *ℤ d ≡ neg_ℤ (t *ℤ d)
turned t d = ring (t ∷ d ∷ []) (minus (v 0) ⊗ v 1) (minus (v 0 ⊗ v 1)) tt

not_above : (x n : ℤ) → (x <ℤ n → ⊥) → n ≤ℤ x
not_above x n off = by_lt_z x n (λ l. absurd (off l)) (λ l. l)

clash_low : (x a b : ℤ) → a ≡ b → b ≤ℤ x → x <ℤ a → ⊥
clash_low x a b e h l = omega (arith, linear)

-- a level that splits the region
pub level_within : (R : Area) (f : LinearForm) (t : ℕ) (k : ℤ) → IsSpread R f t → Splits R f k → IsWithin t k
level_within R f t k spread split =
    let a = split.not_below in
    let b = split.below in
    within_of t k
    (not_above k (neg_ℤ (pos t)) (λ lt.
    clash_low _ _ _ (turned (pos t) b.0.d) (spread b.0 b.1).0
    (after _ _ _ b.2 (mul_mono k (neg_ℤ (pos t)) b.0.d (not_below_zero _ b.1.is_point) (weaken _ _ lt)))))
    (not_above (pos t) k (λ lt.
    clash _ _ _ (mul_mono (pos t +ℤ pos 1) k a.0.d (not_below_zero _ a.1.is_point) (next _ _ lt)) a.2 (spread a.0 a.1).1 a.1.is_point
    (ring (pos t ∷ a.0.d ∷ []) ((v 0 ⊕ lit (pos 1)) ⊗ v 1) (v 0 ⊗ v 1 ⊕ v 1) tt)))
  where
    weaken : (a b : ℤ) → a <ℤ b → a ≤ℤ b
    weaken a b h = omega (arith, linear)

    after : (x y z : ℤ) → x <ℤ y → y ≤ℤ z → x <ℤ z
    after x y z h l = omega (arith, linear)

    next : (j k : ℤ) → j <ℤ k → (j +ℤ pos 1) ≤ℤ k
    next j k h = omega (arith, linear)

    clash : {y d : ℤ} (s x n : ℤ) → s ≤ℤ x → x ≤ℤ n → n ≤ℤ y → pos 1 ≤ℤ d → s ≡ y +ℤ d → ⊥
    clash s x n a b c h e = omega (arith, linear)
