-- How floors are lessened by one more quotient, over plain numbers.
use Rattle.std.proofs.Common.{◌≡◌, inl, inr, ℕ, ◌*◌, ◌^◌, ◌<◌, FitsSigned, [], ◌∷◌, ℤ, pos, neg_ℤ, ◌+ℤ◌, ◌-ℤ◌, ◌*ℤ◌, ◌≤ℤ◌, ◌<ℤ◌, true, false, refl, sym, subst, arith}
use Rattle.std.specs.Int.{int_div_euclid, Width}
use mir.Val.{hbits}
use Rattle.std.specs.Int.Signed.{lt_z}
use Rattle.std.proofs.lemmas.Int.{by_lt_z, ints}
use Rattle.srs_num.specs.Points.{IsWithin}
use Rattle.srs_num.specs.Floor.{IsFloor}
use Rattle.srs_num.proofs.Linear.{linear, nonneg_of_positive, mul_mono}
use Rattle.srs_num.proofs.Ring.{v, lit, ◌⊖◌, ◌⊗◌, minus, ring}
use Rattle.srs_num.proofs.Ranges.{within_product, within_turned, small_fits}
use Rattle.srs_num.proofs.Floors.{floor_is, floor_within}
use Rattle.srs_cell.specs.Floors.{IsRatioWithin, AreFloorsOf, IsLesserFloor}

-- what a test of two numbers tells
pub read_lt : (a b : ℤ) → lt_z a b ≡ true → a <ℤ b
read_lt a b e = omega (arith, ints)

pub read_ge : (a b : ℤ) → lt_z a b ≡ false → b ≤ℤ a
read_ge a b e = omega (arith, ints)

pub is_read_lt : (a b : ℤ) → (lt_z a b ≡ true → a <ℤ b) × (a <ℤ b → lt_z a b ≡ true)
is_read_lt a b = (
  read_lt a b,
  λ l. elim (lt_z a b) as (λ x. lt_z a b ≡ x → x ≡ true) [
    | true ↦ λ e. refl
    | false ↦ λ e. absurd (omega (arith, ints, l, read_ge a b e))
  ] refl,
)

pub turned : (n : ℤ) → pos 0 -ℤ n ≡ neg_ℤ n
turned n = omega (arith, linear)

pub turned_ratio : (m : ℕ) (n d : ℤ) → IsRatioWithin m n d → IsRatioWithin m (neg_ℤ n) d
turned_ratio m n d r = record { positive = r.positive; low = low _ _ r.high; high = high _ _ r.low }
  where
    low : (x n : ℤ) → n ≤ℤ x → neg_ℤ x ≤ℤ neg_ℤ n
    low x n h = omega (arith, linear)

    high : (x n : ℤ) → neg_ℤ x ≤ℤ n → neg_ℤ n ≤ℤ x
    high x n h = omega (arith, linear)

module _ (m : ℕ) (n d : ℤ) (near : IsRatioWithin m n d) where
  pub floor_range : (k : ℤ) → IsFloor n d k → IsWithin m k
  floor_range k f = floor_within m n d k near.positive f near.low near.high

  pub quotient_floor : (k : ℤ) → k ≡ int_div_euclid n d → IsFloor n d k
  quotient_floor k e = subst (IsFloor n d) (sym e) (floor_is n d near.positive)

  pub quotient_range : (k : ℤ) → k ≡ int_div_euclid n d → IsWithin m k
  quotient_range k e = floor_range k (quotient_floor k e)

  -- the floor of n / d, and of -n / d
  pub floors_of : (k b : ℤ) → IsFloor n d k → IsFloor (neg_ℤ n) d b → AreFloorsOf m n d (record { ahead = k; back = b })
  floors_of k b f g = record {
    ahead = f;
    back = g;
    ahead_range = floor_range k f;
    back_range = floor_within m (neg_ℤ n) d b near.positive g (turned_ratio m n d near).low (turned_ratio m n d near).high;
  }

  pub whole_back : (k : ℤ) → IsFloor n d k → n ≤ℤ (k *ℤ d) → IsFloor (neg_ℤ n) d (pos 0 -ℤ k)
  whole_back k f h =
      let e = ring (k ∷ d ∷ []) ((lit (pos 0) ⊖ v 0) ⊗ v 1) (minus (v 0 ⊗ v 1)) tt in
      record { not_above = under _ _ _ e h; greatest = over _ _ _ _ e f.not_above near.positive }
    where
      under : (s x n : ℤ) → s ≡ neg_ℤ x → n ≤ℤ x → s ≤ℤ neg_ℤ n
      under s x n e h = omega (arith, linear)

      over : (s x n d : ℤ) → s ≡ neg_ℤ x → x ≤ℤ n → pos 1 ≤ℤ d → neg_ℤ n <ℤ (s +ℤ d)
      over s x n d e h g = omega (arith, linear)

  pub broken_back : (k : ℤ) → IsFloor n d k → (k *ℤ d) <ℤ n → IsFloor (neg_ℤ n) d (pos 0 -ℤ k -ℤ pos 1)
  broken_back k f h =
      let e = ring (k ∷ d ∷ []) ((lit (pos 0) ⊖ v 0 ⊖ lit (pos 1)) ⊗ v 1) (minus (v 0 ⊗ v 1) ⊖ v 1) tt in
      record { not_above = under _ (k *ℤ d) n d e f.greatest; greatest = over _ (k *ℤ d) n d e h }
    where
      under : (s x n d : ℤ) → s ≡ neg_ℤ x -ℤ d → n <ℤ (x +ℤ d) → s ≤ℤ neg_ℤ n
      under s x n d e h = omega (arith, linear)

      over : (s x n d : ℤ) → s ≡ neg_ℤ x -ℤ d → x <ℤ n → neg_ℤ n <ℤ (s +ℤ d)
      over s x n d e h = omega (arith, linear)

  pub lesser_divided : (least k : ℤ) → IsFloor n d k → n <ℤ (least *ℤ d) → IsLesserFloor m n d least k
  lesser_divided least k f h = record {
    not_above = f.not_above;
    not_more = by_lt_z least k (λ l. absurd (clash _ _ _ (mul_mono least k d (nonneg_of_positive d near.positive) (at_most least k l)) f.not_above h)) (λ l. l);
    taken = inr f.greatest;
    range = floor_range k f;
  }
    where
      at_most : (a b : ℤ) → a <ℤ b → a ≤ℤ b
      at_most a b h = omega (arith, linear)

      clash : (x y n : ℤ) → x ≤ℤ y → y ≤ℤ n → n <ℤ x → ⊥
      clash x y n a b c = omega (arith, linear)

  pub lesser_kept : (least : ℤ) → IsWithin m least → (least *ℤ d) ≤ℤ n → IsLesserFloor m n d least least
  lesser_kept least w h = record { not_above = h; not_more = same least; taken = inl refl; range = w }
    where
      same : (a : ℤ) → a ≤ℤ a
      same a = omega (arith, linear)

-- a numerator is as small as its quotient and its denominator say
pub numerator_within : (m s : ℕ) (n d : ℤ) → IsRatioWithin m n d → IsWithin s d → IsWithin (m * s) n
numerator_within m s n d near size =
    let p = within_product (pos m) d m s (whole m) size in
    within (m * s) (pos m *ℤ d) n p near.low near.high
  where
    whole : (m : ℕ) → IsWithin m (pos m)
    whole m = omega (arith, ints)

    within : (b : ℕ) (x n : ℤ) → IsWithin b x → neg_ℤ x ≤ℤ n → n ≤ℤ x → IsWithin b n
    within b x n h low high = omega (arith, ints)

pub turned_fits : (w : Width) (m s : ℕ) (n d : ℤ) → IsRatioWithin m n d → IsWithin s d → m * s < 2 ^ hbits w → FitsSigned w (pos 0 -ℤ n)
turned_fits w m s n d near size h = small_fits w (pos 0 -ℤ n) (m * s) (within_turned (m * s) n (numerator_within m s n d near size)) h
