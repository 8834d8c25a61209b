-- Which whole numbers a form passes over a region, by the floors of a form that is so many times as great.
use Rattle.std.proofs.Common.{◌≡◌, ℕ, ◌≤◌, ℤ, pos, ◌+ℤ◌, ◌*ℤ◌, ◌≤ℤ◌, ◌<ℤ◌, [], ◌∷◌, arith}
use Rattle.std.proofs.lemmas.Int.{by_lt_z, ints}
use Rattle.srs_num.specs.Points.{LinearForm, value}
use Rattle.srs_num.specs.Floor.{IsFloor, floor_quotient}
use Rattle.srs_num.proofs.Linear.{linear, mul_comm, mul_mono}
use Rattle.srs_num.proofs.Floors.{floor_is, floor_greatest}
use Rattle.srs_num.proofs.Ring.{v, lit, ◌⊕◌, ◌⊗◌, ring}
use Rattle.srs_plane.specs.Regions.{Area}
use Rattle.srs_grid.specs.declared.floor_ranges.FloorRange.{FloorRange}
use Rattle.srs_grid.specs.Levels.{Splits, IsFirstLevel, HasNoLevel, IsTimes}
use Rattle.srs_grid.specs.FloorRanges.{HasFloors}

-- ---- plain numbers
not_below_zero : (a : ℤ) → pos 1 ≤ℤ a → pos 0 ≤ℤ a
not_below_zero a h = omega (arith, linear)

clash : (x y : ℤ) → x ≤ℤ y → y <ℤ x → ⊥
clash x y h l = omega (arith, linear)

next : (a b : ℤ) → a <ℤ b → (a +ℤ pos 1) ≤ℤ b
next a b h = omega (arith, linear)

one_more : (a d : ℤ) → (a +ℤ pos 1) *ℤ d ≡ a *ℤ d +ℤ d
one_more a d = ring (a ∷ d ∷ []) ((v 0 ⊕ lit (pos 1)) ⊗ v 1) (v 0 ⊗ v 1 ⊕ v 1) tt

-- a common factor that is at least 1 keeps the order
lt_factor : (a b d : ℤ) → pos 1 ≤ℤ d → (a *ℤ d) <ℤ (b *ℤ d) → a <ℤ b
lt_factor a b d h l = by_lt_z a b (λ lt. lt) (λ le. absurd (clash _ _ (mul_mono b a d (not_below_zero d h) le) l))

le_factor : (a b d : ℤ) → pos 1 ≤ℤ d → (a *ℤ d) ≤ℤ (b *ℤ d) → a ≤ℤ b
le_factor a b d h l =
    by_lt_z b a
    (λ lt. absurd (over _ _ _ d (mul_mono (b +ℤ pos 1) a d (not_below_zero d h) (next b a lt)) (one_more b d) l h))
    (λ le. le)
  where
    over : (s x y d : ℤ) → s ≤ℤ x → s ≡ y +ℤ d → x ≤ℤ y → pos 1 ≤ℤ d → ⊥
    over s x y d e l h k = omega (arith, linear)

-- x is at or above the level k exactly where n times x is at or above k * n, and so on
module _ (n k d x y : ℤ) (some : pos 1 ≤ℤ n) (times : y ≡ n *ℤ x) where
  level_up : (k *ℤ d) ≤ℤ x → ((k *ℤ n) *ℤ d) ≤ℤ y
  level_up h = along _ _ _ (mul_mono (k *ℤ d) x n (not_below_zero n some) h) (ring (k ∷ d ∷ n ∷ []) ((v 0 ⊗ v 1) ⊗ v 2) ((v 0 ⊗ v 2) ⊗ v 1) tt) (mul_comm x n)
    where
      along : (a b c : ℤ) → a ≤ℤ b → a ≡ c → b ≡ n *ℤ x → c ≤ℤ y
      along a b c h e f = omega (arith, linear, times)

  level_down : ((k *ℤ n) *ℤ d) ≤ℤ y → (k *ℤ d) ≤ℤ x
  level_down h = le_factor (k *ℤ d) x n some (along _ _ _ h (ring (k ∷ d ∷ n ∷ []) ((v 0 ⊗ v 2) ⊗ v 1) ((v 0 ⊗ v 1) ⊗ v 2) tt) (mul_comm x n))
    where
      along : (a b c : ℤ) → a ≤ℤ y → a ≡ c → b ≡ n *ℤ x → c ≤ℤ b
      along a b c h e f = omega (arith, linear, times)

  under_up : x <ℤ (k *ℤ d) → y <ℤ ((k *ℤ n) *ℤ d)
  under_up h = by_lt_z y ((k *ℤ n) *ℤ d) (λ lt. lt) (λ le. absurd (clash _ _ (level_down le) h))

  under_down : y <ℤ ((k *ℤ n) *ℤ d) → x <ℤ (k *ℤ d)
  under_down h = by_lt_z x (k *ℤ d) (λ lt. lt) (λ le. absurd (clash _ _ (level_up le) h))

module _ (R : Area) (f g : LinearForm) (n : ℕ) (some : 1 ≤ n) (times : IsTimes n f g) (s : FloorRange) (floors : HasFloors R g s) where
  one : pos 1 ≤ℤ pos n
  one = omega (arith, ints)

  -- a whole number splits the region for f exactly where n times it is past the least floor of g and isn't past the greatest one, as the next two say
  splits_within : (k : ℤ) → s.low <ℤ (k *ℤ pos n) → (k *ℤ pos n) ≤ℤ s.high → Splits R f k
  splits_within k a b =
      let p = floors.each s.high (most _ _ _ a b) (itself s.high) in
      let q = floors.each s.low (itself s.low) (most _ _ _ a b) in
      record {
        not_below = (
          p.0,
          p.1,
          level_down (pos n) k p.0.d (value f p.0) (value g p.0) one (times p.0)
              (above _ _ _ (mul_mono (k *ℤ pos n) s.high p.0.d (not_below_zero _ p.1.is_point) b) p.2.not_above),
        );
        below = (
          q.0,
          q.1,
          under_down (pos n) k q.0.d (value f q.0) (value g q.0) one (times q.0)
              (under _ _ _ _ (mul_mono (s.low +ℤ pos 1) (k *ℤ pos n) q.0.d (not_below_zero _ q.1.is_point) (next _ _ a)) (one_more s.low q.0.d) q.2.greatest),
        );
      }
    where
      itself : (a : ℤ) → a ≤ℤ a
      itself a = omega (arith, linear)

      most : (a b c : ℤ) → a <ℤ b → b ≤ℤ c → a ≤ℤ c
      most a b c h l = omega (arith, linear)

      above : (x y z : ℤ) → x ≤ℤ y → y ≤ℤ z → x ≤ℤ z
      above x y z h l = omega (arith, linear)

      under : (t x y z : ℤ) → t ≤ℤ y → t ≡ x → z <ℤ x → z <ℤ y
      under t x y z h e l = omega (arith, linear)

  within_splits : (k : ℤ) → Splits R f k → (s.low <ℤ (k *ℤ pos n)) × ((k *ℤ pos n) ≤ℤ s.high)
  within_splits k split =
      let p = split.not_below in
      let q = split.below in
      let d = p.0.d in
      let e = q.0.d in
      let j = floor_quotient (value g p.0) d in
      let i = floor_quotient (value g q.0) e in
      let j_floor = floor_is (value g p.0) d p.1.is_point in
      let i_floor = floor_is (value g q.0) e q.1.is_point in
      let up = level_up (pos n) k d (value f p.0) (value g p.0) one (times p.0) p.2 in
      let down = under_up (pos n) k e (value f q.0) (value g q.0) one (times q.0) q.2 in (
        before _ _ _ (floors.all q.0 i q.1 i_floor).0 (lt_factor i (k *ℤ pos n) e q.1.is_point (under _ _ _ i_floor.not_above down)),
        after _ _ _ (floor_greatest (value g p.0) d (k *ℤ pos n) j p.1.is_point j_floor up) (floors.all p.0 j p.1 j_floor).1,
      )
    where
      before : (a b c : ℤ) → a ≤ℤ b → b <ℤ c → a <ℤ c
      before a b c h l = omega (arith, linear)

      after : (a b c : ℤ) → a ≤ℤ b → b ≤ℤ c → a ≤ℤ c
      after a b c h l = omega (arith, linear)

      under : (a b c : ℤ) → a ≤ℤ b → b <ℤ c → a <ℤ c
      under a b c h l = omega (arith, linear)

  module _ (b h : ℤ) (low : IsFloor s.low (pos n) b) (high : IsFloor s.high (pos n) h) where
    pub first_passed : b <ℤ h → IsFirstLevel R f (b +ℤ pos 1)
    first_passed lt = record {
      splits =
          splits_within (b +ℤ pos 1) (past _ _ _ low.greatest (one_more b (pos n)))
          (reached _ _ _ (mul_mono (b +ℤ pos 1) h (pos n) (not_below_zero _ one) (next b h lt)) high.not_above);
      none_below = λ j l split.
          clash _ _ (reached _ _ _ (mul_mono j b (pos n) (not_below_zero _ one) (at_most j b l)) low.not_above) (within_splits j split).0;
    }
      where
        past : (a x y : ℤ) → a <ℤ x → y ≡ x → a <ℤ y
        past a x y h e = omega (arith, linear)

        reached : (a b c : ℤ) → a ≤ℤ b → b ≤ℤ c → a ≤ℤ c
        reached a b c h l = omega (arith, linear)

        at_most : (j b : ℤ) → j <ℤ (b +ℤ pos 1) → j ≤ℤ b
        at_most j b h = omega (arith, linear)

    pub none_passed : h ≤ℤ b → HasNoLevel R f
    none_passed le k split =
        let w = within_splits k split in
        nothing b h k le (lt_factor b k (pos n) one (under _ _ _ low.not_above w.0))
        (lt_factor k (h +ℤ pos 1) (pos n) one (before _ _ _ _ w.1 high.greatest (one_more h (pos n))))
      where
        under : (a b c : ℤ) → a ≤ℤ b → b <ℤ c → a <ℤ c
        under a b c h l = omega (arith, linear)

        before : (a b c d : ℤ) → a ≤ℤ b → b <ℤ c → d ≡ c → a <ℤ d
        before a b c d h l e = omega (arith, linear)

        nothing : (b h k : ℤ) → h ≤ℤ b → b <ℤ k → k <ℤ (h +ℤ pos 1) → ⊥
        nothing b h k l m o = omega (arith, linear)
