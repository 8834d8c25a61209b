-- The forms along the axes.
use Rattle.std.proofs.Common.{◌≡◌, ℕ, ◌+◌, ◌*◌, ◌^◌, ◌≤◌, ℤ, pos, ◌+ℤ◌, ◌-ℤ◌, ◌*ℤ◌, neg_ℤ, ◌≤ℤ◌, ◌<ℤ◌, [], ◌∷◌, w64, sym, ap, ◌∙◌, arith, lit<}
use Rattle.std.proofs.lemmas.Int.{ints, to_z-of_z}
use Rattle.std.proofs.lemmas.Nat.{pow-add}
use Rattle.srs_num.specs.Points.{Point, LinearForm, value, IsNear, IsWithin}
use Rattle.srs_num.proofs.Linear.{linear, mul_nonneg}
use Rattle.srs_num.proofs.Ranges.{held, within_more, small_fits}
use Rattle.srs_num.proofs.Ring.{v, lit, ◌⊕◌, ◌⊖◌, ◌⊗◌, minus, ring}
use Rattle.srs_plane.specs.Regions.{Area, IsIn, Divides}
use Rattle.srs_path.specs.GridLine.{Axis, X, Y, form_along, grid_form}
use Rattle.srs_grid.specs.Levels.{Splits, IsSpread, IsTimes}
use Rattle.srs_grid.proofs.Powers.{power_within}
use Rattle.srs_grid.proofs.Spreads.{level_within}

-- 2^m*x, or 2^m*y
abbrev pub scaled : Axis → ℕ → LinearForm
scaled axis m = form_along axis (pos (2 ^ m)) (pos 0)

abbrev pub coordinate : Axis → Point → ℤ
coordinate X r = r.p
coordinate Y r = r.q

pub value_along : (axis : Axis) (s k : ℤ) (r : Point) → value (form_along axis s k) r ≡ s *ℤ coordinate axis r -ℤ k *ℤ r.d
unfolding value
value_along X s k r = ring (s ∷ k ∷ r.p ∷ r.q ∷ r.d ∷ []) (v 0 ⊗ v 2 ⊕ lit (pos 0) ⊗ v 3 ⊕ minus (v 1) ⊗ v 4) (v 0 ⊗ v 2 ⊖ v 1 ⊗ v 4) tt
value_along Y s k r = ring (s ∷ k ∷ r.p ∷ r.q ∷ r.d ∷ []) (lit (pos 0) ⊗ v 2 ⊕ v 0 ⊗ v 3 ⊕ minus (v 1) ⊗ v 4) (v 0 ⊗ v 3 ⊖ v 1 ⊗ v 4) tt

pub value_scaled : (axis : Axis) (m : ℕ) (r : Point) → value (scaled axis m) r ≡ pos (2 ^ m) *ℤ coordinate axis r
value_scaled axis m r =
    value_along axis (pos (2 ^ m)) (pos 0) r
    ∙ ring (pos (2 ^ m) ∷ coordinate axis r ∷ r.d ∷ []) (v 0 ⊗ v 1 ⊖ lit (pos 0) ⊗ v 2) (v 0 ⊗ v 1) tt

-- a grid line divides where its level splits
value_line : (axis : Axis) (m : ℕ) (k : ℤ) (r : Point) → value (form_along axis (pos (2 ^ m)) k) r ≡ value (scaled axis m) r -ℤ k *ℤ r.d
value_line axis m k r = value_along axis (pos (2 ^ m)) k r ∙ ap (λ x. x -ℤ k *ℤ r.d) (sym (value_scaled axis m r))

pub splits_divides : (R : Area) (axis : Axis) (m : ℕ) (k : ℤ) → Splits R (scaled axis m) k → Divides R (grid_form (record { m = m; axis = axis; k = k }))
splits_divides R axis m k s = record {
  not_below = (s.not_below.0, s.not_below.1, up _ _ _ (value_line axis m k s.not_below.0) s.not_below.2);
  below = (s.below.0, s.below.1, down _ _ _ (value_line axis m k s.below.0) s.below.2);
}
  where
    up : (a b c : ℤ) → a ≡ b -ℤ c → c ≤ℤ b → pos 0 ≤ℤ a
    up a b c e h = omega (arith, linear)

    down : (a b c : ℤ) → a ≡ b -ℤ c → b <ℤ c → a <ℤ pos 0
    down a b c e h = omega (arith, linear)

pub divides_splits : (R : Area) (axis : Axis) (m : ℕ) (k : ℤ) → Divides R (grid_form (record { m = m; axis = axis; k = k })) → Splits R (scaled axis m) k
divides_splits R axis m k s = record {
  not_below = (s.not_below.0, s.not_below.1, up _ _ _ (value_line axis m k s.not_below.0) s.not_below.2);
  below = (s.below.0, s.below.1, down _ _ _ (value_line axis m k s.below.0) s.below.2);
}
  where
    up : (a b c : ℤ) → a ≡ b -ℤ c → pos 0 ≤ℤ a → c ≤ℤ b
    up a b c e h = omega (arith, linear)

    down : (a b c : ℤ) → a ≡ b -ℤ c → a <ℤ pos 0 → b <ℤ c
    down a b c e h = omega (arith, linear)

-- at the finest level the form is so many times that of a coarser one
pub times_scaled : (axis : Axis) (m finer : ℕ) → m + finer ≡ 36 → IsTimes (2 ^ finer) (scaled axis m) (scaled axis 36)
times_scaled axis m finer e r =
    value_scaled axis 36 r ∙ ap (λ n. pos (2 ^ n) *ℤ coordinate axis r) (sym e) ∙ ap (λ n. pos n *ℤ coordinate axis r) (pow-add 2 m finer)
    ∙ ring (pos (2 ^ m) ∷ pos (2 ^ finer) ∷ coordinate axis r ∷ []) (v 0 ⊗ v 1 ⊗ v 2) (v 1 ⊗ (v 0 ⊗ v 2)) tt
    ∙ ap (λ x. pos (2 ^ finer) *ℤ x) (sym (value_scaled axis m r))

-- where each point is near, 2^m times a coordinate is at most 4 * 2^m in magnitude
near_along : (axis : Axis) (r : Point) → IsNear r → (neg_ℤ (pos 4 *ℤ r.d) ≤ℤ coordinate axis r) × (coordinate axis r ≤ℤ (pos 4 *ℤ r.d))
near_along X r n = (n.p_low, n.p_high)
near_along Y r n = (n.q_low, n.q_high)

pub spread_scaled : (R : Area) (axis : Axis) (m : ℕ) → ((r : Point) → IsIn R r → IsNear r) → IsSpread R (scaled axis m) (4 * 2 ^ m)
spread_scaled R axis m near r i =
    let x = coordinate axis r in
    let n = near_along axis r (near r i) in
    let s = pos (2 ^ m) in
    let low = mul_nonneg s (x +ℤ pos 4 *ℤ r.d) (natural (2 ^ m)) (from_low _ _ n.0) in
    let high = mul_nonneg s (pos 4 *ℤ r.d -ℤ x) (natural (2 ^ m)) (from_high _ _ n.1) in
    let a = ring (s ∷ x ∷ r.d ∷ []) (v 0 ⊗ (v 1 ⊕ lit (pos 4) ⊗ v 2)) (v 0 ⊗ v 1 ⊕ (lit (pos 4) ⊗ v 0) ⊗ v 2) tt in
    let b = ring (s ∷ x ∷ r.d ∷ []) (v 0 ⊗ (lit (pos 4) ⊗ v 2 ⊖ v 1)) ((lit (pos 4) ⊗ v 0) ⊗ v 2 ⊖ v 0 ⊗ v 1) tt in
    (to_low _ _ _ _ a (value_scaled axis m r) low, to_high _ _ _ _ b (value_scaled axis m r) high)
  where
    natural : (n : ℕ) → pos 0 ≤ℤ pos n
    natural n = omega (arith, ints)

    from_low : (x y : ℤ) → neg_ℤ y ≤ℤ x → pos 0 ≤ℤ (x +ℤ y)
    from_low x y h = omega (arith, linear)

    from_high : (x y : ℤ) → x ≤ℤ y → pos 0 ≤ℤ (y -ℤ x)
    from_high x y h = omega (arith, linear)

    to_low : (t y z w : ℤ) → t ≡ y +ℤ z → w ≡ y → pos 0 ≤ℤ t → neg_ℤ z ≤ℤ w
    to_low t y z w e f h = omega (arith, linear)

    to_high : (t y z w : ℤ) → t ≡ z -ℤ y → w ≡ y → pos 0 ≤ℤ t → w ≤ℤ z
    to_high t y z w e f h = omega (arith, linear)

scale_within : (m : ℕ) → m ≤ 36 → 4 * 2 ^ m ≤ 2 ^ 38
scale_within m h = let small : 2 ^ m ≤ 2 ^ 36 = power_within m 36 h in omega arith

line_within : (R : Area) (axis : Axis) (m : ℕ) (k : ℤ) → ((r : Point) → IsIn R r → IsNear r) → m ≤ 36 → Splits R (scaled axis m) k → IsWithin (2 ^ 38) k
line_within R axis m k near h split = within_more k (4 * 2 ^ m) (2 ^ 38) (level_within R (scaled axis m) (4 * 2 ^ m) k (spread_scaled R axis m near) split) (scale_within m h)

-- the number of a line is held by 64 bits
pub record HeldLine (k : ℤ) : Type 0 where
  pub value : held w64 k ≡ k
  pub near : IsWithin (2 ^ 38) (held w64 k)

pub held_line : (R : Area) (axis : Axis) (m : ℕ) (k : ℤ) → ((r : Point) → IsIn R r → IsNear r) → m ≤ 36 → Splits R (scaled axis m) k → HeldLine k
held_line R axis m k near h split =
    let small = line_within R axis m k near h split in
    let value : held w64 k ≡ k = to_z-of_z w64 k (small_fits w64 k (2 ^ 38) small (lit< tt)) in
    record { value = value; near = rw value small }
