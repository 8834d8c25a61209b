-- The box |x| <= 4, |y| <= 4 and its four corners.
use Rattle.std.proofs.Common.{◌≡◌, [], ◌∷◌, ℤ, pos, negsuc, neg_ℤ, ◌+ℤ◌, ◌-ℤ◌, ◌*ℤ◌, ◌≤ℤ◌, ◌<ℤ◌, All, refl, sym, ◌∙◌, arith}
use Rattle.std.proofs.lemmas.Int.{ints}
use Rattle.std.proofs.lemmas.List.Elements.{All-nil, All-cons, All-head, All-tail}
use Rattle.srs_num.specs.Points.{LinearForm, Point, value, IsNear}
use Rattle.srs_num.specs.Lines.{meet}
use Rattle.srs_num.proofs.Linear.{linear, mul_nonneg, mul_pos, nonneg_from}
use Rattle.srs_num.proofs.Ring.{Expr, v, lit, ◌⊕◌, ◌⊖◌, ◌⊗◌, ring}
use Rattle.srs_cell.specs.Hull.{IsInHalves, IsHull}
use Rattle.srs_cell.specs.Corners.{side, box}

value-right : (z : Point) → value (side (pos 1) (pos 0)) z ≡ z.p +ℤ pos 4 *ℤ z.d
unfolding value side
value-right z = ring (z.p ∷ z.q ∷ z.d ∷ []) (lit (pos 1) ⊗ v 0 ⊕ lit (pos 0) ⊗ v 1 ⊕ lit (pos 4) ⊗ v 2) (v 0 ⊕ lit (pos 4) ⊗ v 2) tt

value-top : (z : Point) → value (side (pos 0) (pos 1)) z ≡ z.q +ℤ pos 4 *ℤ z.d
unfolding value side
value-top z = ring (z.p ∷ z.q ∷ z.d ∷ []) (lit (pos 0) ⊗ v 0 ⊕ lit (pos 1) ⊗ v 1 ⊕ lit (pos 4) ⊗ v 2) (v 1 ⊕ lit (pos 4) ⊗ v 2) tt

value-left : (z : Point) → value (side (negsuc 0) (pos 0)) z ≡ pos 4 *ℤ z.d -ℤ z.p
unfolding value side
value-left z = ring (z.p ∷ z.q ∷ z.d ∷ []) (lit (negsuc 0) ⊗ v 0 ⊕ lit (pos 0) ⊗ v 1 ⊕ lit (pos 4) ⊗ v 2) (lit (pos 4) ⊗ v 2 ⊖ v 0) tt

value-bottom : (z : Point) → value (side (pos 0) (negsuc 0)) z ≡ pos 4 *ℤ z.d -ℤ z.q
unfolding value side
value-bottom z = ring (z.p ∷ z.q ∷ z.d ∷ []) (lit (pos 0) ⊗ v 0 ⊕ lit (negsuc 0) ⊗ v 1 ⊕ lit (pos 4) ⊗ v 2) (lit (pos 4) ⊗ v 2 ⊖ v 1) tt

-- a near point is in the box
pub near_in_box : (z : Point) → IsNear z → All (λ h. pos 0 ≤ℤ value h z) box
near_in_box z n =
    let P : LinearForm → Type 0 = λ h. pos 0 ≤ℤ value h z in
    let r = side (pos 1) (pos 0) in
    let t = side (pos 0) (pos 1) in
    let l = side (negsuc 0) (pos 0) in
    let b = side (pos 0) (negsuc 0) in
    All-cons P r (t ∷ l ∷ b ∷ []) (low _ _ _ (value-right z) n.p_low)
    (All-cons P t (l ∷ b ∷ []) (low _ _ _ (value-top z) n.q_low)
    (All-cons P l (b ∷ []) (high _ _ _ (value-left z) n.p_high)
    (All-cons P b [] (high _ _ _ (value-bottom z) n.q_high) (All-nil P))))
  where
    low : (r a m : ℤ) → r ≡ a +ℤ m → neg_ℤ m ≤ℤ a → pos 0 ≤ℤ r
    low r a m e h = omega (arith, linear)

    high : (r a m : ℤ) → r ≡ m -ℤ a → a ≤ℤ m → pos 0 ≤ℤ r
    high r a m e h = omega (arith, linear)

-- and a point in the box is near
pub near_by_box : (z : Point) → All (λ h. pos 0 ≤ℤ value h z) box → IsNear z
near_by_box z a =
    let P : LinearForm → Type 0 = λ h. pos 0 ≤ℤ value h z in
    let r = side (pos 1) (pos 0) in
    let t = side (pos 0) (pos 1) in
    let l = side (negsuc 0) (pos 0) in
    let b = side (pos 0) (negsuc 0) in
    let a1 = All-tail P r (t ∷ l ∷ b ∷ []) a in
    let a2 = All-tail P t (l ∷ b ∷ []) a1 in
    let a3 = All-tail P l (b ∷ []) a2 in
    record {
      p_low = low _ _ _ (value-right z) (All-head P r (t ∷ l ∷ b ∷ []) a);
      p_high = high _ _ _ (value-left z) (All-head P l (b ∷ []) a2);
      q_low = low _ _ _ (value-top z) (All-head P t (l ∷ b ∷ []) a1);
      q_high = high _ _ _ (value-bottom z) (All-head P b [] a3);
    }
  where
    low : (r a m : ℤ) → r ≡ a +ℤ m → pos 0 ≤ℤ r → neg_ℤ m ≤ℤ a
    low r a m e h = omega (arith, linear)

    high : (r a m : ℤ) → r ≡ m -ℤ a → pos 0 ≤ℤ r → a ≤ℤ m
    high r a m e h = omega (arith, linear)

-- the four corners of the box
pub record AreBoxCorners (w x y z : Point) : Type 0 where
  pub low_left : w ≡ meet (side (pos 1) (pos 0)) (side (pos 0) (pos 1))
  pub low_right : x ≡ meet (side (pos 0) (pos 1)) (side (negsuc 0) (pos 0))
  pub high_right : y ≡ meet (side (negsuc 0) (pos 0)) (side (pos 0) (negsuc 0))
  pub high_left : z ≡ meet (side (pos 0) (negsuc 0)) (side (pos 1) (pos 0))

abbrev at : ℤ → ℤ → Point
at p q = record { p = p; q = q; d = pos 1 }

corner-low_left : meet (side (pos 1) (pos 0)) (side (pos 0) (pos 1)) ≡ at (negsuc 3) (negsuc 3)
unfolding meet side
corner-low_left = refl

corner-low_right : meet (side (pos 0) (pos 1)) (side (negsuc 0) (pos 0)) ≡ at (pos 4) (negsuc 3)
unfolding meet side
corner-low_right = refl

corner-high_right : meet (side (negsuc 0) (pos 0)) (side (pos 0) (negsuc 0)) ≡ at (pos 4) (pos 4)
unfolding meet side
corner-high_right = refl

corner-high_left : meet (side (pos 0) (negsuc 0)) (side (pos 1) (pos 0)) ≡ at (negsuc 3) (pos 4)
unfolding meet side
corner-high_left = refl

-- a form that is at least 0 at the four corners is at least 0 at each point of the box, which lies among them by its distances to the sides
distances_weigh : (f : LinearForm) (z : Point) →
    (pos 64 *ℤ z.d) *ℤ value f z
    ≡ ((pos 4 *ℤ z.d -ℤ z.p) *ℤ (pos 4 *ℤ z.d -ℤ z.q)) *ℤ value f (at (negsuc 3) (negsuc 3))
    +ℤ ((z.p +ℤ pos 4 *ℤ z.d) *ℤ (pos 4 *ℤ z.d -ℤ z.q)) *ℤ value f (at (pos 4) (negsuc 3))
    +ℤ ((z.p +ℤ pos 4 *ℤ z.d) *ℤ (z.q +ℤ pos 4 *ℤ z.d)) *ℤ value f (at (pos 4) (pos 4))
    +ℤ ((pos 4 *ℤ z.d -ℤ z.p) *ℤ (z.q +ℤ pos 4 *ℤ z.d)) *ℤ value f (at (negsuc 3) (pos 4))
unfolding value
distances_weigh f z =
    let A = v 0 in let B = v 1 in let C = v 2 in let P = v 3 in let Q = v 4 in let D = v 5 in
    let F = λ (p q : Expr). A ⊗ p ⊕ B ⊗ q ⊕ C ⊗ lit (pos 1) in
    let M = lit (pos 4) ⊗ D in
    ring (f.a ∷ f.b ∷ f.c ∷ z.p ∷ z.q ∷ z.d ∷ [])
    ((lit (pos 64) ⊗ D) ⊗ (A ⊗ P ⊕ B ⊗ Q ⊕ C ⊗ D))
    (((M ⊖ P) ⊗ (M ⊖ Q)) ⊗ F (lit (negsuc 3)) (lit (negsuc 3))
    ⊕ ((P ⊕ M) ⊗ (M ⊖ Q)) ⊗ F (lit (pos 4)) (lit (negsuc 3))
    ⊕ ((P ⊕ M) ⊗ (Q ⊕ M)) ⊗ F (lit (pos 4)) (lit (pos 4))
    ⊕ ((M ⊖ P) ⊗ (Q ⊕ M)) ⊗ F (lit (negsuc 3)) (lit (pos 4)))
    tt

corner_near : (p q : ℤ) → neg_ℤ (pos 4) ≤ℤ p → p ≤ℤ pos 4 → neg_ℤ (pos 4) ≤ℤ q → q ≤ℤ pos 4 → IsInHalves box (at p q)
corner_near p q a b c d = record { positive = one; each = near_in_box (at p q) (record { p_low = a; p_high = b; q_low = c; q_high = d }) }
  where
    one : pos 0 <ℤ pos 1
    one = omega (arith, ints)

pub box_hull : (w x y z : Point) → AreBoxCorners w x y z → IsHull box (w ∷ x ∷ y ∷ z ∷ [])
box_hull w x y z k =
    rw (k.low_left ∙ corner-low_left, k.low_right ∙ corner-low_right, k.high_right ∙ corner-high_right, k.high_left ∙ corner-high_left) (record {
      inside =
          All-cons In ll (lr ∷ hr ∷ hl ∷ []) (corner_near (negsuc 3) (negsuc 3) (omega (arith, ints)) (omega (arith, ints)) (omega (arith, ints)) (omega (arith, ints)))
          (All-cons In lr (hr ∷ hl ∷ []) (corner_near (pos 4) (negsuc 3) (omega (arith, ints)) (omega (arith, ints)) (omega (arith, ints)) (omega (arith, ints)))
          (All-cons In hr (hl ∷ []) (corner_near (pos 4) (pos 4) (omega (arith, ints)) (omega (arith, ints)) (omega (arith, ints)) (omega (arith, ints)))
          (All-cons In hl [] (corner_near (negsuc 3) (pos 4) (omega (arith, ints)) (omega (arith, ints)) (omega (arith, ints)) (omega (arith, ints)))
          (All-nil In))));
      whole = λ f above u u_in.
          let P : Point → Type 0 = λ c. pos 0 ≤ℤ value f c in
          let Q : LinearForm → Type 0 = λ h. pos 0 ≤ℤ value h u in
          let a1 = All-tail P ll (lr ∷ hr ∷ hl ∷ []) above in
          let a2 = All-tail P lr (hr ∷ hl ∷ []) a1 in
          let a3 = All-tail P hr (hl ∷ []) a2 in
          let b1 = All-tail Q r (t ∷ l ∷ b ∷ []) u_in.each in
          let b2 = All-tail Q t (l ∷ b ∷ []) b1 in
          let b3 = All-tail Q l (b ∷ []) b2 in
          let right = by _ _ (sym (value-right u)) (All-head Q r (t ∷ l ∷ b ∷ []) u_in.each) in
          let top = by _ _ (sym (value-top u)) (All-head Q t (l ∷ b ∷ []) b1) in
          let left = by _ _ (sym (value-left u)) (All-head Q l (b ∷ []) b2) in
          let bottom = by _ _ (sym (value-bottom u)) (All-head Q b [] b3) in
          nonneg_from (pos 64 *ℤ u.d) (value f u) (mul_pos (pos 64) u.d (omega (arith, ints)) u_in.positive)
          (four _ _ _ _ _ (distances_weigh f u)
          (mul_nonneg _ _ (mul_nonneg _ _ left bottom) (All-head P ll (lr ∷ hr ∷ hl ∷ []) above))
          (mul_nonneg _ _ (mul_nonneg _ _ right bottom) (All-head P lr (hr ∷ hl ∷ []) a1))
          (mul_nonneg _ _ (mul_nonneg _ _ right top) (All-head P hr (hl ∷ []) a2))
          (mul_nonneg _ _ (mul_nonneg _ _ left top) (All-head P hl [] a3)));
    })
  where
    In : Point → Type 0
    In = IsInHalves box

    ll : Point
    ll = at (negsuc 3) (negsuc 3)

    lr : Point
    lr = at (pos 4) (negsuc 3)

    hr : Point
    hr = at (pos 4) (pos 4)

    hl : Point
    hl = at (negsuc 3) (pos 4)

    r : LinearForm
    r = side (pos 1) (pos 0)

    t : LinearForm
    t = side (pos 0) (pos 1)

    l : LinearForm
    l = side (negsuc 0) (pos 0)

    b : LinearForm
    b = side (pos 0) (negsuc 0)

    by : (a b : ℤ) → a ≡ b → pos 0 ≤ℤ b → pos 0 ≤ℤ a
    by a b e h = omega (arith, linear)

    four : (s a b c d : ℤ) → s ≡ a +ℤ b +ℤ c +ℤ d → pos 0 ≤ℤ a → pos 0 ≤ℤ b → pos 0 ≤ℤ c → pos 0 ≤ℤ d → pos 0 ≤ℤ s
    four s a b c d e h i j k = omega (arith, linear)

-- each side turns to the next one
pub sides_turn : (pos 0 <ℤ (meet (side (pos 1) (pos 0)) (side (pos 0) (pos 1))).d)
    × (pos 0 <ℤ (meet (side (pos 0) (pos 1)) (side (negsuc 0) (pos 0))).d)
    × (pos 0 <ℤ (meet (side (negsuc 0) (pos 0)) (side (pos 0) (negsuc 0))).d)
    × (pos 0 <ℤ (meet (side (pos 0) (negsuc 0)) (side (pos 1) (pos 0))).d)
unfolding meet side
sides_turn = (one, one, one, one)
  where
    one : pos 0 <ℤ pos 1
    one = omega (arith, ints)
