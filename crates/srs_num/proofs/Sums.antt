-- Sums of points.
use Rattle.std.proofs.Common.{◌≡◌, ℕ, ◌+◌, ◌-◌, ◌^◌, ◌<◌, ◌≤◌, FitsSigned, lit<, length, take, take_all, get_or, List, [], ◌∷◌, ◌++◌, ℤ, pos, ◌+ℤ◌, ◌≤ℤ◌, refl, sym, ap, ◌∙◌, arith}
use Rattle.std.specs.Int.{w128}
use Rattle.std.proofs.lemmas.List.{take_more}
use Rattle.srs_num.specs.Points.{Point, IsPointWithin}
use Rattle.srs_num.specs.Lines.{plus, sum_of}
use Rattle.srs_num.proofs.Linear.{linear}
use Rattle.srs_num.proofs.Ranges.{within_sum, small_fits}
use Rattle.srs_num.proofs.Crossings.{point_at}

same : (p q d x y z : ℤ) → p ≡ x → q ≡ y → d ≡ z → point_at p q d ≡ point_at x y z
same p q d x y z e f g = cc

plus_assoc : (u t w : Point) → plus u (plus t w) ≡ plus (plus u t) w
unfolding plus
plus_assoc u t w = same _ _ _ _ _ _ (one u.p t.p w.p) (one u.q t.q w.q) (one u.d t.d w.d)
  where
    one : (a b c : ℤ) → a +ℤ (b +ℤ c) ≡ (a +ℤ b) +ℤ c
    one a b c = omega (arith, linear)

nothing_before : (c : Point) → plus (point_at (pos 0) (pos 0) (pos 0)) c ≡ c
unfolding plus
nothing_before c = same _ _ _ _ _ _ (one c.p) (one c.q) (one c.d)
  where
    one : (a : ℤ) → pos 0 +ℤ a ≡ a
    one a = omega (arith, linear)

nothing_after : (c : Point) → plus c (point_at (pos 0) (pos 0) (pos 0)) ≡ c
unfolding plus
nothing_after c = same _ _ _ _ _ _ (one c.p) (one c.q) (one c.d)
  where
    one : (a : ℤ) → a +ℤ pos 0 ≡ a
    one a = omega (arith, linear)

pub sum_of-one : (c : Point) → sum_of (c ∷ []) ≡ c
unfolding sum_of
sum_of-one c = nothing_after c

pub sum_of-push : (cs : List Point) (c : Point) → sum_of (cs ++ c ∷ []) ≡ plus (sum_of cs) c
unfolding sum_of
sum_of-push [] c = nothing_after c ∙ sym (nothing_before c)
sum_of-push (x ∷ xs) c = ap (plus x) (sum_of-push xs c) ∙ plus_assoc x (sum_of xs) c

pub plus_sized : (m n : ℕ) (u w : Point) → IsPointWithin m u → IsPointWithin n w → IsPointWithin (m + n) (plus u w)
unfolding plus
plus_sized m n u w h k = record {
  is_point = deep u.d w.d h.is_point k.is_point;
  d_range = within_sum u.d w.d m n h.d_range k.d_range;
  p_range = within_sum u.p w.p m n h.p_range k.p_range;
  q_range = within_sum u.q w.q m n h.q_range k.q_range;
}
  where
    deep : (a b : ℤ) → pos 1 ≤ℤ a → pos 1 ≤ℤ b → pos 1 ≤ℤ (a +ℤ b)
    deep a b h k = omega (arith, linear)

-- the numbers of a corner, in 128 bits
pub record CornerFits (u : Point) : Type 0 where
  pub p : FitsSigned w128 u.p
  pub q : FitsSigned w128 u.q
  pub d : FitsSigned w128 u.d

pub corner_fits : (u : Point) → IsPointWithin (2 ^ 84 - 1) u → CornerFits u
corner_fits u within = record {
  p = small_fits w128 u.p (2 ^ 84 - 1) within.p_range (lit< tt);
  q = small_fits w128 u.q (2 ^ 84 - 1) within.q_range (lit< tt);
  d = small_fits w128 u.d (2 ^ 84 - 1) within.d_range (lit< tt);
}

-- what is known of the sum of two points holds of its three numbers
pub plus_parts : (m : ℕ) (u w : Point) → IsPointWithin m (plus u w) → IsPointWithin m (point_at (u.p +ℤ w.p) (u.q +ℤ w.q) (u.d +ℤ w.d))
unfolding plus
plus_parts m u w h = h

pub plus_is : (u w : Point) → point_at (u.p +ℤ w.p) (u.q +ℤ w.q) (u.d +ℤ w.d) ≡ plus u w
unfolding plus
plus_is u w = refl

-- the first point, and one more
pub sum_first : (cs : List Point) (c : Point) → 1 ≤ length cs → c ≡ get_or cs 0 c → c ≡ sum_of (take 1 cs)
sum_first cs c h e =
    let t : take 1 cs ≡ c ∷ [] = take_more cs 0 c h ∙ ap (λ x. take 0 cs ++ x ∷ []) (sym e) in
    rw t (sym (sum_of-one c))

pub sum_more : (cs : List Point) (i : ℕ) (t c : Point) → i < length cs → c ≡ get_or cs i c → t ≡ sum_of (take i cs) → plus t c ≡ sum_of (take (i + 1) cs)
sum_more cs i t c h e s =
    let k : take (i + 1) cs ≡ take i cs ++ c ∷ [] = take_more cs i c h ∙ ap (λ x. take i cs ++ x ∷ []) (sym e) in
    rw k (rw (sum_of-push (take i cs) c) (ap (λ x. plus x c) s))

pub sum_all : (cs : List Point) (i : ℕ) (t : Point) → length cs ≤ i → t ≡ sum_of (take i cs) → t ≡ sum_of cs
sum_all cs i t h s = rw (take_all i cs h) at s
