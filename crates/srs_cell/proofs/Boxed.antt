-- Within the box |x| <= 4, |y| <= 4 each line that has points on both sides has an end.
use Rattle.std.proofs.Common.{◌≡◌, List, [], ◌∷◌, ◌++◌, ℤ, pos, negsuc, ◌+ℤ◌, ◌-ℤ◌, ◌*ℤ◌, neg_ℤ, ◌≤ℤ◌, ◌<ℤ◌, refl, ap, ◌∙◌, arith, All, Contains, lit<}
use Rattle.std.proofs.lemmas.Int.{by_lt_z}
use Rattle.srs_num.specs.Points.{LinearForm, Point, value, opposite}
use Rattle.srs_num.specs.Lines.{meet}
use Rattle.srs_cell.specs.Corners.{side, box}
use Rattle.std.proofs.lemmas.List.Elements.{All-contains, All-contains_itself, Contains-append_left}
use Rattle.srs_num.proofs.Linear.{linear, mul_nonneg, mul_pos}
use Rattle.srs_num.proofs.Ring.{v, lit, ◌⊕◌, ◌⊖◌, ◌⊗◌, minus, ring}

-- the box is among the halves
pub record IsBoxed (hs : List LinearForm) : Type 0 where
  pub right : Contains hs (side (pos 1) (pos 0))
  pub left : Contains hs (side (negsuc 0) (pos 0))
  pub top : Contains hs (side (pos 0) (pos 1))
  pub bottom : Contains hs (side (pos 0) (negsuc 0))

pub box-IsBoxed : (hs : List LinearForm) → IsBoxed (box ++ hs)
box-IsBoxed hs = record {
  right = within (side (pos 1) (pos 0)) (itself 0 (side (pos 1) (pos 0)) (lit< tt));
  top = within (side (pos 0) (pos 1)) (itself 1 (side (pos 1) (pos 0)) (lit< tt));
  left = within (side (negsuc 0) (pos 0)) (itself 2 (side (pos 1) (pos 0)) (lit< tt));
  bottom = within (side (pos 0) (negsuc 0)) (itself 3 (side (pos 1) (pos 0)) (lit< tt));
}
  where
    within : (h : LinearForm) → Contains box h → Contains (box ++ hs) h
    within h k = Contains-append_left box hs h k

    itself : All (Contains box) box
    itself = All-contains_itself box

meet-d_of : (a b : ℤ) (g : LinearForm) → (meet (side a b) g).d ≡ a *ℤ g.b -ℤ b *ℤ g.a
unfolding meet side
meet-d_of a b g = refl

value-flat : (g : LinearForm) (u : Point) → g.a ≡ pos 0 → g.b ≡ pos 0 → value g u ≡ g.c *ℤ u.d
unfolding value
value-flat g u e f = ap (λ x. x *ℤ u.p +ℤ g.b *ℤ u.q +ℤ g.c *ℤ u.d) e ∙ ap (λ x. pos 0 *ℤ u.p +ℤ x *ℤ u.q +ℤ g.c *ℤ u.d) f
    ∙ ring (u.p ∷ u.q ∷ g.c ∷ u.d ∷ []) (lit (pos 0) ⊗ v 0 ⊕ lit (pos 0) ⊗ v 1 ⊕ v 2 ⊗ v 3) (v 2 ⊗ v 3) tt

-- the four halves of the box cannot all miss a line that has one point on each side
pub box_has_end : (g : LinearForm) (u n : Point) → pos 0 ≤ℤ value g u → value g n <ℤ pos 0 → pos 0 <ℤ u.d → pos 0 <ℤ n.d
    → (meet (side (pos 1) (pos 0)) g).d ≤ℤ pos 0 → (meet (side (negsuc 0) (pos 0)) g).d ≤ℤ pos 0
    → (meet (side (pos 0) (pos 1)) g).d ≤ℤ pos 0 → (meet (side (pos 0) (negsuc 0)) g).d ≤ℤ pos 0
    → ⊥
box_has_end g u n gu gn ud nd r l t b =
    let gb = pinned g.b _ _ (meet-d_of (pos 1) (pos 0) g ∙ ring (g.b ∷ g.a ∷ []) (lit (pos 1) ⊗ v 0 ⊖ lit (pos 0) ⊗ v 1) (v 0) tt) r
    (meet-d_of (negsuc 0) (pos 0) g ∙ ring (g.b ∷ g.a ∷ []) (lit (negsuc 0) ⊗ v 0 ⊖ lit (pos 0) ⊗ v 1) (minus (v 0)) tt) l in
    let ga = pinned g.a _ _ (meet-d_of (pos 0) (negsuc 0) g ∙ ring (g.b ∷ g.a ∷ []) (lit (pos 0) ⊗ v 0 ⊖ lit (negsuc 0) ⊗ v 1) (v 1) tt) b
    (meet-d_of (pos 0) (pos 1) g ∙ ring (g.b ∷ g.a ∷ []) (lit (pos 0) ⊗ v 0 ⊖ lit (pos 1) ⊗ v 1) (minus (v 1)) tt) t in
    both_ways g.c u.d n.d _ _ (value-flat g u ga gb) (value-flat g n ga gb) gu gn ud nd
  where
    pinned : (a x y : ℤ) → x ≡ a → x ≤ℤ pos 0 → y ≡ neg_ℤ a → y ≤ℤ pos 0 → a ≡ pos 0
    pinned a x y e h f k = omega (arith, linear)

    both_ways : (c d d' x y : ℤ) → x ≡ c *ℤ d → y ≡ c *ℤ d' → pos 0 ≤ℤ x → y <ℤ pos 0 → pos 0 <ℤ d → pos 0 <ℤ d' → ⊥
    both_ways c d d' x y e f h k l m =
        by_lt_z c (pos 0)
        (λ low. let p = mul_pos (neg_ℤ c) d (omega (arith, linear)) l in
        let q = ring (c ∷ d ∷ []) (minus (v 0) ⊗ v 1) (minus (v 0 ⊗ v 1)) tt in omega (arith, linear))
        (λ high. let p = mul_nonneg c d' high (omega (arith, linear)) in omega (arith, linear))

-- so the search finds an end
pub boxed_end : (hs : List LinearForm) (g : LinearForm) (u n : Point) → IsBoxed hs → pos 0 ≤ℤ value g u → value g n <ℤ pos 0 → pos 0 <ℤ u.d → pos 0 <ℤ n.d
    → All (λ h. (meet h g).d ≤ℤ pos 0) hs → ⊥
boxed_end hs g u n box gu gn ud nd none =
    let P : LinearForm → Type 0 = λ h. (meet h g).d ≤ℤ pos 0 in
    box_has_end g u n gu gn ud nd (All-contains P hs _ none box.right) (All-contains P hs _ none box.left) (All-contains P hs _ none box.top) (All-contains P hs _ none box.bottom)

turned_side : (a b a' b' : ℤ) (g : LinearForm) → a' ≡ neg_ℤ a → b' ≡ neg_ℤ b → (meet (side a' b') g).d ≡ (meet (side a b) (opposite g)).d
unfolding meet side opposite
turned_side a b a' b' g e f =
    ap (λ x. x *ℤ g.b -ℤ b' *ℤ g.a) e ∙ ap (λ x. neg_ℤ a *ℤ g.b -ℤ x *ℤ g.a) f
    ∙ ring (a ∷ b ∷ g.a ∷ g.b ∷ []) (minus (v 0) ⊗ v 3 ⊖ minus (v 1) ⊗ v 2) (v 0 ⊗ minus (v 3) ⊖ v 1 ⊗ minus (v 2)) tt

-- and the other end
pub boxed_end_opposite : (hs : List LinearForm) (g : LinearForm) (u n : Point) → IsBoxed hs → pos 0 ≤ℤ value g u → value g n <ℤ pos 0 → pos 0 <ℤ u.d → pos 0 <ℤ n.d
    → All (λ h. (meet h (opposite g)).d ≤ℤ pos 0) hs → ⊥
boxed_end_opposite hs g u n box gu gn ud nd none =
    let P : LinearForm → Type 0 = λ h. (meet h (opposite g)).d ≤ℤ pos 0 in
    box_has_end g u n gu gn ud nd
    (carried _ _ (turned_side (negsuc 0) (pos 0) (pos 1) (pos 0) g refl refl) (All-contains P hs _ none box.left))
    (carried _ _ (turned_side (pos 1) (pos 0) (negsuc 0) (pos 0) g refl refl) (All-contains P hs _ none box.right))
    (carried _ _ (turned_side (pos 0) (negsuc 0) (pos 0) (pos 1) g refl refl) (All-contains P hs _ none box.bottom))
    (carried _ _ (turned_side (pos 0) (pos 1) (pos 0) (negsuc 0) g refl refl) (All-contains P hs _ none box.top))
  where
    carried : (a b : ℤ) → a ≡ b → b ≤ℤ pos 0 → a ≤ℤ pos 0
    carried a b e h = omega (arith, linear)
