-- Pairs with those on the other side of (0, 0).
use Rattle.std.proofs.Common.{◌≡◌, ◌≢◌, inl, inr, ℕ, zero, suc, ◌+◌, ◌-◌, ◌<◌, List, [], ◌∷◌, ◌++◌, length, take, get_or, Bool, true, false, IsTrue, ℤ, neg_ℤ, ◌≤ℤ◌, ◌<ℤ◌, arith, ap, subst, sym, ◌∙◌, refl, length-append, lit<}
use Rattle.std.specs.Prelude.{Contains, AllPairs, if◌then◌else◌}
use Rattle.std.proofs.Math.Decide.{dec_lt}
use Rattle.std.proofs.lemmas.Bool.{false≢true}
use Rattle.std.proofs.lemmas.Int.{ints}
use Rattle.std.proofs.lemmas.List.{get_or-append_right, get_or_append_left, get_or-take, length-take-le}
use Rattle.std.proofs.lemmas.List.Elements.{Contains-append_left, Contains-append_right, Contains-append_cases, Contains-push, Contains-push_cases, Contains-get_or}
use Rattle.std.proofs.lemmas.List.Quantifiers.{all_pairs_push}
use Rattle.srs_num.specs.declared.pairs.V2.{V2}
use Rattle.srs_map.specs.Step.{minus, origin}
use Rattle.srs_plane.specs.Regions.{Area}
use Rattle.srs_path.specs.Witnesses.{IsWitness}
use Rattle.srs_path.specs.Core.{Precedes}
use Rattle.srs_path.proofs.Order.{precedes-trans}
use Rattle.srs_wit.specs.Halves.{IsUpper, IsHeld, opposites, with_opposites, count_both}
use Rattle.srs_wit.specs.Listing.{AreTooMany}
use Rattle.srs_wit.specs.Search.{AreHalf}
use Rattle.srs_wit.proofs.Mirrored.{minus_twice, witness_mirrored}

-- ---- the order
pub mirror_order : (v w : V2) → Precedes v w → Precedes (minus w) (minus v)
mirror_order v w h = (first v.a w.a h.0, λ e. second v.b w.b (h.1 (same v.a w.a e)))
  where
    first : (x y : ℤ) → x ≤ℤ y → neg_ℤ y ≤ℤ neg_ℤ x
    first x y h = omega (arith, ints)

    same : (x y : ℤ) → neg_ℤ y ≡ neg_ℤ x → x ≡ y
    same x y e = omega (arith, ints)

    second : (x y : ℤ) → x <ℤ y → neg_ℤ y <ℤ neg_ℤ x
    second x y h = omega (arith, ints)

-- what is below (0, 0)
pub below_origin : (w : V2) → IsUpper (minus w) → Precedes w origin
below_origin w h = subst (λ (x : V2). Precedes x origin) (minus_twice w) (mirror_order origin (minus w) h)

pub precedes_apart : (v w : V2) → Precedes v w → v ≢ w
precedes_apart v w h e = no v.b w.b (h.1 (ap (λ (u : V2). u.a) e)) (ap (λ (u : V2). u.b) e)
  where
    no : (x y : ℤ) → x <ℤ y → x ≡ y → ⊥
    no x y h e = omega (arith, ints)

-- ---- the pairs on the other side
pub to_opposites : (ws : List V2) (w : V2) → Contains ws (minus w) → Contains (opposites ws) w
to_opposites [] w c = absurd (omega (arith, c.1))
to_opposites (x ∷ xs) w (zero, l, e) =
    subst (Contains (opposites xs ++ minus x ∷ [])) (ap minus e ∙ minus_twice w) (Contains-push (opposites xs) (minus x))
to_opposites (x ∷ xs) w (suc k, l, e) = Contains-append_left (opposites xs) (minus x ∷ []) w (to_opposites xs w (k, omega arith, e))

pub from_opposites : (ws : List V2) (w : V2) → Contains (opposites ws) w → Contains ws (minus w)
from_opposites [] w c = absurd (omega (arith, c.1))
from_opposites (x ∷ xs) w c = elim (Contains-push_cases (opposites xs) (minus x) w c) [
  | inl y ↦ let t = from_opposites xs w y in (suc t.0, omega (arith, t.1), t.2)
  | inr e ↦ (zero, omega arith, sym (minus_twice x) ∙ ap minus e)
]

pub length-opposites : (ws : List V2) → length (opposites ws) ≡ length ws
length-opposites [] = refl
length-opposites (x ∷ xs) = let e = length-append (opposites xs) (minus x ∷ []) in omega (arith, e, length-opposites xs)

module _ (P : V2 → V2 → Type 0) where
  pub pairs_append : (xs ys : List V2) → AllPairs P xs → AllPairs P ys → ((x y : V2) → Contains xs x → Contains ys y → P x y) → AllPairs P (xs ++ ys)
  pairs_append xs ys hx hy across i j d lt within =
      let n = length xs in
      let long = length-append xs ys in
      elim (dec_lt j n) as (λ _. P (get_or (xs ++ ys) i d) (get_or (xs ++ ys) j d)) [
        | yes b ↦ rw (get_or_append_left xs ys d i (omega arith), get_or_append_left xs ys d j b) (hx i j d lt b)
        | no b ↦ elim (dec_lt i n) as (λ _. P (get_or (xs ++ ys) i d) (get_or (xs ++ ys) j d)) [
          | yes a ↦ rw (get_or_append_left xs ys d i a, get_or-append_right xs ys n j d refl (omega arith))
              (across _ _ (Contains-get_or xs i d a) (Contains-get_or ys (j - n) d (omega (arith, long))))
          | no a ↦ rw (get_or-append_right xs ys n i d refl (omega arith), get_or-append_right xs ys n j d refl (omega arith))
              (hy (i - n) (j - n) d (omega arith) (omega (arith, long)))
        ]
      ]

  module _ (turn : (x y : V2) → P x y → P (minus y) (minus x)) where
    pub pairs_opposites : (ws : List V2) → AllPairs P ws → AllPairs P (opposites ws)
    pairs_opposites [] h = λ i j d lt within. absurd (omega arith)
    pairs_opposites (x ∷ xs) h =
        all_pairs_push P (opposites xs) (minus x)
        (pairs_opposites xs (λ i j d lt within. h (suc i) (suc j) d (omega arith) (omega arith)))
        (λ k d lt.
        let y = get_or (opposites xs) k d in
        let c = from_opposites xs y (Contains-get_or (opposites xs) k d lt) in
        let p : P x (minus y) = subst (P x) c.2 (h zero (suc c.0) (minus y) (omega arith) (omega (arith, c.1))) in
        subst (λ (z : V2). P z (minus x)) (minus_twice y) (turn x (minus y) p))

    -- the pairs on both sides of (0, 0), and that itself
    pub pairs_both : (ws : List V2) (met : Bool) → ((x y : V2) → Precedes x y → P x y) → ((w : V2) → Contains ws w → IsUpper w) → AllPairs P ws → AllPairs P (with_opposites ws met)
    pairs_both ws met order upper h =
        pairs_append (opposites ws) _ (pairs_opposites ws h) (with_center met)
        (λ x y cx cy. order x y (low_first met x y cx cy))
      where
        low : (x : V2) → Contains (opposites ws) x → Precedes x origin
        low x c = below_origin x (upper (minus x) (from_opposites ws x c))

        with_center : (met : Bool) → AllPairs P ((if met then origin ∷ [] else []) ++ ws)
        with_center false = h
        with_center true = pairs_append (origin ∷ []) ws (λ i j d lt within. absurd (omega arith)) h
            (λ x y cx cy. subst (λ (z : V2). P z y) (one x cx) (order origin y (upper y cy)))
          where
            one : (x : V2) → Contains (origin ∷ []) x → origin ≡ x
            one x (zero, l, e) = e
            one x (suc k, l, e) = absurd (omega arith)

        low_first : (met : Bool) (x y : V2) → Contains (opposites ws) x → Contains ((if met then origin ∷ [] else []) ++ ws) y → Precedes x y
        low_first false x y cx cy = precedes-trans x origin y (low x cx) (upper y cy)
        low_first true x y cx cy = elim (Contains-append_cases (origin ∷ []) ws y cy) [
          | inl c ↦ subst (Precedes x) (one y c) (low x cx)
          | inr c ↦ precedes-trans x origin y (low x cx) (upper y c)
        ]
          where
            one : (x : V2) → Contains (origin ∷ []) x → origin ≡ x
            one x (zero, l, e) = e
            one x (suc k, l, e) = absurd (omega arith)

-- ---- what is held
pub held_listed : (ws : List V2) (met : Bool) (v : V2) → IsHeld ws met v → Contains (with_opposites ws met) v
held_listed ws met v (inl c) = Contains-append_right (opposites ws) _ v (Contains-append_right (if met then origin ∷ [] else []) ws v c)
held_listed ws met v (inr (inl c)) = Contains-append_left (opposites ws) _ v (to_opposites ws v c)
held_listed ws met v (inr (inr c)) = Contains-append_right (opposites ws) _ v (Contains-append_left (if met then origin ∷ [] else []) ws v (at_center met c.1))
  where
    at_center : (met : Bool) → IsTrue met → Contains (if met then origin ∷ [] else []) v
    at_center true h = (zero, lit< tt, sym c.0)
    at_center false h = absurd (false≢true h)

pub listed_held : (ws : List V2) (met : Bool) (v : V2) → Contains (with_opposites ws met) v → IsHeld ws met v
listed_held ws met v c = elim (Contains-append_cases (opposites ws) _ v c) [
  | inl x ↦ inr (inl (from_opposites ws v x))
  | inr x ↦ elim (Contains-append_cases (if met then origin ∷ [] else []) ws v x) [
    | inl y ↦ inr (inr (at_center met y))
    | inr y ↦ inl y
  ]
]
  where
    at_center : (met : Bool) → Contains (if met then origin ∷ [] else []) v → (v ≡ origin) × IsTrue met
    at_center true (zero, l, e) = (sym e, refl)
    at_center true (suc k, l, e) = absurd (omega arith)
    at_center false (k, l, e) = absurd (omega arith)

pub length-both : (ws : List V2) (met : Bool) → length (with_opposites ws met) ≡ count_both ws met
length-both ws met = let e = length-append (opposites ws) ((if met then origin ∷ [] else []) ++ ws) in omega (arith, e, length-opposites ws, center met)
  where
    center : (met : Bool) → length ((if met then origin ∷ [] else []) ++ ws) ≡ (if met then 1 else 0) + length ws
    center true = length-append (origin ∷ []) ws
    center false = omega arith

-- ---- the witnesses on both sides
module _ (R : Area) (ws : List V2) (met : Bool) (h : AreHalf R ws met) where
  pub held_witness : (v : V2) → IsHeld ws met v → IsWitness R v
  held_witness v (inl c) = h.each v c
  held_witness v (inr (inl c)) = subst (IsWitness R) (minus_twice v) (witness_mirrored R (h.each (minus v) c))
  held_witness v (inr (inr c)) = subst (IsWitness R) (sym c.0) (h.center c.1)

  pub both_different : AllPairs ◌≢◌ (with_opposites ws met)
  both_different = pairs_both ◌≢◌ (λ x y d e. d (sym (sym (minus_twice y) ∙ ap minus e ∙ minus_twice x))) ws met precedes_apart h.upper h.different

  -- more than W of them
  pub shows_many : (W : ℕ) → W < count_both ws met → AreTooMany R W (take (W + 1) (with_opposites ws met))
  shows_many W lt =
      let all = with_opposites ws met in
      let long : length (take (W + 1) all) ≡ W + 1 = length-take-le (W + 1) all (omega (arith, length-both ws met)) in
      record {
        witnesses = record {
          different = λ i j d b l. rw (get_or-take (W + 1) all i d (omega (arith, b, l, long)), get_or-take (W + 1) all j d (omega (arith, l, long))) (both_different i j d b (omega (arith, l, long, length-both ws met)));
          each = λ w c. held_witness w (listed_held ws met w (c.0, omega (arith, c.1, long, length-both ws met), rw (get_or-take (W + 1) all c.0 w (omega (arith, c.1, long))) at c.2));
        };
        many = long;
      }
