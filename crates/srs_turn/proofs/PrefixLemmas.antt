-- Beginnings of one list.
use Rattle.std.proofs.Common.{◌≡◌, ◌⊎◌, ◌≤◌, List, [], ◌∷◌, ◌++◌, length, leb, true, false, Bool, sym, refl, ap, ◌∙◌, subst, ⊎_elim, inl, inr, arith, append_assoc, append-nil, length-append, leb-true, leb-false, get_or}
use Rattle.std.specs.Prelude.{if◌then◌else◌}
use Rattle.srs_turn.specs.Prefixes.{Begins, AddsAtMostOne, longer}

module _ {E : Type 0} where
  pub begins_refl : (xs : List E) → Begins xs xs
  begins_refl xs = ([], sym (append-nil xs))

  pub begins_trans : (xs ys zs : List E) → Begins xs ys → Begins ys zs → Begins xs zs
  begins_trans xs ys zs a b = (a.0 ++ b.0, b.1 ∙ ap (λ l. l ++ b.0) a.1 ∙ append_assoc xs a.0 b.0)

  -- what adds one entry at most begins with what was there
  pub begins_next : (xs ys : List E) → AddsAtMostOne xs ys → Begins xs ys
  begins_next xs ys n = ⊎_elim (λ (e : ys ≡ xs). ([], e ∙ sym (append-nil xs))) (λ (e : (x : E) × (ys ≡ xs ++ x ∷ [])). (e.0 ∷ [], e.1)) n

  tail : List E → List E
  tail [] = []
  tail (x ∷ xs) = xs

  tails : (x y : E) (xs ys : List E) → x ∷ xs ≡ y ∷ ys → xs ≡ ys
  unfolding tail
  tails x y xs ys e = ap tail e

  heads : (x y : E) (xs ys : List E) → x ∷ xs ≡ y ∷ ys → x ≡ y
  heads x y xs ys e = ap (λ l. get_or l 0 x) e

  -- of two beginnings of one list, one begins the other
  pub begins_either : (xs ys list : List E) → Begins xs list → Begins ys list → Begins xs ys ⊎ Begins ys xs
  begins_either [] ys list a b = inl (ys, refl)
  begins_either (x ∷ xs) [] list a b = inr (x ∷ xs, refl)
  begins_either (x ∷ xs) (y ∷ ys) [] a b = absurd (cc)
  begins_either (x ∷ xs) (y ∷ ys) (z ∷ zs) a b =
      let zx = heads z x zs (xs ++ a.0) a.1 in
      let zy = heads z y zs (ys ++ b.0) b.1 in
      ⊎_elim
      (λ (h : Begins xs ys). inl (h.0, λ i. (sym zy ∙ zx) i ∷ h.1 i))
      (λ (h : Begins ys xs). inr (h.0, λ i. (sym zx ∙ zy) i ∷ h.1 i))
      (begins_either xs ys zs (a.0, tails z x zs (xs ++ a.0) a.1) (b.0, tails z y zs (ys ++ b.0) b.1))

  -- what holds of both lists holds of the longer
  pub one_of : (P : List E → Type 0) (xs ys : List E) → P xs → P ys → P (longer xs ys)
  one_of P xs ys a b = pick (leb (length xs) (length ys))
    where
      pick : (t : Bool) → P (if t then ys else xs)
      pick true = b
      pick false = a

  pub longer_begins : (xs ys list : List E) → Begins xs list → Begins ys list → Begins (longer xs ys) list
  longer_begins xs ys list a b = one_of (λ l. Begins l list) xs ys a b

  -- a list that is no longer than its beginning is its beginning
  no_rest : (xs ys r : List E) → xs ≡ ys ++ r → length xs ≤ length ys → xs ≡ ys
  no_rest xs ys [] e le = e ∙ append-nil ys
  no_rest xs ys (x ∷ r) e le = absurd (omega (arith, length-append ys (x ∷ r), ap length e))

  -- the longer of two lists goes on from both, by the test of their lengths
  longest : (xs ys : List E) (t : Bool) → leb (length xs) (length ys) ≡ t → Begins xs ys ⊎ Begins ys xs → Begins xs (if t then ys else xs) × Begins ys (if t then ys else xs)
  longest xs ys true is h = ⊎_elim (λ (b : Begins xs ys). (b, begins_refl ys)) (λ (b : Begins ys xs). let e = no_rest xs ys b.0 b.1 (leb-true _ _ is) in (subst (Begins xs) e (begins_refl xs), begins_refl ys)) h
  longest xs ys false is h = ⊎_elim (λ (b : Begins xs ys). absurd (omega (arith, length-append xs b.0, ap length b.1, leb-false _ _ is))) (λ (b : Begins ys xs). (begins_refl xs, b)) h

  -- the longer of two lists goes on from joining_view, if one begins the other
  pub longer_both : (xs ys : List E) → Begins xs ys ⊎ Begins ys xs → Begins xs (longer xs ys) × Begins ys (longer xs ys)
  longer_both xs ys h = longest xs ys (leb (length xs) (length ys)) refl h
