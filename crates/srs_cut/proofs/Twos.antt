-- Lists of two items for each index.
use Rattle.std.proofs.Common.{◌≡◌, ◌⊎◌, inl, inr, ⊎_elim, ℕ, zero, suc, ◌+◌, ◌<◌, List, [], ◌∷◌, ◌++◌, refl, sym, ap, ap₂, ◌∙◌, add-one, append_assoc, arith}
use Rattle.std.specs.Prelude.{slice_get, Some}
use Rattle.std.specs.List.{flat_map, range_with_len}

-- f a, g a, f (a + 1), g (a + 1), .., for n indices
abbrev pub twos : {A : Type 0} → (ℕ → A) → (ℕ → A) → ℕ → ℕ → List A
twos f g a n = flat_map (λ i. f i ∷ g i ∷ []) (range_with_len a n)

module _ {A : Type 0} (f g : ℕ → A) where
  pub twos_more : (a n j : ℕ) → a + n ≡ j → twos f g a (suc n) ≡ twos f g a n ++ f j ∷ g j ∷ []
  twos_more a zero j e = let same : a ≡ j = omega arith in ap (λ i. f i ∷ g i ∷ []) same
  twos_more a (suc n) j e = ap (λ xs. f a ∷ g a ∷ xs) (twos_more (a + 1) n j (omega arith))

  pub twos_lower : (a n i j : ℕ) → i < n → a + i ≡ j → slice_get (twos f g a n) (i + i) ≡ Some (f j)
  twos_lower a zero i j lt e = absurd (omega arith)
  twos_lower a (suc n) zero j lt e = let same : a ≡ j = omega arith in ap (λ i. Some (f i)) same
  twos_lower a (suc n) (suc i) j lt e =
      let k : suc i + suc i ≡ suc (suc (i + i)) = omega arith in
      ap (slice_get (twos f g a (suc n))) k ∙ twos_lower (a + 1) n i j (omega arith) (omega arith)

  pub twos_upper : (a n i j : ℕ) → i < n → a + i ≡ j → slice_get (twos f g a n) (i + i + 1) ≡ Some (g j)
  twos_upper a zero i j lt e = absurd (omega arith)
  twos_upper a (suc n) zero j lt e = let same : a ≡ j = omega arith in ap (λ i. Some (g i)) same
  twos_upper a (suc n) (suc i) j lt e =
      let k : suc i + suc i + 1 ≡ suc (suc (i + i + 1)) = omega arith in
      ap (slice_get (twos f g a (suc n))) k ∙ twos_upper (a + 1) n i j (omega arith) (omega arith)

  -- the item at k is one of the two of some index
  pub twos_each : (a n k : ℕ) (x : A) → slice_get (twos f g a n) k ≡ Some x
      → (i : ℕ) × (i < n) × (((k ≡ i + i) × (x ≡ f (a + i))) ⊎ ((k ≡ i + i + 1) × (x ≡ g (a + i))))
  twos_each a zero k x e = cc
  twos_each a (suc n) zero x e = (0, omega arith, inl (refl, let same : a ≡ a + 0 = omega arith in cc (ap f same)))
  twos_each a (suc n) (suc zero) x e = (0, omega arith, inr (refl, let same : a ≡ a + 0 = omega arith in cc (ap g same)))
  twos_each a (suc n) (suc (suc k)) x e =
      let r = twos_each (a + 1) n k x e in
      let same : (a + 1) + r.0 ≡ a + (r.0 + 1) = omega arith in (
        r.0 + 1,
        omega (arith, r.1),
        ⊎_elim
            (λ w. inl (omega (arith, w.0), w.1 ∙ ap f same))
            (λ w. inr (omega (arith, w.0), w.1 ∙ ap g same)) r.2,
      )

  -- the two items of one more index, appended one after the other
  pub twos_pushed : (n : ℕ) (x y : A) (before between after : List A) → before ≡ twos f g 0 n → x ≡ f n → y ≡ g n
      → between ≡ before ++ x ∷ [] → after ≡ between ++ y ∷ [] → after ≡ twos f g 0 (n + 1)
  twos_pushed n x y before between after old ex ey first second =
      second ∙ ap (λ l. l ++ y ∷ []) first ∙ append_assoc before (x ∷ []) (y ∷ []) ∙ ap (λ l. l ++ x ∷ y ∷ []) old
      ∙ ap₂ (λ x y. twos f g 0 n ++ x ∷ y ∷ []) ex ey ∙ sym (twos_more 0 n n (omega arith)) ∙ ap (twos f g 0) (sym (add-one n))
