-- Elements of a list by their places, after a write and after an append.
use Rattle.std.proofs.Common.{◌≡◌, ◌≢◌, ◌⊎◌, inl, inr, ℕ, zero, suc, ◌+◌, ◌<◌, List, [], ◌∷◌, ◌++◌, length, map, slice_get, refl, sym, ap, ◌∙◌, arith, Some}
use Rattle.std.specs.Prelude.{slice_set}
use Rattle.std.proofs.lemmas.Option.{none-some, same_Some}

module _ {X : Type 0} where
  pub get_left : (xs ys : List X) (k : ℕ) (y : X) → slice_get xs k ≡ Some y → slice_get (xs ++ ys) k ≡ Some y
  get_left [] ys k y e = absurd (none-some y e)
  get_left (x ∷ xs) ys zero y e = e
  get_left (x ∷ xs) ys (suc k) y e = get_left xs ys k y e

  pub get_right : (xs ys : List X) (m : ℕ) (y : X) → slice_get ys m ≡ Some y → slice_get (xs ++ ys) (length xs + m) ≡ Some y
  get_right [] ys m y e = ap (slice_get ys) (let n : 0 + m ≡ m = omega arith in n) ∙ e
  get_right (x ∷ xs) ys m y e = ap (slice_get (x ∷ xs ++ ys)) (let n : suc (length xs) + m ≡ suc (length xs + m) = omega arith in n) ∙ get_right xs ys m y e

  pub get_cases : (xs ys : List X) (k : ℕ) (y : X) → slice_get (xs ++ ys) k ≡ Some y → (slice_get xs k ≡ Some y) ⊎ ((m : ℕ) × (slice_get ys m ≡ Some y))
  get_cases [] ys k y e = inr (k, e)
  get_cases (x ∷ xs) ys zero y e = inl e
  get_cases (x ∷ xs) ys (suc k) y e = get_cases xs ys k y e

  pub get_set_same : (xs : List X) (i : ℕ) (x v : X) → slice_get xs i ≡ Some x → slice_get (slice_set xs i v) i ≡ Some v
  get_set_same [] i x v e = absurd (none-some x e)
  get_set_same (y ∷ xs) zero x v e = refl
  get_set_same (y ∷ xs) (suc i) x v e = get_set_same xs i x v e

  pub get_set_other : (xs : List X) (i j : ℕ) (v : X) → j ≢ i → slice_get (slice_set xs i v) j ≡ slice_get xs j
  get_set_other [] i j v n = refl
  get_set_other (y ∷ xs) zero zero v n = absurd (n refl)
  get_set_other (y ∷ xs) zero (suc j) v n = refl
  get_set_other (y ∷ xs) (suc i) zero v n = refl
  get_set_other (y ∷ xs) (suc i) (suc j) v n = get_set_other xs i j v (λ e. n (ap suc e))

  pub set_left : (xs ys : List X) (i : ℕ) (v : X) → i < length xs → slice_set (xs ++ ys) i v ≡ slice_set xs i v ++ ys
  set_left [] ys i v l = absurd (omega (arith, l))
  set_left (x ∷ xs) ys zero v l = refl
  set_left (x ∷ xs) ys (suc i) v l = ap (λ (zs : List X). x ∷ zs) (set_left xs ys i v (omega (arith, l)))

  -- what is written as it was stays in a map
  pub map_set : {Y : Type 0} (f : X → Y) (xs : List X) (i : ℕ) (x v : X) → slice_get xs i ≡ Some x → f v ≡ f x → map f (slice_set xs i v) ≡ map f xs
  map_set f [] i x v e q = absurd (none-some x e)
  map_set f (y ∷ xs) zero x v e q = ap (λ z. z ∷ map f xs) (q ∙ ap f (sym (same_Some y x e)))
  map_set f (y ∷ xs) (suc i) x v e q = ap (λ zs. f y ∷ zs) (map_set f xs i x v e q)
