-- Polynomial identities over the integers, by computation: `ring xs e f tt` proves that the two expressions have one value at xs
use Rattle.std.proofs.Common.{◌≡◌, ℕ, zero, suc, Bool, true, false, T, ltb, eqb, List, [], ◌∷◌, ℤ, pos, negsuc, ◌+ℤ◌, ◌-ℤ◌, ◌*ℤ◌, neg_ℤ, refl, sym, ap, ◌∙◌, arith}
use Rattle.std.proofs.lemmas.Bool.{eqb-true}
use Rattle.srs_num.proofs.Linear.{linear, add_assoc, mul_comm, mul_add, mul_one, mul_zero, mul_neg, mul_assoc}

-- ---- expressions
infixl 6 ◌⊕◌ ◌⊖◌
infixl 7 ◌⊗◌
pub data Expr : Type 0 where
  v : ℕ → Expr
  lit : ℤ → Expr
  ◌⊕◌ : Expr → Expr → Expr
  ◌⊖◌ : Expr → Expr → Expr
  ◌⊗◌ : Expr → Expr → Expr
  minus : Expr → Expr

-- the k-th number, or 0
abbrev pub pick : List ℤ → ℕ → ℤ
pick [] k = pos 0
pick (x ∷ xs) zero = x
pick (x ∷ xs) (suc k) = pick xs k

abbrev pub evaluate : List ℤ → Expr → ℤ
evaluate xs (v k) = pick xs k
evaluate xs (lit c) = c
evaluate xs (e ⊕ f) = evaluate xs e +ℤ evaluate xs f
evaluate xs (e ⊖ f) = evaluate xs e -ℤ evaluate xs f
evaluate xs (e ⊗ f) = evaluate xs e *ℤ evaluate xs f
evaluate xs (minus e) = neg_ℤ (evaluate xs e)

-- ---- sums of terms: a coefficient, and the sorted places of the factors
pub record Term : Type 0 where
  pub coef : ℤ
  pub vars : List ℕ

abbrev pub product_of : List ℤ → List ℕ → ℤ
product_of xs [] = pos 1
product_of xs (k ∷ ks) = pick xs k *ℤ product_of xs ks

abbrev pub total : List ℤ → List Term → ℤ
total xs [] = pos 0
total xs (t ∷ ts) = t.coef *ℤ product_of xs t.vars +ℤ total xs ts

abbrev pub put_factor : ℕ → List ℕ → List ℕ
put_factor k [] = k ∷ []
put_factor k (j ∷ js) = elim (ltb j k) [ true ↦ j ∷ put_factor k js | false ↦ k ∷ j ∷ js ]

abbrev pub put_factors : List ℕ → List ℕ → List ℕ
put_factors [] js = js
put_factors (k ∷ ks) js = put_factor k (put_factors ks js)

-- whether two lists are equal, and whether the first comes before the second
abbrev pub same_list : List ℕ → List ℕ → Bool
same_list [] [] = true
same_list [] (j ∷ js) = false
same_list (k ∷ ks) [] = false
same_list (k ∷ ks) (j ∷ js) = elim (eqb k j) [ true ↦ same_list ks js | false ↦ false ]

abbrev pub put_term : ℤ → List ℕ → List Term → List Term
put_term c m [] = record { coef = c; vars = m } ∷ []
put_term c m (t ∷ ts) = elim (same_list m t.vars) [ true ↦ record { coef = c +ℤ t.coef; vars = m } ∷ ts | false ↦ t ∷ put_term c m ts ]

abbrev pub put_terms : List Term → List Term → List Term
put_terms [] us = us
put_terms (t ∷ ts) us = put_term t.coef t.vars (put_terms ts us)

-- c and m times each term of ts, put onto us
abbrev pub put_scaled : ℤ → List ℕ → List Term → List Term → List Term
put_scaled c m [] us = us
put_scaled c m (t ∷ ts) us = put_term (c *ℤ t.coef) (put_factors m t.vars) (put_scaled c m ts us)

abbrev pub put_products : List Term → List Term → List Term → List Term
put_products [] ts us = us
put_products (s ∷ ss) ts us = put_scaled s.coef s.vars ts (put_products ss ts us)

abbrev pub terms : Expr → List Term
terms (v k) = record { coef = pos 1; vars = k ∷ [] } ∷ []
terms (lit c) = record { coef = c; vars = [] } ∷ []
terms (e ⊕ f) = put_terms (terms e) (terms f)
terms (e ⊖ f) = put_scaled (negsuc 0) [] (terms f) (terms e)
terms (e ⊗ f) = put_products (terms e) (terms f) []
terms (minus e) = put_scaled (negsuc 0) [] (terms e) []

abbrev pub is_nought : ℤ → Bool
is_nought (pos zero) = true
is_nought (pos (suc n)) = false
is_nought (negsuc n) = false

abbrev pub all_nought : List Term → Bool
all_nought [] = true
all_nought (t ∷ ts) = elim (is_nought t.coef) [ true ↦ all_nought ts | false ↦ false ]

-- ---- each step keeps the value
put_factor-is : (xs : List ℤ) (k : ℕ) (js : List ℕ) → product_of xs (put_factor k js) ≡ pick xs k *ℤ product_of xs js
put_factor-is xs k [] = refl
put_factor-is xs k (j ∷ js) =
    elim (ltb j k) as (λ t. product_of xs (elim t [ true ↦ j ∷ put_factor k js | false ↦ k ∷ j ∷ js ]) ≡ pick xs k *ℤ (pick xs j *ℤ product_of xs js)) [
      | true ↦ ap (λ x. pick xs j *ℤ x) (put_factor-is xs k js) ∙ swap_factors (pick xs j) (pick xs k) (product_of xs js)
      | false ↦ refl
    ]
  where
    swap_factors : (a b c : ℤ) → a *ℤ (b *ℤ c) ≡ b *ℤ (a *ℤ c)
    swap_factors a b c = sym (mul_assoc a b c) ∙ ap (λ x. x *ℤ c) (mul_comm a b) ∙ mul_assoc b a c

put_factors-is : (xs : List ℤ) (ks js : List ℕ) → product_of xs (put_factors ks js) ≡ product_of xs ks *ℤ product_of xs js
put_factors-is xs [] js = sym (mul_one (product_of xs js))
put_factors-is xs (k ∷ ks) js =
    put_factor-is xs k (put_factors ks js) ∙ ap (λ x. pick xs k *ℤ x) (put_factors-is xs ks js) ∙ sym (mul_assoc (pick xs k) (product_of xs ks) (product_of xs js))

same_list-true : (ks js : List ℕ) → same_list ks js ≡ true → ks ≡ js
same_list-true [] [] e = refl
same_list-true [] (j ∷ js) e = cc
same_list-true (k ∷ ks) [] e = cc
same_list-true (k ∷ ks) (j ∷ js) e = grind (arith, eqb-true, same_list-true ks js)

put_term-is : (xs : List ℤ) (c : ℤ) (m : List ℕ) (ts : List Term) → total xs (put_term c m ts) ≡ c *ℤ product_of xs m +ℤ total xs ts
put_term-is xs c m [] = refl
put_term-is xs c m (t ∷ ts) =
    let p = product_of xs m in
    let goal : Bool → Type 0 = λ b. total xs (elim b [ true ↦ record { coef = c +ℤ t.coef; vars = m } ∷ ts | false ↦ t ∷ put_term c m ts ]) ≡ c *ℤ product_of xs m +ℤ (t.coef *ℤ product_of xs t.vars +ℤ total xs ts) in
    let by_test : (b : Bool) → same_list m t.vars ≡ b → goal b = λ b. elim b as (λ b. same_list m t.vars ≡ b → goal b) [
      | true ↦ λ e. joined p (product_of xs t.vars) (ap (product_of xs) (same_list-true m t.vars e)) t.coef (total xs ts)
      | false ↦ λ e. put_off (t.coef *ℤ product_of xs t.vars) (total xs (put_term c m ts)) (c *ℤ p) (total xs ts) (put_term-is xs c m ts)
    ] in
    by_test (same_list m t.vars) refl
  where
    joined : (p q : ℤ) → p ≡ q → (d r : ℤ) → (c +ℤ d) *ℤ p +ℤ r ≡ c *ℤ p +ℤ (d *ℤ q +ℤ r)
    joined p q e d r = ap (λ x. x +ℤ r) (mul_comm (c +ℤ d) p ∙ mul_add p c d ∙ ap (λ x. x +ℤ p *ℤ d) (mul_comm p c) ∙ ap (λ x. c *ℤ p +ℤ x) (mul_comm p d ∙ ap (λ x. d *ℤ x) e)) ∙ add_assoc (c *ℤ p) (d *ℤ q) r

    put_off : (a b s r : ℤ) → b ≡ s +ℤ r → a +ℤ b ≡ s +ℤ (a +ℤ r)
    put_off a b s r e = omega (arith, linear)

put_terms-is : (xs : List ℤ) (ts us : List Term) → total xs (put_terms ts us) ≡ total xs ts +ℤ total xs us
put_terms-is xs [] us = omega (arith, linear)
put_terms-is xs (t ∷ ts) us =
    put_term-is xs t.coef t.vars (put_terms ts us) ∙ ap (λ x. t.coef *ℤ product_of xs t.vars +ℤ x) (put_terms-is xs ts us) ∙ sym (add_assoc (t.coef *ℤ product_of xs t.vars) (total xs ts) (total xs us))

put_scaled-is : (xs : List ℤ) (c : ℤ) (m : List ℕ) (ts us : List Term) → total xs (put_scaled c m ts us) ≡ (c *ℤ product_of xs m) *ℤ total xs ts +ℤ total xs us
put_scaled-is xs c m [] us = no_more (c *ℤ product_of xs m) (total xs us)
  where
    no_more : (a r : ℤ) → r ≡ a *ℤ pos 0 +ℤ r
    no_more a r = let e : a *ℤ pos 0 ≡ pos 0 = mul_comm a (pos 0) ∙ mul_zero a in omega (arith, linear)
put_scaled-is xs c m (t ∷ ts) us =
    put_term-is xs (c *ℤ t.coef) (put_factors m t.vars) (put_scaled c m ts us)
    ∙ one_more c (product_of xs m) t.coef (product_of xs t.vars) (total xs ts) (total xs us) _ _ (put_factors-is xs m t.vars) (put_scaled-is xs c m ts us)
  where
    regroup : (c p d q : ℤ) → (c *ℤ d) *ℤ (p *ℤ q) ≡ (c *ℤ p) *ℤ (d *ℤ q)
    regroup c p d q =
        mul_assoc c d (p *ℤ q) ∙ ap (λ x. c *ℤ x) (sym (mul_assoc d p q) ∙ ap (λ x. x *ℤ q) (mul_comm d p) ∙ mul_assoc p d q) ∙ sym (mul_assoc c p (d *ℤ q))

    one_more : (c p d q r s : ℤ) (x y : ℤ) → x ≡ p *ℤ q → y ≡ (c *ℤ p) *ℤ r +ℤ s → (c *ℤ d) *ℤ x +ℤ y ≡ (c *ℤ p) *ℤ (d *ℤ q +ℤ r) +ℤ s
    one_more c p d q r s x y e f =
        let g : (c *ℤ d) *ℤ x ≡ (c *ℤ p) *ℤ (d *ℤ q) = ap (λ z. (c *ℤ d) *ℤ z) e ∙ regroup c p d q in
        let h = mul_add (c *ℤ p) (d *ℤ q) r in
        omega (arith, linear)

put_products-is : (xs : List ℤ) (ss ts us : List Term) → total xs (put_products ss ts us) ≡ total xs ss *ℤ total xs ts +ℤ total xs us
put_products-is xs [] ts us = none (total xs ts) (total xs us)
  where
    none : (a r : ℤ) → r ≡ pos 0 *ℤ a +ℤ r
    none a r = let e = mul_zero a in omega (arith, linear)
put_products-is xs (s ∷ ss) ts us =
    put_scaled-is xs s.coef s.vars ts (put_products ss ts us)
    ∙ one_more (s.coef *ℤ product_of xs s.vars) (total xs ts) (total xs ss) (total xs us) _ (put_products-is xs ss ts us)
  where
    one_more : (a t b u y : ℤ) → y ≡ b *ℤ t +ℤ u → a *ℤ t +ℤ y ≡ (a +ℤ b) *ℤ t +ℤ u
    one_more a t b u y e =
        let g : (a +ℤ b) *ℤ t ≡ a *ℤ t +ℤ b *ℤ t = mul_comm (a +ℤ b) t ∙ mul_add t a b ∙ ap (λ x. x +ℤ t *ℤ b) (mul_comm t a) ∙ ap (λ x. a *ℤ t +ℤ x) (mul_comm t b) in
        omega (arith, linear)

terms-is : (xs : List ℤ) (e : Expr) → total xs (terms e) ≡ evaluate xs e
terms-is xs (v k) = one_factor (pick xs k)
  where
    one_factor : (a : ℤ) → pos 1 *ℤ (a *ℤ pos 1) +ℤ pos 0 ≡ a
    one_factor a = let e = mul_one (a *ℤ pos 1) in let f : a *ℤ pos 1 ≡ a = mul_comm a (pos 1) ∙ mul_one a in omega (arith, linear)
terms-is xs (lit c) = no_factor c
  where
    no_factor : (a : ℤ) → a *ℤ pos 1 +ℤ pos 0 ≡ a
    no_factor a = let f : a *ℤ pos 1 ≡ a = mul_comm a (pos 1) ∙ mul_one a in omega (arith, linear)
terms-is xs (e ⊕ f) = put_terms-is xs (terms e) (terms f) ∙ ap (λ x. x +ℤ total xs (terms f)) (terms-is xs e) ∙ ap (λ x. evaluate xs e +ℤ x) (terms-is xs f)
terms-is xs (e ⊖ f) =
    put_scaled-is xs (negsuc 0) [] (terms f) (terms e) ∙ less (total xs (terms f)) (total xs (terms e)) (evaluate xs f) (evaluate xs e) (terms-is xs f) (terms-is xs e)
  where
    less : (a b c d : ℤ) → a ≡ c → b ≡ d → (negsuc 0 *ℤ pos 1) *ℤ a +ℤ b ≡ d -ℤ c
    less a b c d e f =
        let one = mul_one a in
        let g : (negsuc 0 *ℤ pos 1) *ℤ a ≡ neg_ℤ a = mul_comm (neg_ℤ (pos 1)) a ∙ mul_neg a (pos 1) ∙ ap neg_ℤ (mul_comm a (pos 1) ∙ mul_one a) in
        omega (arith, linear)
terms-is xs (e ⊗ f) = put_products-is xs (terms e) (terms f) [] ∙ both (total xs (terms e)) (total xs (terms f)) (evaluate xs e) (evaluate xs f) (terms-is xs e) (terms-is xs f)
  where
    both : (a b c d : ℤ) → a ≡ c → b ≡ d → a *ℤ b +ℤ pos 0 ≡ c *ℤ d
    both a b c d e f = let g : a *ℤ b ≡ c *ℤ d = cc in omega (arith, linear)
terms-is xs (minus e) =
    put_scaled-is xs (negsuc 0) [] (terms e) [] ∙ turned (total xs (terms e)) (evaluate xs e) (terms-is xs e)
  where
    turned : (a c : ℤ) → a ≡ c → (negsuc 0 *ℤ pos 1) *ℤ a +ℤ pos 0 ≡ neg_ℤ c
    turned a c e =
        let g : (negsuc 0 *ℤ pos 1) *ℤ a ≡ neg_ℤ a = mul_comm (neg_ℤ (pos 1)) a ∙ mul_neg a (pos 1) ∙ ap neg_ℤ (mul_comm a (pos 1) ∙ mul_one a) in
        omega (arith, linear)

is_nought-is : (c : ℤ) → is_nought c ≡ true → c ≡ pos 0
is_nought-is (pos zero) e = refl
is_nought-is (pos (suc n)) e = cc
is_nought-is (negsuc n) e = cc

nought : (xs : List ℤ) (ts : List Term) → T (all_nought ts) → total xs ts ≡ pos 0
nought xs [] h = refl
nought xs (t ∷ ts) h =
    let goal = total xs (t ∷ ts) ≡ pos 0 in
    let by_test : (b : Bool) → is_nought t.coef ≡ b → T (elim b [ true ↦ all_nought ts | false ↦ false ]) → goal = λ b. elim b as (λ b. is_nought t.coef ≡ b → T (elim b [ true ↦ all_nought ts | false ↦ false ]) → goal) [
      | true ↦ λ e h. gone t.coef (product_of xs t.vars) (total xs ts) (is_nought-is t.coef e) (nought xs ts h)
      | false ↦ λ e h. absurd h
    ] in
    by_test (is_nought t.coef) refl h
  where
    gone : (c p r : ℤ) → c ≡ pos 0 → r ≡ pos 0 → c *ℤ p +ℤ r ≡ pos 0
    gone c p r e f = let g : c *ℤ p ≡ pos 0 = ap (λ x. x *ℤ p) e ∙ mul_zero p in omega (arith, linear)

pub ring : (xs : List ℤ) (e f : Expr) → T (all_nought (terms (e ⊖ f))) → evaluate xs e ≡ evaluate xs f
ring xs e f h = same (evaluate xs e) (evaluate xs f) _ (nought xs (terms (e ⊖ f)) h) (terms-is xs (e ⊖ f))
  where
    same : (a b t : ℤ) → t ≡ pos 0 → t ≡ a -ℤ b → a ≡ b
    same a b t e f = omega (arith, linear)
