-- A region has one list of ranks at most: strictly ascending lists with the same entries are equal.
use Rattle.std.proofs.Common.{◌≡◌, ◌⊎◌, inl, inr, ℕ, zero, suc, ◌<◌, ◌≤◌, List, [], ◌∷◌, refl, arith, ap₂, sym, ◌∙◌, subst, length, get_or}
use Rattle.std.specs.Prelude.{Contains, AllPairs}
use Rattle.std.proofs.lemmas.Int.{ints}
use Rattle.srs_num.specs.declared.pairs.V2.{V2}
use Rattle.srs_plane.specs.Regions.{Area}
use Rattle.srs_path.specs.Core.{AreRanks, IsRank, Precedes}

abbrev Ranked : Type 0
Ranked = V2 × ℕ

abbrev Ascending : List Ranked → Type 0
Ascending es = AllPairs (λ (e f : Ranked). Precedes e.0 f.0) es

in_cons : (x : Ranked) (xs : List Ranked) (e : Ranked) → Contains (x ∷ xs) e → (x ≡ e) ⊎ Contains xs e
in_cons x xs e c = at c.0 c.1 c.2
  where
    at : (k : ℕ) → k < suc (length xs) → get_or (x ∷ xs) k e ≡ e → (x ≡ e) ⊎ Contains xs e
    at zero l q = inl q
    at (suc k) l q = inr (k, omega arith, q)

cons_in : (x : Ranked) (xs : List Ranked) (e : Ranked) → Contains xs e → Contains (x ∷ xs) e
cons_in x xs e c = let l = c.1 in (suc c.0, omega arith, c.2)

head_before : (x : Ranked) (xs : List Ranked) → Ascending (x ∷ xs) → (e : Ranked) → Contains xs e → Precedes x.0 e.0
head_before x xs up e c = let l = c.1 in subst (λ (f : Ranked). Precedes x.0 f.0) c.2 (up 0 (suc c.0) e (omega arith) (omega arith))

tail_up : (x : Ranked) (xs : List Ranked) → Ascending (x ∷ xs) → Ascending xs
tail_up x xs up i j d l m = up (suc i) (suc j) d (omega arith) (omega arith)

not_both : (v w : V2) → Precedes v w → Precedes w v → ⊥
not_both v w h k =
    let a : v.a ≡ w.a = omega (arith, ints, h.0, k.0) in
    omega (arith, ints, h.1 a, k.1 (sym a))

tail_in : (x y : Ranked) (xs ys : List Ranked) → x ≡ y → Ascending (x ∷ xs) → ((e : Ranked) → Contains (x ∷ xs) e → Contains (y ∷ ys) e) → (e : Ranked) → Contains xs e → Contains ys e
tail_in x y xs ys same up to e c = elim (in_cons y ys e (to e (cons_in x xs e c))) [
  | inl q ↦ let b : Precedes x.0 x.0 = subst (λ (f : Ranked). Precedes x.0 f.0) (sym (same ∙ q)) (head_before x xs up e c) in absurd (not_both x.0 x.0 b b)
  | inr k ↦ k
]

nothing_in : (e : Ranked) → Contains [] e → ⊥
nothing_in e c = let l : c.0 < 0 = c.1 in absurd (omega arith)

same_ascending : (xs ys : List Ranked) → Ascending xs → Ascending ys → ((e : Ranked) → Contains xs e → Contains ys e) → ((e : Ranked) → Contains ys e → Contains xs e) → xs ≡ ys
same_ascending [] [] up down to from = refl
same_ascending [] (y ∷ ys) up down to from = absurd (nothing_in y (from y (0, omega arith, refl)))
same_ascending (x ∷ xs) [] up down to from = absurd (nothing_in x (to x (0, omega arith, refl)))
same_ascending (x ∷ xs) (y ∷ ys) up down to from =
    let same : x ≡ y = elim (in_cons y ys x (to x (0, omega arith, refl))) [
      | inl q ↦ sym q
      | inr c ↦ elim (in_cons x xs y (from y (0, omega arith, refl))) [
        | inl q ↦ q
        | inr d ↦ absurd (not_both x.0 y.0 (head_before x xs up y d) (head_before y ys down x c))
      ]
    ] in
    ap₂ (λ (u : Ranked) (v : List Ranked). u ∷ v) same
    (same_ascending xs ys (tail_up x xs up) (tail_up y ys down) (tail_in x y xs ys same up to) (tail_in y x ys xs (sym same) down from))

-- a full list of ranks has the entries of each other one
ranks_in : (R : Area) (es fs : List Ranked) → AreRanks R es → AreRanks R fs → (e : Ranked) → Contains es e → Contains fs e
ranks_in R es fs a b e c =
    let w = a.each_entry e.0 e.1 c in
    let t = b.each_witness e.0 w.0 in
    let f : IsRank R e.0 t.0 = (b.each_entry e.0 t.0 t.1).1 in
    let low : t.0 ≤ e.1 = w.1.longest t.0 f.walk in
    let high : e.1 ≤ t.0 = f.longest e.1 w.1.walk in
    let same : t.0 ≡ e.1 = omega arith in
    subst (λ (n : ℕ). Contains fs (e.0, n)) same t.1

pub ranks_once : (R : Area) (es fs : List Ranked) → AreRanks R es → AreRanks R fs → es ≡ fs
ranks_once R es fs a b = same_ascending es fs a.ascending b.ascending (ranks_in R es fs a b) (ranks_in R fs es b a)
