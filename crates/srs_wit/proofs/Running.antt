-- The pairs of a run, and what adding them makes of those found.
use Rattle.std.proofs.Common.{◌≡◌, ◌≢◌, inl, inr, ℕ, ◌+◌, ◌-◌, ◌<◌, Bool, true, false, List, [], ◌∷◌, ◌++◌, length, ℤ, pos, ◌-ℤ◌, ◌+ℤ◌, ◌≤ℤ◌, ◌<ℤ◌, neg_ℤ, arith, ap, subst, sym, ◌∙◌, refl, lit<, append_assoc, length-append}
use Rattle.std.specs.Prelude.{Contains, AllPairs, if◌then◌else◌, not}
use Rattle.std.specs.List.{list_any}
use Rattle.std.proofs.Math.Decide.{dec_lt}
use Rattle.std.proofs.lemmas.Int.{ints}
use Rattle.std.proofs.lemmas.List.Elements.{Contains-append_left, Contains-append_right, Contains-append_cases}
use Rattle.std.proofs.lemmas.List.Quantifiers.{all_pairs_push}
use Rattle.std.proofs.lemmas.Map.Views.{Contains-from_any}
use Rattle.std.proofs.lemmas.List.Elements.{Contains-get_or}
use Rattle.srs_num.specs.declared.pairs.V2.{V2}
use Rattle.srs_num.specs.Points.{IsWithin}
use Rattle.srs_num.proofs.Linear.{linear}
use Rattle.srs_map.specs.Step.{pair, minus}
use Rattle.srs_cell.specs.Spans.{IsCount, pair_from}
use Rattle.srs_path.specs.Core.{pair_eq}
use Rattle.srs_path.proofs.WitnessLemmas.{pair-decides}
use Rattle.srs_wit.specs.declared.runs.Run.{Run}
use Rattle.srs_wit.specs.Runs.{run_pair, IsRunOf, turned, AddsAll}
use Rattle.srs_wit.specs.PairSets.{has_pair, with_pair, IsNear}
use Rattle.srs_wit.proofs.Adding.{contains_one, absent_pair}

module _ (old : List V2) (f : ℕ → V2) (k : ℕ) (now waited wait : List V2) (a : AddsAll old f k now waited wait) (v : V2) (is : v ≡ f k) where
  adds_known : Contains now v → AddsAll old f (k + 1) now waited wait
  adds_known c = record {
    more = a.more;
    is = a.is;
    waits = a.waits;
    here = λ j l. elim (dec_lt j k) as (λ _. Contains now (f j)) [
      | yes b ↦ a.here j b
      | no b ↦ let e : k ≡ j = omega arith in subst (Contains now) (is ∙ ap f e) c
    ];
    others = λ w h. elim (a.others w h) [ inl y ↦ inl y | inr y ↦ inr (y.0, omega (arith, y.1), y.2) ];
    different = a.different;
    few = let few = a.few in omega arith;
  }

  adds_fresh : (new waiting : List V2) → list_any (pair_eq v) now ≡ false → new ≡ now ++ v ∷ [] → waiting ≡ wait ++ v ∷ [] → AddsAll old f (k + 1) new waited waiting
  adds_fresh new waiting t e w = record {
    more = a.more ++ v ∷ [];
    is = e ∙ ap (λ (y : List V2). y ++ v ∷ []) a.is ∙ append_assoc old a.more (v ∷ []);
    waits = w ∙ ap (λ (y : List V2). y ++ v ∷ []) a.waits ∙ append_assoc waited a.more (v ∷ []);
    here = λ j l. elim (dec_lt j k) as (λ _. Contains new (f j)) [
      | yes b ↦ subst (λ (x : List V2). Contains x (f j)) (sym e) (Contains-append_left now (v ∷ []) (f j) (a.here j b))
      | no b ↦ let q : k ≡ j = omega arith in subst (Contains new) (is ∙ ap f q)
          (subst (λ (x : List V2). Contains x v) (sym e) (Contains-append_right now (v ∷ []) v (0, lit< tt, refl)))
    ];
    others = λ u c. elim (Contains-append_cases now (v ∷ []) u (subst (λ (x : List V2). Contains x u) e c)) [
      | inl x ↦ elim (a.others u x) [ inl y ↦ inl y | inr y ↦ inr (y.0, omega (arith, y.1), y.2) ]
      | inr x ↦ inr (k, omega arith, contains_one v u x ∙ is)
    ];
    different = λ h. subst (AllPairs ◌≢◌) (sym e) (all_pairs_push ◌≢◌ now v (a.different h) (λ j d lt same. absent_pair now v t (subst (Contains now) same (Contains-get_or now j d lt))));
    few = let few = a.few in omega (arith, ap length e, length-append now (v ∷ []));
  }

-- ---- the pairs of a run are those of the span
module _ (w : V2) (low high : ℤ) (n : ℕ) (r : Run) (c : IsCount low high n) where
  last_is : 0 < n → high ≡ low +ℤ pos (n - 1)
  last_is h = let a = c.past in let b = c.within (n - 1) (omega arith) in between low high n h a b
    where
      between : (low high : ℤ) (n : ℕ) → 0 < n → high <ℤ (low +ℤ pos n) → (low +ℤ pos (n - 1)) ≤ℤ high → high ≡ low +ℤ pos (n - 1)
      between low high n h a b = omega (arith, ints)

  -- the place in the span of the pair number k, and the other way round
  abbrev place_in_span : (back : Bool) → ℕ → ℕ
  place_in_span true k = n - (k + 1)
  place_in_span false k = k

  second_at : (back : Bool) (first : ℤ) (k : ℕ) → k < n → first ≡ (if back then high else low) → (if back then first -ℤ pos k else first +ℤ pos k) ≡ low +ℤ pos (place_in_span back k)
  second_at true first k l e = down low high first n k l (last_is (omega arith)) e
    where
      down : (low high first : ℤ) (n k : ℕ) → k < n → high ≡ low +ℤ pos (n - 1) → first ≡ high → first -ℤ pos k ≡ low +ℤ pos (n - (k + 1))
      down low high first n k l h e = omega (arith, ints)
  second_at false first k l e = ap (λ (x : ℤ). x +ℤ pos k) e

  place_within : (back : Bool) (k : ℕ) → k < n → place_in_span back k < n
  place_within true k l = omega arith
  place_within false k l = l

  place_twice : (back : Bool) (k : ℕ) → k < n → place_in_span back (place_in_span back k) ≡ k
  place_twice true k l = omega arith
  place_twice false k l = refl

  module _ (is : IsRunOf w low high n r) where
    pub from_run : (k : ℕ) → k < n → (i : ℕ) × (i < n) × (run_pair r k ≡ pair_from w low i)
    from_run k l = (
      place_in_span r.back k,
      place_within r.back k l,
      ap (λ (x : ℤ). pair x (if r.back then r.first -ℤ pos k else r.first +ℤ pos k)) is.a ∙ ap (pair w.b) (second_at r.back r.first k l is.first),
    )

    pub to_run : (i : ℕ) → i < n → (k : ℕ) × (k < n) × (run_pair r k ≡ pair_from w low i)
    to_run i l =
        let k = place_in_span r.back i in
        let f = from_run k (place_within r.back i l) in (
          k,
          place_within r.back i l,
          ap (λ (x : ℤ). pair x (if r.back then r.first -ℤ pos k else r.first +ℤ pos k)) is.a
              ∙ ap (pair w.b) (second_at r.back r.first k (place_within r.back i l) is.first)
              ∙ ap (pair_from w low) (place_twice r.back i l),
        )

-- the run on the other side
pub turned_pair : (r : Run) (k : ℕ) → run_pair (turned r) k ≡ minus (run_pair r k)
turned_pair r k = by_side r.back
  where
    up : (x y : ℤ) → pos 0 -ℤ x +ℤ y ≡ neg_ℤ (x -ℤ y)
    up x y = omega (arith, linear)

    down : (x y : ℤ) → pos 0 -ℤ x -ℤ y ≡ neg_ℤ (x +ℤ y)
    down x y = omega (arith, linear)

    zero_less : (x : ℤ) → pos 0 -ℤ x ≡ neg_ℤ x
    zero_less x = omega (arith, linear)

    both : (a b c d : ℤ) → a ≡ c → b ≡ d → pair a b ≡ pair c d
    both a b c d e f = ap (λ (x : ℤ). pair x b) e ∙ ap (pair c) f

    by_side : (back : Bool)
        → pair (pos 0 -ℤ r.a) (if not back then pos 0 -ℤ r.first -ℤ pos k else pos 0 -ℤ r.first +ℤ pos k) ≡ minus (pair r.a (if back then r.first -ℤ pos k else r.first +ℤ pos k))
    by_side true = both _ _ _ _ (zero_less r.a) (up r.first (pos k))
    by_side false = both _ _ _ _ (zero_less r.a) (down r.first (pos k))

-- one pair more
module _ (old : List V2) (f : ℕ → V2) (k : ℕ) (followed waited wait : List V2) (a : AddsAll old f k (followed ++ wait) waited wait) (v : V2) (is : v ≡ f k) where
  pub run_more : (waiting : List V2) → waiting ≡ with_pair followed wait v → AddsAll old f (k + 1) (followed ++ waiting) waited waiting
  run_more waiting e = by_test (has_pair (followed ++ wait) v) refl
    where
      by_test : (b : Bool) → has_pair (followed ++ wait) v ≡ b → AddsAll old f (k + 1) (followed ++ waiting) waited waiting
      by_test true t =
          let s : waiting ≡ wait = e ∙ ap (λ (x : Bool). if x then wait else wait ++ v ∷ []) t in
          subst (λ (x : List V2). AddsAll old f (k + 1) (followed ++ x) waited x) (sym s)
          (adds_known old f k (followed ++ wait) waited wait a v is (Contains-from_any (λ x y. (pair-decides x y).0) v (followed ++ wait) t))
      by_test false t =
          let s : waiting ≡ wait ++ v ∷ [] = e ∙ ap (λ (x : Bool). if x then wait else wait ++ v ∷ []) t in
          adds_fresh old f k (followed ++ wait) waited wait a v is (followed ++ waiting) waiting t
          (ap (λ (x : List V2). followed ++ x) s ∙ sym (append_assoc followed wait (v ∷ []))) s

-- the first of a run is an end of the span
pub first_within : (m : ℕ) (low high first : ℤ) (back : Bool) → first ≡ (if back then high else low) → IsWithin m low → IsWithin m high → IsWithin m first
first_within m low high first true e l h = subst (IsWithin m) (sym e) h
first_within m low high first false e l h = subst (IsWithin m) (sym e) l

-- the pairs of a run are near where the first and the last of them are
module _ (side : ℕ) (r : Run) (from : pos 0 ≤ℤ r.a) (below : r.a <ℤ pos side) where
  pub near_downward : r.back ≡ true → r.first <ℤ pos side → neg_ℤ (pos side) ≤ℤ (r.first -ℤ (pos r.count -ℤ pos 1)) → (k : ℕ) → k < r.count → IsNear side (run_pair r k)
  near_downward back first last k l = rw back (record {
    from_a = from;
    below_a = below;
    from_b = low side r.first r.count k l last;
    below_b = high side r.first k first;
  })
    where
      low : (s : ℕ) (f : ℤ) (n k : ℕ) → k < n → neg_ℤ (pos s) ≤ℤ (f -ℤ (pos n -ℤ pos 1)) → neg_ℤ (pos s) ≤ℤ (f -ℤ pos k)
      low s f n k l h = omega (arith, ints)

      high : (s : ℕ) (f : ℤ) (k : ℕ) → f <ℤ pos s → (f -ℤ pos k) <ℤ pos s
      high s f k h = omega (arith, ints)

  pub near_upward : r.back ≡ false → neg_ℤ (pos side) ≤ℤ r.first → (r.first +ℤ (pos r.count -ℤ pos 1)) <ℤ pos side → (k : ℕ) → k < r.count → IsNear side (run_pair r k)
  near_upward back first last k l = rw back (record {
    from_a = from;
    below_a = below;
    from_b = low side r.first k first;
    below_b = high side r.first r.count k l last;
  })
    where
      low : (s : ℕ) (f : ℤ) (k : ℕ) → neg_ℤ (pos s) ≤ℤ f → neg_ℤ (pos s) ≤ℤ (f +ℤ pos k)
      low s f k h = omega (arith, ints)

      high : (s : ℕ) (f : ℤ) (n k : ℕ) → k < n → (f +ℤ (pos n -ℤ pos 1)) <ℤ pos s → (f +ℤ pos k) <ℤ pos s
      high s f n k l h = omega (arith, ints)
