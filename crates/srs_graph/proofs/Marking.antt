-- What one more mark changes.
use Rattle.std.proofs.Common.{◌≡◌, ◌≢◌, ℕ, zero, suc, ◌+◌, ◌-◌, ◌<◌, List, [], ◌∷◌, ◌++◌, length, Bool, true, false, true≢false, Option, None, Some, arith, ap, subst, sym, ◌∙◌, refl, length-append, length-set}
use Rattle.std.specs.Prelude.{is_none, is_some, cond}
use Rattle.std.proofs.Math.ListN.{set}
use Rattle.std.proofs.Math.Decide.{dec_lt}
use Rattle.std.proofs.lemmas.List.{get_or-set_same, get_or-set_other, get_or_append_left}
use Rattle.std.proofs.Math.Seq.{get_or-append_right}
use Rattle.std.proofs.lemmas.List.Sums.{count_by-le-length, sum_by-set, sum_by-cons}
use Rattle.srs_num.specs.declared.pairs.V2.{V2}
use Rattle.srs_map.specs.Step.{origin}
use Rattle.srs_path.specs.Core.{pair_eq}
use Rattle.srs_path.proofs.WitnessLemmas.{pair-decides}
use Rattle.srs_graph.specs.declared.rows.Row.{Row}
use Rattle.srs_graph.specs.Networks.{pair_at}
use Rattle.srs_graph.specs.Marks.{mark_at, Ranked, unmarked, AreMarks, HasNoMarks}

pub by_eq : {P : Type 0} (a b : ℕ) → (a ≡ b → P) → (a ≢ b → P) → P
by_eq {P} a b e d = elim (dec_lt a b) as (λ _. P) [
  | yes h ↦ d (λ s. absurd (omega arith))
  | no h ↦ elim (dec_lt b a) as (λ _. P) [ yes k ↦ d (λ s. absurd (omega arith)) | no k ↦ e (omega arith) ]
]

-- a mark where there was none
pub count_less : (ms : List (Option ℕ)) (k n : ℕ) → k < length ms → mark_at ms k ≡ None → unmarked (set ms k (Some n)) + 1 ≡ unmarked ms
count_less ms k n h e =
    let s = sum_by-set (λ (x : Option ℕ). cond (is_none x) 1 0) ms k (Some n) None h in
    let t : unmarked (set ms k (Some n)) + 1 ≡ unmarked ms + 0 = subst (λ (o : Option ℕ). unmarked (set ms k (Some n)) + cond (is_none o) 1 0 ≡ unmarked ms + 0) e s in
    omega arith

module _ (ps : List V2) (rows : List Row) (ms : List (Option ℕ)) (k n : ℕ) (h : k < length ms) (e : mark_at ms k ≡ None) where
  pub keeps : (j m : ℕ) → mark_at ms j ≡ Some m → mark_at (set ms k (Some n)) j ≡ Some m
  keeps j m f = get_or-set_other ms k j (Some n) None (λ s. none_some (sym e ∙ ap (mark_at ms) (sym s) ∙ f)) ∙ f
    where
      none_some : {m : ℕ} → None ≡ Some m → ⊥
      none_some q = cc

  stays : (i q : ℕ) → Ranked ps rows ms i q → Ranked ps rows (set ms k (Some n)) i q
  stays i q r = record {
    at_zero = r.at_zero;
    falls = λ z j t. let x = r.falls z j t in (x.0, keeps j x.0 x.1, x.2);
    step = λ z. let x = r.step z in (x.0, x.1, x.2, keeps x.0 x.1 x.3, x.4);
  }

  some_same : {a b : ℕ} → Some a ≡ Some b → a ≡ b
  some_same q = cc

  pub marked : AreMarks ps rows ms → Ranked ps rows ms k n → AreMarks ps rows (set ms k (Some n))
  marked a r = record {
    len = length-set ms k (Some n) ∙ a.len;
    ranked = λ i q f. by_place i q f;
    low = λ i q f. low i q f;
  }
    where
      here : mark_at (set ms k (Some n)) k ≡ Some n
      here = get_or-set_same ms k (Some n) None h

      other : (i q : ℕ) → i ≢ k → mark_at (set ms k (Some n)) i ≡ Some q → mark_at ms i ≡ Some q
      other i q d f = sym (get_or-set_other ms k i (Some n) None d) ∙ f

      at_k : (i q : ℕ) → i ≡ k → mark_at (set ms k (Some n)) i ≡ Some q → n ≡ q
      at_k i q s f = some_same (sym here ∙ ap (mark_at (set ms k (Some n))) (sym s) ∙ f)

      by_place : (i q : ℕ) → mark_at (set ms k (Some n)) i ≡ Some q → Ranked ps rows (set ms k (Some n)) i q
      by_place i q f = by_eq i k
          (λ s. subst (Ranked ps rows (set ms k (Some n)) i) (at_k i q s f) (subst (λ (x : ℕ). Ranked ps rows (set ms k (Some n)) x n) (sym s) (stays k n r)))
          (λ d. stays i q (a.ranked i q (other i q d f)))

      fewer : unmarked (set ms k (Some n)) + 1 ≡ unmarked ms
      fewer = count_less ms k n h e

      low_k : n + unmarked (set ms k (Some n)) < length ms
      low_k = by_zero (pair_eq (pair_at ps k) origin) refl
        where
          by_zero : (b : Bool) → pair_eq (pair_at ps k) origin ≡ b → n + unmarked (set ms k (Some n)) < length ms
          by_zero true t = omega (arith, r.at_zero ((pair-decides (pair_at ps k) origin).0 t), fewer, count_by-le-length is_none ms)
          by_zero false t =
              let z : pair_at ps k ≢ origin = λ s. true≢false (sym ((pair-decides (pair_at ps k) origin).1 s) ∙ t) in
              let x = r.step z in
              omega (arith, a.low x.0 x.1 x.3, x.4, fewer)

      low : (i q : ℕ) → mark_at (set ms k (Some n)) i ≡ Some q → q + unmarked (set ms k (Some n)) < length (set ms k (Some n))
      low i q f = by_eq i k
          (λ s. omega (arith, at_k i q s f, low_k, length-set ms k (Some n)))
          (λ d. omega (arith, a.low i q (other i q d f), fewer, length-set ms k (Some n)))

abbrev one : List (Option ℕ)
one = None ∷ []

last : (j : ℕ) → mark_at one j ≡ None
last zero = refl
last (suc j) = refl

pub no_more : (n : ℕ) (ms : List (Option ℕ)) → HasNoMarks n ms → HasNoMarks (n + 1) (ms ++ None ∷ [])
no_more n ms a = record { len = omega (arith, length-append ms (None ∷ []), a.len); none = none }
  where
    none : (i : ℕ) → mark_at (ms ++ None ∷ []) i ≡ None
    none i = elim (dec_lt i (length ms)) as (λ _. mark_at (ms ++ None ∷ []) i ≡ None) [
      | yes l ↦ get_or_append_left ms (None ∷ []) None i l ∙ a.none i
      | no l ↦ get_or-append_right ms (None ∷ []) i None (omega arith) ∙ last (i - length ms)
    ]

-- with no mark, all are counted
pub unmarked_all : (n : ℕ) (ms : List (Option ℕ)) → HasNoMarks n ms → unmarked ms ≡ n
unmarked_all n [] a = a.len
unmarked_all zero (m ∷ ms) a = absurd (omega (arith, a.len))
unmarked_all (suc n) (m ∷ ms) a =
    let e : m ≡ None = a.none 0 in
    let r : unmarked ms ≡ n = unmarked_all n ms (record { len = omega (arith, a.len); none = λ i. a.none (suc i) }) in
    let t : ◌≡◌ {A = ℕ} (cond (is_none m) 1 0) 1 = ap (λ (o : Option ℕ). cond {A = ℕ} (is_none o) 1 0) e in
    omega (arith, sum_by-cons (λ (o : Option ℕ). cond (is_none o) 1 0) m ms, t, r)

pub marks_none : (ps : List V2) (rows : List Row) (ms : List (Option ℕ)) → HasNoMarks (length ps) ms → AreMarks ps rows ms
marks_none ps rows ms a = record {
  len = a.len;
  ranked = λ i n e. absurd (none_some (sym (a.none i) ∙ e));
  low = λ i n e. absurd (none_some (sym (a.none i) ∙ e));
}
  where
    none_some : {m : ℕ} → None ≡ Some m → ⊥
    none_some q = cc

pub no_some : (o : Option ℕ) → is_some o ≡ false → o ≡ None
no_some None e = refl
no_some (Some n) e = absurd (true≢false e)
