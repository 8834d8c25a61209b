-- Looking for a pair among ascending ones.
use Rattle.std.proofs.Common.{◌≡◌, ℕ, ◌≤◌, List, length, ◌<ℤ◌, Some, Result, Ok, Err, Contains, MatchOption, refl, sym, subst, arith, get_or, slice_get}
use Rattle.std.specs.Prelude.{AllPairs}
use Rattle.std.specs.Cmp.{int_ranks}
use Rattle.std.specs.Ordering.{int_cmp, ordering_then, ordering_index, MatchOrdering}
use Rattle.std.specs.Result.{result_ok}
use Rattle.std.specs.List.Sorted.{IsSearchInRange, IsBinarySearchResult, IsNonDecreasingBy}
use Rattle.std.specs.declared.cmp.Ordering.{Ordering}
use Rattle.std.specs.declared.cmp.Ordering.TheVariants.{Less, Equal, Greater}
use Rattle.std.proofs.Math.Decide.{dec_lt}
use Rattle.std.proofs.lemmas.Int.{ints}
use Rattle.std.proofs.lemmas.Option.{slice_get_read}
use Rattle.srs_num.specs.declared.pairs.V2.{V2}
use Rattle.srs_path.specs.Core.{Precedes}
use Rattle.srs_path.proofs.Order.{precedes-trans}

-- how a pair compares with another one
abbrev pub order_of : V2 → V2 → Ordering
order_of v w = ordering_then (int_cmp v.a w.a) (int_cmp v.b w.b)

not_itself : (v : V2) → Precedes v v → ⊥
not_itself v h = omega (arith, ints, h.1 (λ _. v.a))

both : (v w : V2) (r s : Ordering) → MatchOrdering r (v.a <ℤ w.a) (v.a ≡ w.a) (w.a <ℤ v.a) → MatchOrdering s (v.b <ℤ w.b) (v.b ≡ w.b) (w.b <ℤ v.b)
    → MatchOrdering (ordering_then r s) (Precedes v w) (v ≡ w) (Precedes w v)
both v w Less s h k = (omega (arith, ints), λ e. absurd (omega (arith, ints)))
both v w Greater s h k = (omega (arith, ints), λ e. absurd (omega (arith, ints)))
both v w Equal Less h k = (omega (arith, ints), λ _. k)
both v w Equal Equal h k = λ i. record { a = h i; b = k i }
both v w Equal Greater h k = (omega (arith, ints), λ _. k)

order_means : (v w : V2) → MatchOrdering (order_of v w) (Precedes v w) (v ≡ w) (Precedes w v)
order_means v w = both v w (int_cmp v.a w.a) (int_cmp v.b w.b) (int_ranks v.a w.a) (int_ranks v.b w.b)

higher : (u v w : V2) (r s : Ordering) → MatchOrdering r (Precedes u w) (u ≡ w) (Precedes w u) → MatchOrdering s (Precedes v w) (v ≡ w) (Precedes w v)
    → Precedes u v → ordering_index r ≤ ordering_index s
higher u v w Less Less h k l = omega arith
higher u v w Less Equal h k l = omega arith
higher u v w Less Greater h k l = omega arith
higher u v w Equal Less h k l = absurd (not_itself w (precedes-trans w v w (subst (λ (x : V2). Precedes x v) h l) k))
higher u v w Equal Equal h k l = omega arith
higher u v w Equal Greater h k l = omega arith
higher u v w Greater Less h k l = absurd (not_itself w (precedes-trans w u w h (precedes-trans u v w l k)))
higher u v w Greater Equal h k l = absurd (not_itself w (precedes-trans w u w h (subst (λ (x : V2). Precedes u x) k l)))
higher u v w Greater Greater h k l = omega arith

-- the pairs that ascend stand first before w, and then after it
rise : (xs : List V2) (w : V2) → AllPairs Precedes xs → IsNonDecreasingBy (λ y. ordering_index (order_of y w)) xs
rise xs w up i j d le lt = elim (dec_lt i j) as (λ _. ordering_index (order_of (get_or xs i d) w) ≤ ordering_index (order_of (get_or xs j d) w)) [
  | yes b ↦ let u = get_or xs i d in let v = get_or xs j d in higher u v w (order_of u w) (order_of v w) (order_means u w) (order_means v w) (up i j d b lt)
  | no b ↦ let e : i ≡ j = omega arith in subst (λ (x : ℕ). ordering_index (order_of (get_or xs i d) w) ≤ ordering_index (order_of (get_or xs x d) w)) e (omega arith)
]

is_at : (v w : V2) → order_of v w ≡ Equal → v ≡ w
is_at v w e = subst (λ (o : Ordering). MatchOrdering o (Precedes v w) (v ≡ w) (Precedes w v)) e (order_means v w)

is_before : (v w : V2) → order_of v w ≡ Less → Precedes v w
is_before v w e = subst (λ (o : Ordering). MatchOrdering o (Precedes v w) (v ≡ w) (Precedes w v)) e (order_means v w)

is_after : (v w : V2) → order_of v w ≡ Greater → Precedes w v
is_after v w e = subst (λ (o : Ordering). MatchOrdering o (Precedes v w) (v ≡ w) (Precedes w v)) e (order_means v w)

-- where a search ends is the place of the pair, or it isn't there
pub searched : (xs : List V2) (w : V2) (r : Result ℕ ℕ) → AllPairs Precedes xs → IsSearchInRange r (length xs) → IsBinarySearchResult (λ y. order_of y w) xs r
    → MatchOption (result_ok r) (Contains xs w → ⊥) (λ i. slice_get xs i ≡ Some w)
searched xs w (Ok i) up range at = slice_get_read xs (length xs) i w refl range (sym (is_at (get_or xs i w) w (at w)))
searched xs w (Err i) up range parted = λ has.
    let p = parted (rise xs w up) in
    elim (dec_lt has.0 i) [
      | yes b ↦ not_itself w (subst (λ (x : V2). Precedes x w) has.2 (is_before (get_or xs has.0 w) w (p.0 has.0 w (omega arith) b)))
      | no b ↦ not_itself w (subst (λ (x : V2). Precedes w x) has.2 (is_after (get_or xs has.0 w) w (p.1 has.0 w (omega arith) has.1)))
    ]
