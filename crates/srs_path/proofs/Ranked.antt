-- Two lists as one list of pairs with their ranks.
use Rattle.std.proofs.Common.{◌≡◌, ℕ, zero, suc, ◌<◌, ◌≤◌, List, [], ◌∷◌, length, ℤ, pos, ◌≤ℤ◌, unsigned_abs, Some, refl, sym, ap, ◌∙◌, arith, get_or, slice_get, Contains, negsuc}
use Rattle.std.proofs.lemmas.Int.{ints}
use Rattle.std.proofs.lemmas.Option.{get_or_from_slice_get, slice_get-get_or, slice_get_within}
use Rattle.srs_num.specs.declared.pairs.V2.{V2}
use Rattle.srs_path.specs.Lists.{ranked, MakesRanks, IsRankList}

pub length-ranked : (ps : List V2) (zs : List ℤ) → length ps ≡ length zs → length (ranked ps zs) ≡ length ps
length-ranked [] zs e = refl
length-ranked (p ∷ ps) [] e = absurd (omega arith)
length-ranked (p ∷ ps) (z ∷ zs) e = ap suc (length-ranked ps zs (omega arith))

pub get-ranked : (ps : List V2) (zs : List ℤ) (i : ℕ) (w : V2) (z : ℤ) → slice_get ps i ≡ Some w → slice_get zs i ≡ Some z → slice_get (ranked ps zs) i ≡ Some (w, unsigned_abs z)
get-ranked [] zs i w z e f = absurd (cc)
get-ranked (p ∷ ps) [] i w z e f = absurd (cc)
get-ranked (p ∷ ps) (x ∷ zs) zero w z e f = let g : p ≡ w = cc in let h : x ≡ z = cc in rw (g, h) refl
get-ranked (p ∷ ps) (x ∷ zs) (suc i) w z e f = get-ranked ps zs i w z e f

-- a rank of the list is 0 to 16384
pub rank_within : (ps : List V2) (zs : List ℤ) (i : ℕ) (z : ℤ) → MakesRanks ps zs → slice_get zs i ≡ Some z → (pos 0 ≤ℤ z) × (z ≤ℤ pos 16384)
rank_within ps zs i z m e = rw (get_or_from_slice_get zs i z (pos 0) e) at (m.within i (pos 0) (slice_get_within zs i z e))

-- a pair and the rank at its place are listed
pub has_ranked : (ps : List V2) (zs : List ℤ) (i : ℕ) (w : V2) (z : ℤ) → slice_get ps i ≡ Some w → slice_get zs i ≡ Some z → Contains (ranked ps zs) (w, unsigned_abs z)
has_ranked ps zs i w z e f =
    let g = get-ranked ps zs i w z e f in
    (i, slice_get_within (ranked ps zs) i (w, unsigned_abs z) g, get_or_from_slice_get (ranked ps zs) i (w, unsigned_abs z) (w, unsigned_abs z) g)

-- a pair that is listed with a rank is one of the pairs
pub has_pair : (ps : List V2) (zs : List ℤ) (w : V2) (n : ℕ) → length ps ≡ length zs → Contains (ranked ps zs) (w, n) → Contains ps w
has_pair ps zs w n same has =
    let k = has.0 in
    let l : k < length ps = omega (arith, has.1, length-ranked ps zs same) in
    let x : V2 × ℕ = (get_or ps k w, unsigned_abs (get_or zs k (pos 0))) in
    let e = get-ranked ps zs k (get_or ps k w) (get_or zs k (pos 0)) (slice_get-get_or ps k w l) (slice_get-get_or zs k (pos 0) (omega arith)) in
    (k, l, ap (λ (e : V2 × ℕ). e.0) (sym (get_or_from_slice_get (ranked ps zs) k x (w, n) e) ∙ has.2))

-- the entry at a place is its pair and its rank
pub at-ranked : (ps : List V2) (zs : List ℤ) (k : ℕ) (d : V2 × ℕ) → length ps ≡ length zs → k < length ps → get_or (ranked ps zs) k d ≡ (get_or ps k d.0, unsigned_abs (get_or zs k (pos 0)))
at-ranked ps zs k d same lt =
    let e = get-ranked ps zs k (get_or ps k d.0) (get_or zs k (pos 0)) (slice_get-get_or ps k d.0 lt) (slice_get-get_or zs k (pos 0) (omega arith)) in
    get_or_from_slice_get (ranked ps zs) k (get_or ps k d.0, unsigned_abs (get_or zs k (pos 0))) d e

small_rank : (z : ℤ) → (pos 0 ≤ℤ z) × (z ≤ℤ pos 16384) → unsigned_abs z ≤ 16384
small_rank (pos n) h = omega (arith, ints, h)
small_rank (negsuc n) h = absurd (omega (arith, ints, h))

-- two lists that make ranks make a list of ranks
pub makes_list : (ps : List V2) (zs : List ℤ) → MakesRanks ps zs → IsRankList (ranked ps zs)
makes_list ps zs m =
    let size = length-ranked ps zs m.same in
    record {
      some = omega (arith, size, m.some);
      short = omega (arith, size, m.short);
      ascending = λ i j d lt l. let here : j < length ps = omega arith in let there : i < length ps = omega arith in
          rw (at-ranked ps zs i d m.same there, at-ranked ps zs j d m.same here) (m.ascending i j d.0 lt here);
      each = λ k d l. let here : k < length ps = omega arith in
          rw (at-ranked ps zs k d m.same here) (m.narrow k d.0 here, small_rank (get_or zs k (pos 0)) (m.within k (pos 0) (omega (arith, m.same))));
    }
