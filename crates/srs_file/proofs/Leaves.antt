-- A leaf that grows by a witness.
use Rattle.std.proofs.Common.{◌≡◌, ◌<◌, ◌≤◌, ◌-◌, ◌++◌, ℕ, ℤ, pos, ◌≤ℤ◌, unsigned_abs, List, [], ◌∷◌, length, get_or, Some, slice_get, refl, sym, ap, ◌∙◌, arith, length-append}
use Rattle.std.specs.Prelude.{AllPairs}
use Rattle.std.proofs.Math.Decide.{dec_lt}
use Rattle.std.proofs.Math.Seq.{get_or-append_seam}
use Rattle.std.proofs.lemmas.List.{get_or_append_left}
use Rattle.std.proofs.lemmas.List.Elements.{All-nil, All-cons, All-append}
use Rattle.std.proofs.lemmas.Option.{slice_get-get_or, slice_get_within, get_or_from_slice_get}
use Rattle.srs_num.specs.declared.pairs.V2.{V2}
use Rattle.srs_map.specs.Step.{IsNarrow}
use Rattle.srs_path.specs.Core.{Precedes}
use Rattle.srs_path.specs.Lists.{ranked, MakesRanks}
use Rattle.srs_path.proofs.Order.{precedes-trans}
use Rattle.srs_path.proofs.Ranked.{length-ranked, get-ranked}
use Rattle.srs_file.specs.Leaf.{IsGrowingLeaf, IsEntry, Follows}

pub last_split : {X : Type 0} (xs : List X) → 0 < length xs → (before : List X) × (last : X) × (xs ≡ before ++ last ∷ [])
last_split [] h = absurd (omega arith)
last_split (x ∷ []) h = ([], x, refl)
last_split (x ∷ y ∷ xs) h = let more = last_split (y ∷ xs) (omega arith) in (x ∷ more.0, more.1, ap (λ ys. x ∷ ys) more.2)

-- the last of a list stands at the last place
last_at : {X : Type 0} (xs before : List X) (last d : X) → xs ≡ before ++ last ∷ [] → get_or xs (length xs - 1) d ≡ last
last_at xs before last d e =
    let size : length xs - 1 ≡ length before = omega (arith, ap length e, length-append before (last ∷ [])) in
    rw (size, e) (get_or-append_seam before last [] d)

-- where a list ascends, and what is put behind it is greater than its last, it still ascends
pub ascends_push : {X : Type 0} (R : X → X → Type 0) → ((u v w : X) → R u v → R v w → R u w) → (xs : List X) (x : X) → AllPairs R xs
    → ((before : List X) (last : X) → xs ≡ before ++ last ∷ [] → R last x) → AllPairs R (xs ++ x ∷ [])
ascends_push R trans xs x asc follows i j d lt within = elim (dec_lt j (length xs)) as (λ _. R (get_or (xs ++ x ∷ []) i d) (get_or (xs ++ x ∷ []) j d)) [
  | yes low ↦ rw (get_or_append_left xs (x ∷ []) d i (omega arith), get_or_append_left xs (x ∷ []) d j low) (asc i j d lt low)
  | no high ↦
      let here : j ≡ length xs = omega (arith, length-append xs (x ∷ [])) in
      let last = last_split xs (omega arith) in
      let at_j : get_or (xs ++ x ∷ []) j d ≡ x = rw here (get_or-append_seam xs x [] d) in
      let at_i : get_or (xs ++ x ∷ []) i d ≡ get_or xs i d = get_or_append_left xs (x ∷ []) d i (omega arith) in
      let top : get_or xs (length xs - 1) d ≡ last.1 = last_at xs last.0 last.1 d last.2 in
      let step = follows last.0 last.1 last.2 in
      rw (at_i, at_j) (elim (dec_lt i (length xs - 1)) as (λ _. R (get_or xs i d) x) [
        | yes below ↦ trans (get_or xs i d) last.1 x (rw top at (asc i (length xs - 1) d below (omega arith))) step
        | no above ↦ let same : i ≡ length xs - 1 = omega arith in rw (same, top) step
      ])
]

pub ranked_push : (ps : List V2) (zs : List ℤ) (w : V2) (z : ℤ) → length ps ≡ length zs → ranked (ps ++ w ∷ []) (zs ++ z ∷ []) ≡ ranked ps zs ++ (w, unsigned_abs z) ∷ []
ranked_push [] [] w z e = refl
ranked_push [] (y ∷ zs) w z e = absurd (omega arith)
ranked_push (p ∷ ps) [] w z e = absurd (omega arith)
ranked_push (p ∷ ps) (y ∷ zs) w z e = ap (λ xs. (p, unsigned_abs y) ∷ xs) (ranked_push ps zs w z (omega arith))

-- the pair of the last entry is the last pair
last_pair : (ps : List V2) (zs : List ℤ) (before : List (V2 × ℕ)) (last : V2 × ℕ) (d : V2) → length ps ≡ length zs → ranked ps zs ≡ before ++ last ∷ [] → get_or ps (length ps - 1) d ≡ last.0
last_pair ps zs before last d same e =
    let size = length-ranked ps zs same in
    let some : 0 < length ps = omega (arith, size, ap length e, length-append before (last ∷ [])) in
    let k = length ps - 1 in
    let there = get-ranked ps zs k (get_or ps k d) (get_or zs k (pos 0)) (slice_get-get_or ps k d (omega arith)) (slice_get-get_or zs k (pos 0) (omega arith)) in
    let place : length (ranked ps zs) - 1 ≡ k = omega arith in
    let at : get_or (ranked ps zs) k last ≡ last = rw place at (last_at (ranked ps zs) before last last e) in
    ap (λ (x : V2 × ℕ). x.0) (sym (get_or_from_slice_get (ranked ps zs) k (get_or ps k d, unsigned_abs (get_or zs k (pos 0))) last there) ∙ at)

pub follows_none : (zs : List ℤ) (w : V2) → Follows (ranked [] zs) w
follows_none zs w before last e = absurd (omega (arith, ap length e, length-append before (last ∷ [])))

pub follows_last : (ps : List V2) (zs : List ℤ) (v w : V2) → length ps ≡ length zs → slice_get ps (length ps - 1) ≡ Some v → Precedes v w → Follows (ranked ps zs) w
follows_last ps zs v w same at p before last e =
    let pair : v ≡ last.0 = sym (get_or_from_slice_get ps (length ps - 1) v v at) ∙ last_pair ps zs before last v same e in
    rw (← pair) p

pub last_follows : (ps : List V2) (zs : List ℤ) (v w : V2) → length ps ≡ length zs → slice_get ps (length ps - 1) ≡ Some v → Follows (ranked ps zs) w → Precedes v w
last_follows ps zs v w same at f =
    let lt = slice_get_within ps (length ps - 1) v at in
    let last = last_split (ranked ps zs) (omega (arith, lt, length-ranked ps zs same)) in
    let pair : v ≡ last.1.0 = sym (get_or_from_slice_get ps (length ps - 1) v v at) ∙ last_pair ps zs last.0 last.1 v same last.2 in
    rw pair (f last.0 last.1 last.2)

-- the last pair, where the last entry follows
follows_pairs : (ps : List V2) (zs : List ℤ) (w : V2) → length ps ≡ length zs → Follows (ranked ps zs) w → (before : List V2) (last : V2) → ps ≡ before ++ last ∷ [] → Precedes last w
follows_pairs ps zs w same f before last e =
    let some : 0 < length ps = omega (arith, ap length e, length-append before (last ∷ [])) in
    let at : slice_get ps (length ps - 1) ≡ Some last = slice_get-get_or ps (length ps - 1) last (omega arith) ∙ ap (λ (x : V2). Some x) (last_at ps before last last e) in
    last_follows ps zs last w same at f

pub leaf_grows : (left : ℕ) (ps after : List V2) (zs more : List ℤ) (w : V2) (z : ℤ) → IsGrowingLeaf left ps zs → 0 < left → IsEntry w z → Follows (ranked ps zs) w
    → after ≡ ps ++ w ∷ [] → more ≡ zs ++ z ∷ [] → IsGrowingLeaf (left - 1) after more
leaf_grows left ps after zs more w z g some entry f e h = rw (e, h) (record {
  same = omega (arith, g.same, length-append ps (w ∷ []), length-append zs (z ∷ []));
  room = let was = g.room in omega (arith, was, length-append ps (w ∷ []));
  ascending = ascends_push Precedes precedes-trans ps w g.ascending (follows_pairs ps zs w g.same f);
  narrow = All-append IsNarrow ps (w ∷ []) g.narrow (All-cons IsNarrow w [] entry.0 (All-nil IsNarrow));
  within = All-append (λ y. (pos 0 ≤ℤ y) × (y ≤ℤ pos 16384)) zs (z ∷ []) g.within (All-cons (λ y. (pos 0 ≤ℤ y) × (y ≤ℤ pos 16384)) z [] (entry.1, entry.2) (All-nil (λ y. (pos 0 ≤ℤ y) × (y ≤ℤ pos 16384))));
})

pub leaf_empty : (left : ℕ) → left ≤ 16384 → IsGrowingLeaf left [] []
leaf_empty left h = record {
  same = refl;
  room = omega arith;
  ascending = λ i j d lt within. absurd (omega arith);
  narrow = All-nil IsNarrow;
  within = All-nil (λ y. (pos 0 ≤ℤ y) × (y ≤ℤ pos 16384));
}

pub leaf_makes : (left : ℕ) (ps : List V2) (zs : List ℤ) → IsGrowingLeaf left ps zs → 0 < length (ranked ps zs) → MakesRanks ps zs
leaf_makes left ps zs g some = record {
  same = g.same;
  some = omega (arith, some, length-ranked ps zs g.same);
  short = let room = g.room in omega arith;
  ascending = g.ascending;
  narrow = g.narrow;
  within = g.within;
}
