-- The walk gives the chosen cycle.
use Rattle.std.proofs.Common.{◌≡◌, ◌≢◌, ℕ, zero, suc, ◌+◌, ◌-◌, ◌<◌, ◌≤◌, List, [], ◌∷◌, ◌++◌, length, map, ℤ, pos, ◌%◌, ◌^◌, add-zero, Option, None, Some, arith, ap, ap₂, subst, sym, ◌∙◌, refl, get_or, length-append, length-set}
use Rattle.std.specs.Prelude.{AllPairs}
use Rattle.std.specs.List.{range_with_len}
use Rattle.std.proofs.Math.Decide.{dec_lt}
use Rattle.std.proofs.Math.ListN.{set}
use Rattle.std.proofs.Math.Nat.{mod-eq_of_lt}
use Rattle.std.proofs.Math.Seq.{get_or-append_seam}
use Rattle.std.proofs.lemmas.List.{get_or_default, get_or_append_left, get_or-set_same, get_or-set_other}
use Rattle.std.proofs.lemmas.Int.{ints}
use Rattle.std.proofs.lemmas.List.FromFn.{length-map-range_with_len}
use Rattle.srs_num.specs.declared.pairs.V2.{V2}
use Rattle.srs_num.specs.Points.{IsWithin}
use Rattle.srs_map.specs.Step.{pair, origin, IsNarrow}
use Rattle.srs_plane.specs.Regions.{Area}
use Rattle.srs_path.specs.Witnesses.{HasEdge}
use Rattle.srs_path.specs.Core.{IsInCore, HasCore, HasNoCore, Precedes}
use Rattle.srs_path.specs.ChosenCycle.{IsLeast, IsChosen, NotAfter}
use Rattle.srs_path.specs.Cutout.{entry_at}
use Rattle.srs_path.specs.Lists.{IsCycle}
use Rattle.srs_path.proofs.ChosenEdges.{in_core, len, entry_of}
use Rattle.srs_graph.specs.declared.rows.Row.{Row}
use Rattle.srs_graph.specs.Networks.{pair_at, row_at, AreRows, network, IsNetwork, IsGraph}
use Rattle.srs_graph.specs.Marks.{mark_at, IsPeeled, LeadsOn, HasNoMarks}
use Rattle.srs_graph.specs.Walks.{IsFirstOpen, AreAllMarked, IsStep, LeadOn, step_at, Walk, IsRound, first_entries}
use Rattle.srs_graph.proofs.Marking.{by_eq, count_less, unmarked_all}
use Rattle.srs_graph.proofs.Meaning.{core_open, open_in_core, none_some}

module _ (ps : List V2) (s : AllPairs Precedes ps) where
  -- places in order are pairs in order
  in_order : (i j : ℕ) → i ≤ j → j < length ps → NotAfter (pair_at ps i) (pair_at ps j)
  in_order i j h l = by_eq i j
      (λ e. let u : pair_at ps i ≡ pair_at ps j = ap (pair_at ps) e in (omega (arith, ints, ap (λ (v : V2). v.a) u), λ _. omega (arith, ints, ap (λ (v : V2). v.b) u)))
      (λ d. let b : Precedes (pair_at ps i) (pair_at ps j) = s i j origin (omega arith) l in (b.0, λ e. omega (arith, ints, b.1 e)))

  apart : (i j : ℕ) → i < j → j < length ps → pair_at ps i ≢ pair_at ps j
  apart i j h l e =
      let b : Precedes (pair_at ps i) (pair_at ps j) = s i j origin h l in
      absurd (omega (arith, ints, b.1 (ap (λ (v : V2). v.a) e), ap (λ (v : V2). v.b) e))

  same_place : (i j : ℕ) → i < length ps → j < length ps → pair_at ps i ≡ pair_at ps j → i ≡ j
  same_place i j h l e = by_eq i j (λ q. q) (λ d. absurd (elim (dec_lt i j) as (λ _. ⊥) [ yes k ↦ apart i j k l e | no k ↦ apart j i (omega arith) h (sym e) ]))

module _ (R : Area) (ps : List V2) (rows : List Row) (ms : List (Option ℕ)) (g : IsGraph R (network ps rows)) (a : AreRows (length ps) rows) (d : IsPeeled ps rows ms) where
  pub none_open_empty : AreAllMarked ms 0 (length ms) → HasNoCore R
  none_open_empty n w c = let t = core_open R ps rows ms g a d w c in n t.0 (omega arith) (omega (arith, t.1, d.marks.len)) t.3

  least_start : (i : ℕ) → IsFirstOpen ms 0 (length ms) i → IsLeast (IsInCore R) (pair_at ps i)
  least_start i f = record {
    has = open_in_core R ps rows ms g a d i (omega (arith, f.below, d.marks.len)) f.no_mark;
    least = λ v c. let t = core_open R ps rows ms g a d v c in
        elim (dec_lt t.0 i) as (λ _. NotAfter (pair_at ps i) v) [
          | yes h ↦ absurd (f.first t.0 (omega arith) h t.3)
          | no h ↦ subst (NotAfter (pair_at ps i)) t.2 (in_order ps g.witnesses.ascending i t.0 (omega arith) t.1)
        ];
  }

  least_step : (i j : ℕ) → i < length ps → IsStep rows ms i j → IsLeast (λ v. IsInCore R v × HasEdge R (pair_at ps i) v) (pair_at ps j)
  least_step i j h f = record {
    has = (open_in_core R ps rows ms g a d j (omega (arith, f.below, a.within i h)) f.no_mark, g.each i j h (f.above, f.below));
    least = λ v c. let t = core_open R ps rows ms g a d v c.0 in
        let x = g.all i v h c.1 in
        let e : t.0 ≡ x.0 = same_place ps g.witnesses.ascending t.0 x.0 t.1 (omega (arith, x.1.1, a.within i h)) (t.2 ∙ sym x.2) in
        elim (dec_lt x.0 j) as (λ _. NotAfter (pair_at ps j) v) [
          | yes k ↦ absurd (f.first x.0 x.1.0 k (subst (λ (n : ℕ). mark_at ms n ≡ None) e t.3))
          | no k ↦ subst (NotAfter (pair_at ps j)) x.2 (in_order ps g.witnesses.ascending j x.0 (omega arith) (omega (arith, x.1.1, a.within i h)))
        ];
  }

  -- the walk came back to the place that it met at `from`
  module _ (path : List ℕ) (at : ℕ) (met : List (Option ℕ)) (w : Walk rows ms path at met) (from : ℕ) (e : mark_at met at ≡ Some from) where
    z : ℕ → V2
    z k = pair_at ps (step_at path at k)

    last : step_at path at (length path) ≡ at
    last = get_or-append_seam path at [] 0

    inside : (k : ℕ) → k < length path → step_at path at k < length ps
    inside zero h = omega (arith, w.start.below, d.marks.len)
    inside (suc k) h =
        let i = inside k (omega arith) in
        let f = w.go k (omega arith) in
        let b = a.within (step_at path at k) i in
        let n : k + 1 ≡ suc k = omega arith in
        subst (λ (x : ℕ). step_at path at x < length ps) n (omega (arith, f.below, b))

    some_same : {m n : ℕ} → Some m ≡ Some n → m ≡ n
    some_same q = cc

    different : (j k : ℕ) → j < k → k < length path → z j ≢ z k
    unfolding z
    different j k h l q =
        let s : step_at path at j ≡ step_at path at k = same_place ps g.witnesses.ascending _ _ (inside j (omega arith)) (inside k l) q in
        let t : j ≡ k = some_same (sym (w.marked j (omega arith)) ∙ ap (mark_at met) s ∙ w.marked k l) in
        absurd (omega arith)

    pub is_chosen : (cycle : List ℤ) → cycle ≡ map (λ k. (pair_at ps (step_at path at k)).a) (range_with_len from (length path - from)) → IsChosen R cycle
    unfolding z
    is_chosen cycle c =
        let b = w.back at from e in
        let n : from + (length path - from) ≡ length path = omega (arith, b.0) in
        record {
          z = z;
          from = from;
          period = length path - from;
          start = least_start (step_at path at 0) w.start;
          go = λ k h. least_step (step_at path at k) (step_at path at (k + 1)) (inside k (omega arith)) (w.go k (omega arith));
          some_step = omega (arith, b.0);
          met_twice = ap z n ∙ ap (pair_at ps) (last ∙ sym b.1);
          first = λ j k h l. different j k h (omega arith);
          entries = c;
        }

pub walk_none : (rows : List Row) (ms met : List (Option ℕ)) (first : ℕ) → IsFirstOpen ms 0 (length ms) first → HasNoMarks (length ms) met → Walk rows ms [] first met
walk_none rows ms met first f n = record {
  len = n.len;
  start = f;
  go = λ k h. absurd (omega arith);
  marked = λ k h. absurd (omega arith);
  back = λ i k e. absurd (none_some (sym (n.none i) ∙ e));
  inside = f.below;
  no_mark = f.no_mark;
  short = omega (arith, unmarked_all (length ms) met n, n.len);
}

module _ (rows : List Row) (ms : List (Option ℕ)) (path : List ℕ) (at : ℕ) (met : List (Option ℕ)) (step_of : ℕ) (w : Walk rows ms path at met) (e : mark_at met at ≡ None) (s : IsStep rows ms at step_of) (i : step_of < length ms) where
  new_len : length (path ++ at ∷ []) ≡ length path + 1
  new_len = length-append path (at ∷ [])

  same : (k : ℕ) → k < length path + 1 → step_at (path ++ at ∷ []) step_of k ≡ step_at path at k
  same k h = get_or_append_left (path ++ at ∷ []) (step_of ∷ []) 0 k (omega (arith, new_len))

  at_last : step_at path at (length path) ≡ at
  at_last = get_or-append_seam path at [] 0

  new_last : step_at (path ++ at ∷ []) step_of (length path + 1) ≡ step_of
  new_last = ap (step_at (path ++ at ∷ []) step_of) (sym new_len) ∙ get_or-append_seam (path ++ at ∷ []) step_of [] 0

  in_met : at < length met
  in_met = omega (arith, w.len, w.inside)

  some_num : {m n : ℕ} → Some m ≡ Some n → m ≡ n
  some_num q = cc

  go : (k : ℕ) → k < length path + 1 → IsStep rows ms (step_at (path ++ at ∷ []) step_of k) (step_at (path ++ at ∷ []) step_of (k + 1))
  go k h = elim (dec_lt k (length path)) as (λ _. IsStep rows ms (step_at (path ++ at ∷ []) step_of k) (step_at (path ++ at ∷ []) step_of (k + 1))) [
    | yes l ↦ subst (λ (x : ℕ). IsStep rows ms x (step_at (path ++ at ∷ []) step_of (k + 1))) (sym (same k h))
        (subst (IsStep rows ms (step_at path at k)) (sym (same (k + 1) (omega arith))) (w.go k l))
    | no l ↦ let q : length path ≡ k = omega arith in
        subst (λ (x : ℕ). IsStep rows ms (step_at (path ++ at ∷ []) step_of x) (step_at (path ++ at ∷ []) step_of (x + 1))) q
        (subst (λ (x : ℕ). IsStep rows ms x (step_at (path ++ at ∷ []) step_of (length path + 1))) (sym (same (length path) (omega arith) ∙ at_last))
        (subst (IsStep rows ms at) (sym new_last) s))
  ]

  marked : (k : ℕ) → k < length path + 1 → mark_at (set met at (Some (length path))) (step_at (path ++ at ∷ []) step_of k) ≡ Some k
  marked k h = ap (mark_at (set met at (Some (length path)))) (same k h) ∙ elim (dec_lt k (length path)) as (λ _. mark_at (set met at (Some (length path))) (step_at path at k) ≡ Some k) [
    | yes l ↦ get_or-set_other met at (step_at path at k) (Some (length path)) None (λ q. none_some (sym e ∙ sym (ap (mark_at met) q) ∙ w.marked k l)) ∙ w.marked k l
    | no l ↦ let q : k ≡ length path = omega arith in
        ap (mark_at (set met at (Some (length path)))) (ap (step_at path at) q ∙ at_last) ∙ get_or-set_same met at (Some (length path)) None in_met ∙ ap (λ (n : ℕ). Some n) (sym q)
  ]

  back : (j k : ℕ) → mark_at (set met at (Some (length path))) j ≡ Some k → (k < length path + 1) × (step_at (path ++ at ∷ []) step_of k ≡ j)
  back j k f = by_eq j at
      (λ q. let n : length path ≡ k = some_num (sym (get_or-set_same met at (Some (length path)) None in_met) ∙ sym (ap (mark_at (set met at (Some (length path)))) q) ∙ f) in
      (omega arith, same k (omega arith) ∙ sym (ap (step_at path at) n) ∙ at_last ∙ sym q))
      (λ q. let b = w.back j k (sym (get_or-set_other met at j (Some (length path)) None q) ∙ f) in
      (omega (arith, b.0), same k (omega (arith, b.0)) ∙ b.1))

  pub walk_more : Walk rows ms (path ++ at ∷ []) step_of (set met at (Some (length path)))
  walk_more = record {
    len = length-set met at (Some (length path)) ∙ w.len;
    start = subst (IsFirstOpen ms 0 (length ms)) (sym (same 0 (omega arith))) w.start;
    go = λ k h. go k (omega (arith, new_len));
    marked = λ k h. marked k (omega (arith, new_len));
    back = λ j k f. let b = back j k f in (omega (arith, new_len, b.0), b.1);
    inside = i;
    no_mark = s.no_mark;
    short = omega (arith, new_len, w.short, count_less met at (length path) in_met e, length-set met at (Some (length path)));
  }

-- the first entries of the pairs from `from` up to k
pub record Entries (ps : List V2) (path : List ℕ) (from k : ℕ) (es : List ℤ) : Type 0 where
  pub above : from ≤ k
  pub is : es ≡ first_entries ps path from (k - from)

listed_more : (ps : List V2) (path : List ℕ) (from n : ℕ) → first_entries ps path from (n + 1) ≡ first_entries ps path from n ++ (pair_at ps (get_or path (from + n) 0)).a ∷ []
listed_more ps path from zero = let z : from ≡ from + 0 = omega arith in ap (λ (k : ℕ). (pair_at ps (get_or path k 0)).a ∷ []) z
listed_more ps path from (suc n) =
    let z : (from + 1) + n ≡ from + suc n = omega arith in
    let t : suc n + 1 ≡ suc (n + 1) = omega arith in
    ap (first_entries ps path from) t ∙
    ap (λ (es : List ℤ). (pair_at ps (get_or path from 0)).a ∷ es) (listed_more ps path (from + 1) n ∙ ap (λ (k : ℕ). first_entries ps path (from + 1) n ++ (pair_at ps (get_or path k 0)).a ∷ []) z)

pub entries_more : (ps : List V2) (path : List ℕ) (from k : ℕ) (es : List ℤ) (a : ℤ) → Entries ps path from k es → a ≡ (pair_at ps (get_or path k 0)).a → Entries ps path from (k + 1) (es ++ a ∷ [])
entries_more ps path from k es a e s = record {
  above = omega (arith, e.above);
  is = let z : from + (k - from) ≡ k = omega (arith, e.above) in
      let t : (k - from) + 1 ≡ k + 1 - from = omega (arith, e.above) in
      ap₂ (λ (x : List ℤ) (b : ℤ). x ++ b ∷ []) e.is (s ∙ sym (ap (λ (i : ℕ). (pair_at ps (get_or path i 0)).a) z)) ∙ sym (listed_more ps path from (k - from)) ∙ ap (first_entries ps path from) t;
}

-- the path alone, and the path with its end, are read alike
listed_same : (ps : List V2) (path : List ℕ) (at from n : ℕ) → from + n ≤ length path → first_entries ps path from n ≡ map (λ k. (pair_at ps (step_at path at k)).a) (range_with_len from n)
listed_same ps path at from zero h = refl
listed_same ps path at from (suc n) h =
    ap₂ (λ (x : ℤ) (xs : List ℤ). x ∷ xs) (ap (λ (i : ℕ). (pair_at ps i).a) (sym (get_or_append_left path (at ∷ []) 0 from (omega arith)))) (listed_same ps path at (from + 1) n (omega arith))

pub round_chosen : (R : Area) (ps : List V2) (rows : List Row) (ms : List (Option ℕ)) (path : List ℕ) (from k : ℕ) (es : List ℤ) → IsGraph R (network ps rows) → AreRows (length ps) rows → IsPeeled ps rows ms → IsRound rows ms path from → k ≡ length path → Entries ps path from k es → IsChosen R es
round_chosen R ps rows ms path from k es g a d r e s =
    let b = r.walk.back r.at from r.back in
    is_chosen R ps rows ms g a d path r.at r.met r.walk from r.back es
    (s.is ∙ ap (λ (n : ℕ). first_entries ps path from (n - from)) e ∙ listed_same ps path r.at from (length path - from) (omega (arith, b.0)))

-- the places of a round are places of pairs
pub round_inside : (ps : List V2) (rows : List Row) (ms : List (Option ℕ)) (path : List ℕ) (from : ℕ) → AreRows (length ps) rows → IsPeeled ps rows ms → IsRound rows ms path from → (k : ℕ) → k < length path → get_or path k 0 < length ps
round_inside ps rows ms path from a d r k h = subst (λ (x : ℕ). x < length ps) (get_or_append_left path (r.at ∷ []) 0 k h) (at_step k h)
  where
    at_step : (k : ℕ) → k < length path → step_at path r.at k < length ps
    at_step zero h = omega (arith, r.walk.start.below, d.marks.len)
    at_step (suc k) h =
        let i = at_step k (omega arith) in
        let f = r.walk.go k (omega arith) in
        let b = a.within (step_at path r.at k) i in
        let n : k + 1 ≡ suc k = omega arith in
        subst (λ (x : ℕ). step_at path r.at x < length ps) n (omega (arith, f.below, b))

pub entries_along : (ps : List V2) (path : List ℕ) (from k : ℕ) (a b : List ℤ) → a ≡ b → Entries ps path from k b → Entries ps path from k a
entries_along ps path from k a b e p = subst (Entries ps path from k) (sym e) p

pub round_short : (rows : List Row) (ms : List (Option ℕ)) (path : List ℕ) (from : ℕ) → IsRound rows ms path from → (from < length path) × (length path ≤ length ms)
round_short rows ms path from r = let b = r.walk.back r.at from r.back in (omega (arith, b.0), omega (arith, r.walk.short, r.walk.len))

pub leads_on : (ps : List V2) (rows : List Row) (ms : List (Option ℕ)) → IsPeeled ps rows ms → LeadOn rows ms
leads_on ps rows ms d i h e = (d.left i (omega (arith, d.marks.len)) e).on

-- the chosen cycle keeps what a cycle keeps
module _ (R : Area) (ps : List V2) (rows : List Row) (n : IsNetwork (network ps rows)) (g : IsGraph R (network ps rows)) (c : List ℤ) (u : IsChosen R c) where
  narrow : (k : ℕ) → k ≤ u.from + u.period → IsWithin (2 ^ 37) (u.z k).a
  narrow k h = let t = g.witnesses.all (u.z k) (in_core R c u k h).witness in (subst IsNarrow t.2 (n.narrow t.0 (u.z k) t.1)).0

  following : (u.z u.from).b ≡ (u.z (u.from + 1)).a
  following = ap (λ (v : V2). v.a) (u.go u.from (omega (arith, u.some_step))).has.1.2

  first_entry : entry_at c 0 ≡ (u.z u.from).a
  first_entry =
      let z : 0 % length c ≡ 0 = omega (arith, len R c u, u.some_step) in
      ap (λ (i : ℕ). get_or c i (pos 0)) z ∙ entry_of R c u 0 (pos 0) u.some_step ∙ ap (λ (k : ℕ). (u.z k).a) (add-zero u.from)

  second_entry : entry_at c 1 ≡ (u.z u.from).b
  second_entry = elim (dec_lt 1 u.period) as (λ _. entry_at c 1 ≡ (u.z u.from).b) [
    | yes h ↦
        let l : 1 < length c = omega (arith, len R c u, h) in
        let z : 1 % length c ≡ 1 = mod-eq_of_lt l in
        ap (λ (i : ℕ). get_or c i (pos 0)) z ∙ entry_of R c u 1 (pos 0) h ∙ sym following
    | no h ↦
        let p : u.period ≡ 1 = omega (arith, u.some_step) in
        let z : 1 % length c ≡ 0 = omega (arith, len R c u, p) in
        ap (λ (i : ℕ). get_or c i (pos 0)) z ∙ entry_of R c u 0 (pos 0) u.some_step ∙ ap (λ (k : ℕ). (u.z k).a) (add-zero u.from)
        ∙ ap (λ (v : V2). v.a) (sym u.met_twice) ∙ ap (λ (k : ℕ). (u.z (u.from + k)).a) p ∙ sym following
  ]

  pub chosen_is_cycle : length c ≤ 16384 → IsCycle c
  chosen_is_cycle s = record {
    some = omega (arith, len R c u, u.some_step);
    short = s;
    narrow = λ i d h. subst (IsWithin (2 ^ 37)) (sym (entry_of R c u i d (omega (arith, len R c u)))) (narrow (u.from + i) (omega (arith, len R c u)));
    not_zero = λ e. (in_core R c u u.from (omega arith)).walks 0 (ap₂ pair (sym first_entry) (sym second_entry) ∙ e);
  }

-- what the walk lists is the chosen cycle
pub round_cycle : (R : Area) (ps : List V2) (rows : List Row) (ms : List (Option ℕ)) (path : List ℕ) (from : ℕ) (es : List ℤ) → IsNetwork (network ps rows) → IsGraph R (network ps rows) → IsPeeled ps rows ms → IsRound rows ms path from → es ≡ first_entries ps path from (length path - from) → IsCycle es × (HasCore R × IsChosen R es)
round_cycle R ps rows ms path from es n g d r e =
    let b = round_short rows ms path from r in
    let u : IsChosen R es = round_chosen R ps rows ms path from (length path) es g n.rows d r refl (record { above = omega (arith, b.0); is = e }) in
    let l : length es ≡ length path - from = ap length e ∙ length-map-range_with_len (λ k. (pair_at ps (get_or path k 0)).a) from (length path - from) in
    (chosen_is_cycle R ps rows n g es u (omega (arith, l, b.1, d.marks.len, n.few)), ((u.z 0, u.start.has), u))
