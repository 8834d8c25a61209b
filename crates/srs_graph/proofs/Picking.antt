-- How the core and the ranks are listed.
use Rattle.std.proofs.Common.{◌≡◌, inl, inr, ℕ, ◌+◌, ◌<◌, List, [], ◌∷◌, ◌++◌, length, Option, None, Some, arith, ap, subst, sym, ◌∙◌, refl, get_or, length-append, lit<, map, ℤ, pos, unsigned_abs, ◌≤◌, ◌≤ℤ◌}
use Rattle.std.proofs.lemmas.Int.{ints}
use Rattle.std.specs.Prelude.{Contains, AllPairs, is_some, true, IfSome, IfNone, MatchOption}
use Rattle.std.proofs.Common.{true≢false}
use Rattle.std.proofs.Math.Decide.{dec_lt}
use Rattle.std.proofs.Math.Seq.{get_or-append_seam}
use Rattle.std.proofs.lemmas.List.{get_or_append_left, get_or_default, get_or-map, length-map}
use Rattle.std.proofs.lemmas.Slice.Zip.{get_or-zip}
use Rattle.std.proofs.lemmas.List.Quantifiers.{all_pairs_push}
use Rattle.std.proofs.lemmas.List.Elements.{All-from_get_or, Contains-append_left, Contains-append_right, Contains-append_cases}
use Rattle.srs_num.specs.declared.pairs.V2.{V2}
use Rattle.srs_map.specs.Step.{origin}
use Rattle.srs_path.specs.Witnesses.{IsWitness}
use Rattle.srs_plane.specs.Regions.{Area}
use Rattle.srs_path.specs.Lists.{ranked, MakesRanks}
use Rattle.srs_path.proofs.Ranked.{length-ranked}
use Rattle.srs_path.specs.Core.{IsInCore, HasCore, HasNoCore, AreRanks, IsRank, Precedes}
use Rattle.srs_wit.proofs.Adding.{contains_one}
use Rattle.srs_graph.specs.declared.rows.Row.{Row}
use Rattle.srs_graph.specs.Networks.{pair_at, AreRows, network, IsNetwork, IsGraph}
use Rattle.srs_graph.specs.Marks.{mark_at, IsPeeled}
use Rattle.srs_graph.specs.Listings.{AreTheCore, AreOpenPairs, HasOpenPlace, AreNumbers}
use Rattle.srs_graph.proofs.Meaning.{is_rank, open_in_core, core_open, all_marked_empty, none_some}

-- an option that can't be `None`
pub found_some : {A : Type 0} (N M : Type 0) (Q : A → Type 0) (o : Option A) (x : A) → IfSome o (λ y. y ≡ x) → IfNone o (M → ⊥) → M → Q x → MatchOption o N Q
found_some N M Q None x s n m q = absurd (n m)
found_some N M Q (Some y) x s n m q = subst Q (sym s) q

module _ (ps : List V2) (ms : List (Option ℕ)) where
  pub picked_none : AreOpenPairs ps ms 0 []
  picked_none = record { ascending = λ _ i j d h l. absurd (omega arith); each = λ w c. absurd (omega (arith, c.1)); all = λ i h. absurd (omega arith) }

  pub picked_skip : (k n : ℕ) (ws : List V2) → AreOpenPairs ps ms k ws → mark_at ms k ≡ Some n → AreOpenPairs ps ms (k + 1) ws
  picked_skip k n ws p e = record {
    ascending = p.ascending;
    each = λ w c. let x = p.each w c in (x.0, omega (arith, x.1), x.2, x.3);
    all = λ i h f. elim (dec_lt i k) as (λ _. Contains ws (pair_at ps i)) [
      | yes l ↦ p.all i l f
      | no l ↦ let s : i ≡ k = omega arith in absurd (none_some (sym f ∙ ap (mark_at ms) s ∙ e))
    ];
  }

  pub picked_more : (k : ℕ) (ws : List V2) (w : V2) → AreOpenPairs ps ms k ws → k < length ps → w ≡ pair_at ps k → mark_at ms k ≡ None → AreOpenPairs ps ms (k + 1) (ws ++ w ∷ [])
  picked_more k ws w p h s e = record {
    ascending = λ a. all_pairs_push Precedes ws w (p.ascending a) (λ j d l. below a j d l);
    each = λ v c. elim (Contains-append_cases ws (w ∷ []) v c) [
      | inl x ↦ let y = p.each v x in (y.0, omega (arith, y.1), y.2, y.3)
      | inr x ↦ (k, omega arith, sym s ∙ sym (contains_one w v x), e)
    ];
    all = λ i l f. elim (dec_lt i k) as (λ _. Contains (ws ++ w ∷ []) (pair_at ps i)) [
      | yes m ↦ Contains-append_left ws (w ∷ []) (pair_at ps i) (p.all i m f)
      | no m ↦ let t : k ≡ i = omega arith in
          subst (Contains (ws ++ w ∷ [])) (s ∙ ap (pair_at ps) t) (Contains-append_right ws (w ∷ []) w (0, lit< tt, refl))
    ];
  }
    where
      below : AllPairs Precedes ps → (j : ℕ) (d : V2) → j < length ws → Precedes (get_or ws j d) w
      below a j d l =
          let x = p.each (get_or ws j d) (j, l, get_or_default ws j (get_or ws j d) d l) in
          subst (Precedes (get_or ws j d)) (sym s) (subst (λ (v : V2). Precedes v (pair_at ps k)) x.2 (a x.0 k origin x.1 h))

pub core_list : (R : Area) (ps : List V2) (rows : List Row) (ms : List (Option ℕ)) (k : ℕ) (ws : List V2) → IsGraph R (network ps rows) → AreRows (length ps) rows → IsPeeled ps rows ms → k ≡ length ps → AreOpenPairs ps ms k ws → AreTheCore R ws
core_list R ps rows ms k ws g a d e p = record {
  ascending = p.ascending g.witnesses.ascending;
  each = λ w c. let x = p.each w c in subst (IsInCore R) x.2 (open_in_core R ps rows ms g a d x.0 (omega (arith, x.1)) x.3);
  all = λ w c. let x = core_open R ps rows ms g a d w c in subst (Contains ws) x.2 (p.all x.0 (omega (arith, x.1)) x.3);
}

abbrev pub none_entry : V2 × ℕ
none_entry = (origin, 0)

-- the marks at the first k places, as numbers
module _ (ms : List (Option ℕ)) where
  pub numbers_none : AreNumbers ms 0 []
  numbers_none = record { len = refl; each = λ i h. absurd (omega arith) }

  pub numbers_more : (k n : ℕ) (zs : List ℤ) (z : ℤ) → AreNumbers ms k zs → mark_at ms k ≡ Some n → z ≡ pos n → AreNumbers ms (k + 1) (zs ++ z ∷ [])
  numbers_more k n zs z p e f = record {
    len = omega (arith, length-append zs (z ∷ []), p.len);
    each = λ i h. elim (dec_lt i k) as (λ _. (m : ℕ) × (mark_at ms i ≡ Some m) × (get_or (zs ++ z ∷ []) i (pos 0) ≡ pos m)) [
      | yes l ↦ let x = p.each i l in (x.0, x.1, get_or_append_left zs (z ∷ []) (pos 0) i (omega (arith, p.len)) ∙ x.2)
      | no l ↦ let t : k ≡ i = omega arith in (n, ap (mark_at ms) (sym t) ∙ e, ap (λ (x : ℕ). get_or (zs ++ z ∷ []) x (pos 0)) (sym t ∙ sym p.len) ∙ get_or-append_seam zs z [] (pos 0) ∙ f)
    ];
  }

-- the pairs with their marks
pub record Listed (ps : List V2) (ms : List (Option ℕ)) (es : List (V2 × ℕ)) : Type 0 where
  pub len : length es ≡ length ps
  pub pairs : (i : ℕ) → i < length ps → (get_or es i none_entry).0 ≡ pair_at ps i
  pub marks : (i : ℕ) → i < length ps → mark_at ms i ≡ Some (get_or es i none_entry).1

pub ranked_lists : (ps : List V2) (ms : List (Option ℕ)) (zs : List ℤ) → AreNumbers ms (length ps) zs → Listed ps ms (ranked ps zs)
ranked_lists ps ms zs p = record {
  len = length-ranked ps zs (sym p.len);
  pairs = λ i h. ap (λ (x : V2 × ℕ). x.0) (entry i h);
  marks = λ i h. let x = p.each i h in x.1 ∙ ap (λ (n : ℕ). Some n) (sym (ap unsigned_abs x.2)) ∙ ap (λ (x : V2 × ℕ). Some x.1) (sym (entry i h));
}
  where
    entry : (i : ℕ) → i < length ps → get_or (ranked ps zs) i none_entry ≡ (pair_at ps i, unsigned_abs (get_or zs i (pos 0)))
    entry i h =
        get_or-zip ps (map unsigned_abs zs) i none_entry h (omega (arith, p.len, length-map zs unsigned_abs))
        ∙ ap (λ (n : ℕ). (pair_at ps i, n)) (get_or-map unsigned_abs zs i (pos 0) 0 (omega (arith, p.len)))

pub all_ranks : (R : Area) (ps : List V2) (rows : List Row) (ms : List (Option ℕ)) (es : List (V2 × ℕ)) → IsGraph R (network ps rows) → AreRows (length ps) rows → IsPeeled ps rows ms → Listed ps ms es → HasNoCore R × AreRanks R es
all_ranks R ps rows ms es g a d p = (
  all_marked_empty R ps rows ms g a d (λ i h. ((get_or es i none_entry).1, p.marks i (omega arith))),
  record { ascending = ascending; each_witness = each_witness; each_entry = each_entry },
)
  where
    ascending : AllPairs (λ (x y : V2 × ℕ). Precedes x.0 y.0) es
    ascending i j t h l =
        let u : (get_or es i t).0 ≡ pair_at ps i = ap (λ (x : V2 × ℕ). x.0) (get_or_default es i t none_entry (omega arith)) ∙ p.pairs i (omega (arith, p.len)) in
        let v : (get_or es j t).0 ≡ pair_at ps j = ap (λ (x : V2 × ℕ). x.0) (get_or_default es j t none_entry l) ∙ p.pairs j (omega (arith, p.len)) in
        subst (λ (x : V2). Precedes x (get_or es j t).0) (sym u) (subst (Precedes (pair_at ps i)) (sym v) (g.witnesses.ascending i j origin h (omega (arith, p.len))))

    each_witness : (w : V2) → IsWitness R w → (n : ℕ) × Contains es (w, n)
    each_witness w h =
        let t = g.witnesses.all w h in
        let s : pair_at ps t.0 ≡ w = get_or_default ps t.0 origin w t.1 ∙ t.2 in
        let n : ℕ = (get_or es t.0 none_entry).1 in
        (n, (t.0, omega (arith, t.1, p.len), get_or_default es t.0 (w, n) none_entry (omega (arith, t.1, p.len)) ∙ ap (λ (x : V2). (x, n)) (p.pairs t.0 (omega (arith, t.1)) ∙ s)))

    each_entry : (w : V2) (n : ℕ) → Contains es (w, n) → IsWitness R w × IsRank R w n
    each_entry w n c =
        let s : get_or es c.0 none_entry ≡ (w, n) = get_or_default es c.0 none_entry (w, n) c.1 ∙ c.2 in
        let h : c.0 < length ps = omega (arith, c.1, p.len) in
        let u : pair_at ps c.0 ≡ w = sym (p.pairs c.0 (omega (arith, h))) ∙ ap (λ (x : V2 × ℕ). x.0) s in
        let m : mark_at ms c.0 ≡ Some n = p.marks c.0 (omega (arith, h)) ∙ ap (λ (x : V2 × ℕ). Some x.1) s in
        (subst (IsWitness R) u (g.witnesses.each (pair_at ps c.0) (c.0, h, get_or_default ps c.0 (pair_at ps c.0) origin h)), subst (λ (x : V2). IsRank R x n) u (is_rank R ps rows ms g a d c.0 n m))

-- a mark as the code reads it
pub mark_read : (ms : List (Option ℕ)) (i : ℕ) (o p : Option ℕ) → i < length ms → o ≡ get_or ms i o → o ≡ p → mark_at ms i ≡ p
mark_read ms i o p h e f = get_or_default ms i None o h ∙ sym e ∙ f

pub picked_along : (ps : List V2) (ms : List (Option ℕ)) (k : ℕ) (a b : List V2) → a ≡ b → AreOpenPairs ps ms k b → AreOpenPairs ps ms k a
picked_along ps ms k a b e p = subst (AreOpenPairs ps ms k) (sym e) p

pub some_of : (o : Option ℕ) → is_some o ≡ true → (n : ℕ) × (o ≡ Some n)
some_of None e = absurd (true≢false (sym e))
some_of (Some n) e = (n, refl)

-- a place with no mark is in the core
pub open_has_core : (R : Area) (ps : List V2) (rows : List Row) (ms : List (Option ℕ)) → IsGraph R (network ps rows) → AreRows (length ps) rows → IsPeeled ps rows ms → HasOpenPlace ms → HasCore R
open_has_core R ps rows ms g a d o = (pair_at ps o.0, open_in_core R ps rows ms g a d o.0 (omega (arith, o.1, d.marks.len)) o.2)

-- the marks make ranks
pub makes_ranks : (ps : List V2) (rows : List Row) (ms : List (Option ℕ)) (zs : List ℤ) → IsNetwork (network ps rows) → IsPeeled ps rows ms → AreNumbers ms (length ps) zs → MakesRanks ps zs
makes_ranks ps rows ms zs g d p = record {
  same = sym p.len;
  some = g.some;
  short = g.few;
  ascending = g.ascending;
  narrow = g.narrow;
  within = All-from_get_or (λ z. (pos 0 ≤ℤ z) × (z ≤ℤ pos 16384)) zs (pos 0) within;
}
  where
    within : (i : ℕ) → i < length zs → (pos 0 ≤ℤ get_or zs i (pos 0)) × (get_or zs i (pos 0) ≤ℤ pos 16384)
    within i h =
        let x = p.each i (omega (arith, p.len)) in
        let l = d.marks.low i x.0 x.1 in
        low (get_or zs i (pos 0)) x.0 x.2 (omega (arith, l, d.marks.len, g.few))
      where
        low : (z : ℤ) (n : ℕ) → z ≡ pos n → n ≤ 16384 → (pos 0 ≤ℤ z) × (z ≤ℤ pos 16384)
        low z n e h = (omega (arith, ints), omega (arith, ints))
