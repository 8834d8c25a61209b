-- The successors of a pair stand side by side in the ascending list.
use Rattle.std.proofs.Common.{◌≡◌, ◌≢◌, inl, get_or, ℕ, zero, suc, ◌+◌, ◌-◌, ◌<◌, ◌≤◌, List, [], ◌∷◌, ◌++◌, length, ℤ, pos, negsuc, ◌+ℤ◌, ◌-ℤ◌, ◌≤ℤ◌, arith, ap, subst, sym, ◌∙◌, refl, length-append}
use Rattle.std.specs.Prelude.{Contains, AllPairs}
use Rattle.std.proofs.Math.Decide.{dec_lt}
use Rattle.std.proofs.Math.Seq.{get_or-append_seam}
use Rattle.std.proofs.lemmas.List.{get_or_append_left, get_or_default}
use Rattle.std.proofs.lemmas.Int.{ints}
use Rattle.std.proofs.lemmas.List.Elements.{Contains-get_or}
use Rattle.srs_num.specs.declared.pairs.V2.{V2}
use Rattle.srs_map.specs.Step.{pair, origin, step_of}
use Rattle.srs_plane.specs.Regions.{Area, HasPoint}
use Rattle.srs_path.specs.Witnesses.{IsWitness, HasEdge, unit, link, IsSmall}
use Rattle.srs_map.specs.Links.{right}
use Rattle.srs_path.specs.Core.{Precedes}
use Rattle.srs_path.specs.ChosenCycle.{NotAfter}
use Rattle.srs_cell.specs.Moves.{LeadsTo, AreMoves}
use Rattle.srs_wit.specs.Listing.{AreAllWitnesses}
use Rattle.srs_graph.specs.declared.rows.Row.{Row}
use Rattle.srs_graph.specs.Networks.{pair_at, row_at, IsInRow, AreRows, IsRowOf, AreRowsOf, network, IsNetwork, IsGraph}
use Rattle.srs_graph.proofs.Marking.{by_eq}

not_itself : (v : V2) → Precedes v v → ⊥
not_itself v b = omega (arith, ints, b.1 refl)

-- the difference of two whole numbers in order
nat_of : (low j : ℤ) → low ≤ℤ j → (k : ℕ) × (j ≡ low +ℤ pos k)
nat_of low j h = go (j -ℤ low) refl
  where
    go : (z : ℤ) → j -ℤ low ≡ z → (k : ℕ) × (j ≡ low +ℤ pos k)
    go (pos k) e = (k, omega (arith, ints, e))
    go (negsuc k) e = absurd (omega (arith, ints, e))

-- the span of a region with a point has a number
pub some_number : (R : Area) (w : V2) (low high : ℤ) → AreMoves (LeadsTo R) w low high → HasPoint R → low ≤ℤ high
some_number R w low high m p = let t = m.all (step_of p.0 w).b (p.0, p.1, refl) in by_parts (step_of p.0 w).b t.0 t.1
  where
    by_parts : (j : ℤ) → low ≤ℤ j → j ≤ℤ high → low ≤ℤ high
    by_parts j u v = omega (arith, ints)

-- and the pair of its least number is a witness
pub first_listed : (R : Area) (ps : List V2) (w : V2) (low high : ℤ) → AreAllWitnesses R ps → IsWitness R w → AreMoves (LeadsTo R) w low high → HasPoint R → Contains ps (pair w.b low)
first_listed R ps w low high a h m p =
    let e = m.each low (omega (arith, ints)) (some_number R w low high m p) in
    a.all (pair w.b low) (link e.0 e.1 (inl (sym e.2)) h)

module _ (R : Area) (ps : List V2) (w : V2) (low high : ℤ) (n : ℕ) (a : AreAllWitnesses R ps) (h : IsWitness R w) (m : AreMoves (LeadsTo R) w low high) (c : low +ℤ pos n ≡ high +ℤ pos 1) where
  pub listed : (k : ℕ) → k < n → Contains ps (pair w.b (low +ℤ pos k))
  listed k l =
      let e = m.each (low +ℤ pos k) (omega (arith, ints)) (omega (arith, ints, c)) in
      a.all (pair w.b (low +ℤ pos k)) (link e.0 e.1 (inl (sym e.2)) h)

  not_empty : HasPoint R → 0 < n
  not_empty p = omega (arith, ints, c, some_number R w low high m p)

  -- the place t of the step_of number is one more
  next_place : (b : ℤ) (i t : ℕ) (x y : ℤ) → y ≡ x +ℤ pos 1 → i < length ps → t < length ps → pair_at ps i ≡ pair b x → pair_at ps t ≡ pair b y → t ≡ i + 1
  next_place b i t x y s li lt ei et = elim (dec_lt i t) as (λ _. t ≡ i + 1) [
    | no g ↦ by_eq t i
        (λ q. let u : pair b y ≡ pair b x = sym et ∙ ap (pair_at ps) q ∙ ei in absurd (omega (arith, ints, ap (λ (v : V2). v.b) u)))
        (λ q. let u : Precedes (pair_at ps t) (pair_at ps i) = a.ascending t i origin (omega arith) li in
        let v : Precedes (pair b y) (pair b x) = subst (λ (z : V2). Precedes z (pair b x)) et (subst (Precedes (pair_at ps t)) ei u) in
        absurd (omega (arith, ints, v.1 refl)))
    | yes g ↦ elim (dec_lt (i + 1) t) as (λ _. t ≡ i + 1) [
      | no q ↦ omega arith
      | yes q ↦
          let u : Precedes (pair b x) (pair_at ps (i + 1)) = subst (λ (z : V2). Precedes z (pair_at ps (i + 1))) ei (a.ascending i (i + 1) origin (omega arith) (omega arith)) in
          let v : Precedes (pair_at ps (i + 1)) (pair b y) = subst (Precedes (pair_at ps (i + 1))) et (a.ascending (i + 1) t origin q lt) in
          absurd (between (pair_at ps (i + 1)) u v)
    ]
  ]
    where
      between : (z : V2) → Precedes (pair b x) z → Precedes z (pair b y) → ⊥
      between z u v =
          let e : b ≡ z.a = omega (arith, ints, u.0, v.0) in
          let p = u.1 e in
          let q = v.1 (sym e) in
          omega (arith, ints, p, q)

  module _ (s : ℕ) (ls : s < length ps) (e : pair_at ps s ≡ pair w.b low) where
    run : (k : ℕ) → k < n → (s + k < length ps) × (pair_at ps (s + k) ≡ pair w.b (low +ℤ pos k))
    run zero l =
        let z : s ≡ s + 0 = omega arith in
        let y : low ≡ low +ℤ pos 0 = omega (arith, ints) in
        (omega arith, subst (λ (x : ℕ). pair_at ps x ≡ pair w.b (low +ℤ pos 0)) z (e ∙ ap (pair w.b) y))
    run (suc k) l =
        let p = run k (omega arith) in
        let t = listed (suc k) l in
        let et : pair_at ps t.0 ≡ pair w.b (low +ℤ pos (suc k)) = get_or_default ps t.0 origin (pair w.b (low +ℤ pos (suc k))) t.1 ∙ t.2 in
        let q : t.0 ≡ s + k + 1 = next_place w.b (s + k) t.0 (low +ℤ pos k) (low +ℤ pos (suc k)) (omega (arith, ints)) p.0 t.1 p.1 et in
        let f : t.0 ≡ s + suc k = omega arith in
        (omega (arith, t.1), subst (λ (x : ℕ). pair_at ps x ≡ pair w.b (low +ℤ pos (suc k))) f et)

    pub row_is : HasPoint R → IsRowOf R ps w (record { start = s; len = n })
    row_is p = record {
      some = not_empty p;
      within = within;
      each = λ j i. each j (j - s) (omega (arith, i.0)) (omega (arith, i.0, i.1));
      all = all;
    }
      where
        within : s + n ≤ length ps
        within = let z = not_empty p in let r = run (n - 1) (omega arith) in omega (arith, r.0)

        each : (j k : ℕ) → s + k ≡ j → k < n → HasEdge R w (pair_at ps j)
        each j k f l =
            let r = run k l in
            subst (HasEdge R w) (sym r.1 ∙ ap (pair_at ps) f) (m.each (low +ℤ pos k) (omega (arith, ints)) (omega (arith, ints, c)))

        all : (v : V2) → HasEdge R w v → (j : ℕ) × IsInRow (record { start = s; len = n }) j × (pair_at ps j ≡ v)
        all v x =
            let f : pair w.b v.b ≡ v = ap (λ (z : ℤ). pair z v.b) (ap (λ (u : V2). u.a) x.2) in
            let t = m.all v.b (subst (HasEdge R w) (sym f) x) in
            let k = nat_of low v.b t.0 in
            let l : k.0 < n = omega (arith, ints, c, t.1, k.1) in
            let r = run k.0 l in
            (s + k.0, (omega arith, omega arith), r.1 ∙ ap (pair w.b) (sym k.1) ∙ f)

-- the rows of the first k pairs
pub record RowsTo (R : Area) (ps : List V2) (k : ℕ) (rows : List Row) : Type 0 where
  pub len : length rows ≡ k
  pub each : (i : ℕ) → i < k → IsRowOf R ps (pair_at ps i) (row_at rows i)

abbrev no_row : Row
no_row = record { start = 0; len = 0 }

module _ (R : Area) (ps : List V2) where
  pub rows_none : RowsTo R ps 0 []
  rows_none = record { len = refl; each = λ i h. absurd (omega arith) }

  pub rows_more : (k : ℕ) (rows : List Row) (w : V2) (r : Row) → RowsTo R ps k rows → w ≡ pair_at ps k → IsRowOf R ps w r → RowsTo R ps (k + 1) (rows ++ r ∷ [])
  rows_more k rows w r p s e = record {
    len = omega (arith, length-append rows (r ∷ []), p.len);
    each = λ i h. elim (dec_lt i k) as (λ _. IsRowOf R ps (pair_at ps i) (row_at (rows ++ r ∷ []) i)) [
      | yes l ↦ subst (IsRowOf R ps (pair_at ps i)) (sym (get_or_append_left rows (r ∷ []) no_row i (omega (arith, p.len)))) (p.each i l)
      | no l ↦ let t : k ≡ i = omega arith in
          subst (IsRowOf R ps (pair_at ps i)) (sym (new i t)) (subst (λ (v : V2). IsRowOf R ps v r) (s ∙ ap (pair_at ps) t) e)
    ];
  }
    where
      new : (i : ℕ) → k ≡ i → row_at (rows ++ r ∷ []) i ≡ r
      new i t = ap (row_at (rows ++ r ∷ [])) (sym t ∙ sym p.len) ∙ get_or-append_seam rows r [] no_row

  pub all_rows : (k : ℕ) (rows : List Row) → k ≡ length ps → RowsTo R ps k rows → AreRowsOf R ps rows
  all_rows k rows e p = record { len = omega (arith, p.len); each = λ i h. p.each i (omega arith) }

  pub rows_are : (rows : List Row) → AreRowsOf R ps rows → AreRows (length ps) rows
  rows_are rows p = record { len = p.len; some = λ i h. (p.each i h).some; within = λ i h. (p.each i h).within }

  -- the graph of a small region
  pub network_of : (rows : List Row) → AreAllWitnesses R ps → IsSmall R 16384 → AreRowsOf R ps rows → IsNetwork (network ps rows)
  network_of rows a s p = record {
    rows = rows_are rows p;
    some = let t = a.all (pair (pos 1) (pos 0)) (unit right) in omega (arith, t.1);
    few = s.few ps (record { different = different; each = a.each });
    ascending = a.ascending;
    narrow = λ i d h. s.narrow (get_or ps i d) (a.each (get_or ps i d) (Contains-get_or ps i d h));
  }
    where
      different : AllPairs ◌≢◌ ps
      different i j d h l e = not_itself (get_or ps j d) (subst (λ (v : V2). Precedes v (get_or ps j d)) e (a.ascending i j d h l))

  pub graph_of : (rows : List Row) → AreAllWitnesses R ps → AreRowsOf R ps rows → IsGraph R (network ps rows)
  graph_of rows a p = record { witnesses = a; each = λ i j h r. (p.each i h).each j r; all = λ i v h x. (p.each i h).all v x }
