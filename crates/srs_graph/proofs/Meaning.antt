-- What the marks of a peeled graph say of the region.
use Rattle.std.proofs.Common.{◌≡◌, ◌≢◌, ℕ, zero, suc, ◌<◌, ◌≤◌, List, length, Bool, true, false, true≢false, Option, None, Some, arith, ap, subst, sym, ◌∙◌, refl}
use Rattle.std.proofs.Math.Decide.{dec_lt}
use Rattle.std.proofs.lemmas.List.{get_or_past, get_or_default}
use Rattle.srs_num.specs.declared.pairs.V2.{V2}
use Rattle.srs_map.specs.Step.{origin}
use Rattle.srs_plane.specs.Regions.{Area}
use Rattle.srs_path.specs.Core.{Wanders, IsInCore, HasNoCore, Settles, IsRank, pair_eq}
use Rattle.srs_path.proofs.WitnessLemmas.{pair-decides}
use Rattle.srs_graph.specs.declared.rows.Row.{Row}
use Rattle.srs_graph.specs.Networks.{pair_at, AreRows, network, IsGraph}
use Rattle.srs_graph.specs.Marks.{mark_at, IsPeeled}

pub none_some : {m : ℕ} → None ≡ Some m → ⊥
none_some q = cc

pub mark_in : (ms : List (Option ℕ)) (i n : ℕ) → mark_at ms i ≡ Some n → i < length ms
mark_in ms i n e = elim (dec_lt i (length ms)) as (λ _. i < length ms) [ yes h ↦ h | no h ↦ absurd (none_some (sym (get_or_past ms i None (omega arith)) ∙ e)) ]

by_mark : {P : Type 0} (o : Option ℕ) → (o ≡ None → P) → ((n : ℕ) → o ≡ Some n → P) → P
by_mark None f g = f refl
by_mark (Some n) f g = g n refl

pub by_origin : {P : Type 0} (w : V2) → (w ≡ origin → P) → (w ≢ origin → P) → P
by_origin {P} w f g = go (pair_eq w origin) refl
  where
    go : (b : Bool) → pair_eq w origin ≡ b → P
    go true t = f ((pair-decides w origin).0 t)
    go false t = g (λ s. true≢false (sym ((pair-decides w origin).1 s) ∙ t))

module _ (R : Area) (ps : List V2) (rows : List Row) (ms : List (Option ℕ)) (g : IsGraph R (network ps rows)) (a : AreRows (length ps) rows) (d : IsPeeled ps rows ms) where
  inside : (i n : ℕ) → mark_at ms i ≡ Some n → i < length ps
  inside i n e = omega (arith, mark_in ms i n e, d.marks.len)

  settles : (n i : ℕ) → mark_at ms i ≡ Some n → Settles R n (pair_at ps i)
  settles zero i e = by_origin (pair_at ps i) (λ z. z) (λ z. let x = (d.marks.ranked i 0 e).step z in absurd (omega (arith, x.4)))
  settles (suc n) i e = by_origin (pair_at ps i)
      (λ z. absurd (omega (arith, (d.marks.ranked i (suc n) e).at_zero z)))
      (λ z. let x = (d.marks.ranked i (suc n) e).step z in
      let t : x.1 ≡ n = omega (arith, x.4) in
      (z, (pair_at ps x.0, g.each i x.0 (inside i (suc n) e) x.2, settles n x.0 (x.3 ∙ ap (λ (m : ℕ). Some m) t))))

  longest : (m i n : ℕ) → mark_at ms i ≡ Some n → Settles R m (pair_at ps i) → m ≤ n
  longest zero i n e s = omega arith
  longest (suc m) i n e s =
      let j = g.all i s.1.0 (inside i n e) s.1.1 in
      let q = (d.marks.ranked i n e).falls s.0 j.0 j.1 in
      let k = longest m j.0 q.0 q.1 (subst (Settles R m) (sym j.2) s.1.2) in
      omega (arith, q.2, k)

  pub is_rank : (i n : ℕ) → mark_at ms i ≡ Some n → IsRank R (pair_at ps i) n
  is_rank i n e = record { walk = settles n i e; longest = λ m s. longest m i n e s }

  wanders : (n i : ℕ) → i < length ps → mark_at ms i ≡ None → Wanders R n (pair_at ps i)
  wanders zero i h e = (d.left i h e).not_zero
  wanders (suc n) i h e =
      let o = d.left i h e in
      (o.not_zero, (pair_at ps o.on.next, g.each i o.on.next h o.on.in_row, wanders n o.on.next (omega (arith, o.on.in_row.1, a.within i h)) o.on.no_mark))

  pub open_in_core : (i : ℕ) → i < length ps → mark_at ms i ≡ None → IsInCore R (pair_at ps i)
  open_in_core i h e = record { witness = g.witnesses.each (pair_at ps i) (i, h, get_or_default ps i (pair_at ps i) origin h); walks = λ n. wanders n i h e }

  no_walk : (n i q : ℕ) → q ≤ n → mark_at ms i ≡ Some q → ¬ Wanders R n (pair_at ps i)
  no_walk zero i q l e k = let x = (d.marks.ranked i q e).step k in omega (arith, x.4)
  no_walk (suc n) i q l e k =
      let j = g.all i k.1.0 (inside i q e) k.1.1 in
      let x = (d.marks.ranked i q e).falls k.0 j.0 j.1 in
      no_walk n j.0 x.0 (omega (arith, x.2)) x.1 (subst (Wanders R n) (sym j.2) k.1.2)

  pub core_open : (w : V2) → IsInCore R w → (i : ℕ) × (i < length ps) × (pair_at ps i ≡ w) × (mark_at ms i ≡ None)
  core_open w c =
      let t = g.witnesses.all w c.witness in
      let s : pair_at ps t.0 ≡ w = get_or_default ps t.0 origin w t.1 ∙ t.2 in
      by_mark (mark_at ms t.0)
      (λ e. (t.0, t.1, s, e))
      (λ q e. absurd (no_walk q t.0 q (omega arith) e (subst (Wanders R q) (sym s) (c.walks q))))

  pub all_marked_empty : ((i : ℕ) → i < length ps → (n : ℕ) × (mark_at ms i ≡ Some n)) → HasNoCore R
  all_marked_empty f w c =
      let t = core_open w c in
      let x = f t.0 t.1 in none_some (sym t.3 ∙ x.1)
