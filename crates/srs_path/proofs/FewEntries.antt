-- The outcome of a region has no more entries than the region may have witnesses.
use Rattle.std.proofs.Common.{◌≡◌, ◌≢◌, ℕ, zero, suc, ◌+◌, ◌<◌, ◌≤◌, List, map, length, get_or, refl, sym, ap, subst, ◌∙◌, arith}
use Rattle.std.specs.Prelude.{ℤ, Contains}
use Rattle.std.specs.List.{AllPairs, range_with_len}
use Rattle.std.proofs.lemmas.List.{length-map, get_or-map}
use Rattle.std.proofs.lemmas.List.Elements.{Contains-get_or}
use Rattle.std.proofs.lemmas.List.FromFn.{length-map-range_with_len, get_or-map-range_with_len}
use Rattle.std.proofs.lemmas.Int.{ints}
use Rattle.srs_num.specs.declared.pairs.V2.{V2}
use Rattle.srs_plane.specs.Regions.{Area}
use Rattle.srs_path.specs.Witnesses.{IsWitness}
use Rattle.srs_path.specs.Core.{IsInCore, Precedes}
use Rattle.srs_path.specs.Refinement.{GivesInside, GivesOutside}

not_itself : (v : V2) → Precedes v v → ⊥
not_itself v p = let l = p.1 refl in omega (arith, ints, l)

module _ (R : Area) (W : ℕ) (entries : List (V2 × ℕ)) (g : GivesInside R W entries) where
  abbrev pair_of : V2 × ℕ → V2
  pair_of e = e.0

  at : (i : ℕ) (d : V2) → i < length entries → get_or (map pair_of entries) i d ≡ (get_or entries i (d, 0)).0
  at i d l = get_or-map pair_of entries i (d, 0) d l

  apart : AllPairs ◌≢◌ (map pair_of entries)
  apart i j d l m =
      let n : j < length entries = omega (arith, m, length-map entries pair_of) in
      let k : i < length entries = omega (arith, l, n) in
      λ e. not_itself (get_or entries j (d, 0)).0
      (subst (λ (w : V2). Precedes w (get_or entries j (d, 0)).0) (sym (at i d k) ∙ e ∙ at j d n) (g.ranks.ascending i j (d, 0) l n))

  each : (w : V2) → Contains (map pair_of entries) w → IsWitness R w
  each w c =
      let m = c.1 in
      let n : c.0 < length entries = omega (arith, m, length-map entries pair_of) in
      let e = get_or entries c.0 (w, 0) in
      subst (IsWitness R) (sym (at c.0 w n) ∙ c.2) (g.ranks.each_entry e.0 e.1 (Contains-get_or entries c.0 (w, 0) n)).0

  -- a list of ranks lists each witness once
  pub few_ranks : length entries ≤ W
  few_ranks = subst (λ (n : ℕ). n ≤ W) (length-map entries pair_of) (g.small.few (map pair_of entries) (record { different = apart; each = each }))

module _ (R : Area) (W : ℕ) (cycle : List ℤ) (g : GivesOutside R W cycle) where
  abbrev z : ℕ → V2
  z = g.chosen.z

  abbrev from : ℕ
  from = g.chosen.from

  abbrev period : ℕ
  period = g.chosen.period

  abbrev met : List V2
  met = map z (range_with_len from period)

  in_core : (k : ℕ) → k < from + period → IsInCore R (z k)
  in_core zero l = g.chosen.start.has
  in_core (suc k) l =
      let n : k + 1 ≡ suc k = omega arith in
      subst (λ (m : ℕ). IsInCore R (z m)) n (g.chosen.go k (omega (arith, l))).has.0

  met_at : (i : ℕ) (d : V2) → i < period → get_or met i d ≡ z (from + i)
  met_at i d l = get_or-map-range_with_len z from period i (from + i) d l refl

  within : (i : ℕ) → i < length met → i < period
  within i l = omega (arith, l, length-map-range_with_len z from period)

  met_once : AllPairs ◌≢◌ met
  met_once i j d l m =
      let n : j < period = within j m in
      let k : i < period = omega (arith, l, n) in
      λ e. g.chosen.first (from + i) (from + j) (omega (arith, l)) (omega (arith, n)) (sym (met_at i d k) ∙ e ∙ met_at j d n)

  met_witness : (w : V2) → Contains met w → IsWitness R w
  met_witness w c =
      let n : c.0 < period = within c.0 c.1 in
      subst (IsWitness R) (sym (met_at c.0 w n) ∙ c.2) (in_core (from + c.0) (omega (arith, n))).witness

  -- a chosen cycle meets no pair of the core twice
  pub few_cycle : length cycle ≤ W
  few_cycle =
      let a = g.small.few met (record { different = met_once; each = met_witness }) in
      let b : length cycle ≡ period = ap length g.chosen.entries ∙ length-map-range_with_len (λ k. (z k).a) from period in
      omega (arith, a, b, length-map-range_with_len z from period)
