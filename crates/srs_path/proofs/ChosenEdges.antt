-- The edges of the chosen cycle: at each of its places it holds at some point of the region.
use Rattle.std.proofs.Common.{◌≡◌, ◌≢◌, ℕ, zero, suc, ◌+◌, ◌<◌, ◌≤◌, ◌%◌, List, length, ℤ, pos, arith, ap, ap₂, subst, sym, ◌∙◌, get_or}
use Rattle.std.proofs.Math.Decide.{dec_lt}
use Rattle.std.proofs.Math.Nat.{mod-eq_of_lt, mod-lt, mod_self, suc-mod}
use Rattle.std.proofs.lemmas.List.FromFn.{length-map-range_with_len, get_or-map-range_with_len}
use Rattle.srs_num.specs.declared.pairs.V2.{V2}
use Rattle.srs_num.specs.Points.{Point}
use Rattle.srs_map.specs.Step.{pair, origin, step_of}
use Rattle.srs_map.proofs.FormStep.{forms_by_step}
use Rattle.srs_plane.specs.Regions.{Area, IsIn}
use Rattle.srs_path.specs.Witnesses.{HasEdge}
use Rattle.srs_path.specs.Core.{IsInCore}
use Rattle.srs_path.specs.ChosenCycle.{IsChosen}
use Rattle.srs_path.specs.Cutout.{entry_at, HoldsAt}

round_next : (i n : ℕ) → i % n + 1 < n → (i + 1) % n ≡ i % n + 1
round_next i n h =
    let e : i + 1 ≡ suc i = omega arith in
    let l : suc (i % n) < n = omega arith in
    let s : suc (i % n) ≡ i % n + 1 = omega arith in
    ap (λ (x : ℕ). x % n) e ∙ suc-mod i n ∙ mod-eq_of_lt l ∙ s

round_last : (i n : ℕ) → i % n + 1 ≡ n → (i + 1) % n ≡ 0
round_last i n h =
    let e : i + 1 ≡ suc i = omega arith in
    let s : suc (i % n) ≡ n = omega arith in
    ap (λ (x : ℕ). x % n) e ∙ suc-mod i n ∙ ap (λ (x : ℕ). x % n) s ∙ mod_self n

module _ (R : Area) (c : List ℤ) (u : IsChosen R c) where
  pub in_core : (k : ℕ) → k ≤ u.from + u.period → IsInCore R (u.z k)
  in_core zero h = u.start.has
  in_core (suc k) h = let e : k + 1 ≡ suc k = omega arith in subst (λ (x : ℕ). IsInCore R (u.z x)) e (u.go k (omega arith)).has.0

  pub len : length c ≡ u.period
  len = ap length u.entries ∙ length-map-range_with_len (λ k. (u.z k).a) u.from u.period

  -- the first entry of the pair at a place
  pub entry_of : (j : ℕ) (d : ℤ) → j < u.period → get_or c j d ≡ (u.z (u.from + j)).a
  entry_of j d h = ap (λ (x : List ℤ). get_or x j d) u.entries ∙ get_or-map-range_with_len (λ k. (u.z k).a) u.from u.period j (u.from + j) d h (omega arith)

  -- the pair at the place i, counted round
  around : ℕ → V2
  around i = u.z (u.from + i % length c)

  place : (i : ℕ) → i % length c < u.period
  place i = let h : 0 < length c = omega (arith, len, u.some_step) in omega (arith, mod-lt i h, len)

  entry_is : (i : ℕ) → entry_at c i ≡ (around i).a
  unfolding around
  entry_is i = entry_of (i % length c) (pos 0) (place i)

  -- each pair is followed by the next one, and the last by the first
  next : (i : ℕ) → u.z (u.from + i % length c + 1) ≡ around (i + 1)
  unfolding around
  next i = elim (dec_lt (i % length c + 1) (length c)) as (λ _. u.z (u.from + i % length c + 1) ≡ u.z (u.from + (i + 1) % length c)) [
    | yes h ↦ let s : u.from + i % length c + 1 ≡ u.from + (i + 1) % length c = omega (arith, round_next i (length c) h) in ap u.z s
    | no h ↦
        let e : i % length c + 1 ≡ length c = omega (arith, place i, len) in
        let l : u.from + i % length c + 1 ≡ u.from + u.period = omega (arith, e, len) in
        let f : u.from ≡ u.from + (i + 1) % length c = omega (arith, round_last i (length c) e) in
        ap u.z l ∙ u.met_twice ∙ ap u.z f
  ]

  goes_on : (i : ℕ) → HasEdge R (around i) (around (i + 1))
  unfolding around
  goes_on i =
      let e = (u.go (u.from + i % length c) (omega (arith, place i))).has.1 in
      (e.0, e.1, e.2 ∙ next i)

  shown : (i : ℕ) → around i ≡ pair (entry_at c i) (entry_at c (i + 1))
  shown i = let e : (around i).b ≡ (around (i + 1)).a = ap (λ (v : V2). v.a) (goes_on i).2 in
      ap₂ pair (sym (entry_is i)) (e ∙ sym (entry_is (i + 1)))

  pub holds_somewhere : (i : ℕ) → (r : Point) × IsIn R r × HoldsAt c r i
  holds_somewhere i =
      let e = goes_on i in
      let n : i + 1 + 1 ≡ i + 2 = omega arith in
      let s : step_of e.0 (pair (entry_at c i) (entry_at c (i + 1))) ≡ pair (entry_at c (i + 1)) (entry_at c (i + 2)) =
      ap (step_of e.0) (sym (shown i)) ∙ e.2 ∙ shown (i + 1) ∙ ap (λ (k : ℕ). pair (entry_at c (i + 1)) (entry_at c k)) n in
      (e.0, e.1, forms_by_step e.0 (entry_at c i) (entry_at c (i + 1)) (entry_at c (i + 2)) e.1.is_point s)

  pub chosen_some : 1 ≤ length c
  chosen_some = omega (arith, len, u.some_step)

  pub chosen_not_zero : pair (entry_at c 0) (entry_at c 1) ≢ origin
  unfolding around
  chosen_not_zero e = (in_core (u.from + 0 % length c) (omega (arith, place 0))).walks 0 (shown 0 ∙ e)
