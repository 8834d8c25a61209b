-- A region has one chosen cycle at most.
use Rattle.std.proofs.Common.{◌≡◌, ℕ, zero, suc, ◌+◌, ◌<◌, ◌≤◌, List, ◌∷◌, map, ℤ, sym, subst, ap, ap₂, ◌∙◌, arith, refl, add-one}
use Rattle.std.proofs.Math.Decide.{dec_lt}
use Rattle.std.specs.List.{range_with_len}
use Rattle.std.proofs.lemmas.Int.{ints}
use Rattle.srs_num.specs.declared.pairs.V2.{V2}
use Rattle.srs_map.specs.Step.{pair}
use Rattle.srs_plane.specs.Regions.{Area}
use Rattle.srs_path.specs.Witnesses.{HasEdge}
use Rattle.srs_path.specs.Core.{IsInCore}
use Rattle.srs_path.specs.ChosenCycle.{IsLeast, IsChosen, NotAfter}

not_after_both : (v w : V2) → NotAfter v w → NotAfter w v → v ≡ w
not_after_both v w h k =
    let a : v.a ≡ w.a = omega (arith, ints, h.0, k.0) in
    let b : v.b ≡ w.b = omega (arith, ints, h.1 a, k.1 (sym a)) in
    ap₂ pair a b

least_once : (P : V2 → Type 0) (v w : V2) → IsLeast P v → IsLeast P w → v ≡ w
least_once P v w h k = not_after_both v w (h.least w k.has) (k.least v h.has)

same_map : (f g : ℕ → V2) (a n : ℕ) → ((k : ℕ) → a ≤ k → k < a + n → f k ≡ g k) → map (λ k. (f k).a) (range_with_len a n) ≡ map (λ k. (g k).a) (range_with_len a n)
same_map f g a zero same = refl
same_map f g a (suc n) same =
    ap₂ (λ (x : ℤ) (xs : List ℤ). x ∷ xs) (ap (λ (v : V2). v.a) (same a (omega arith) (omega arith)))
    (same_map f g (a + 1) n (λ k low high. same k (omega arith) (omega arith)))

pub by_lt : {P : Type 0} (a b : ℕ) → (a < b → P) → (a ≡ b → P) → (b < a → P) → P
by_lt {P} a b l e g = elim (dec_lt a b) as (λ _. P) [ yes h ↦ l h | no h ↦ elim (dec_lt b a) as (λ _. P) [ yes k ↦ g k | no k ↦ e (omega arith) ] ]

module _ (R : Area) where
  same_z : (c d : List ℤ) (u : IsChosen R c) (v : IsChosen R d) (k : ℕ) → k ≤ u.from + u.period → k ≤ v.from + v.period → u.z k ≡ v.z k
  same_z c d u v zero h g = least_once (IsInCore R) _ _ u.start v.start
  same_z c d u v (suc k) h g =
      let e : u.z k ≡ v.z k = same_z c d u v k (omega arith) (omega arith) in
      let p : IsLeast (λ w. IsInCore R w × HasEdge R (u.z k) w) (u.z (suc k)) = rw add-one at (u.go k (omega arith)) in
      let q : IsLeast (λ w. IsInCore R w × HasEdge R (v.z k) w) (v.z (suc k)) = rw add-one at (v.go k (omega arith)) in
      least_once (λ w. IsInCore R w × HasEdge R (v.z k) w) _ _ (subst (λ (x : V2). IsLeast (λ w. IsInCore R w × HasEdge R x w) (u.z (suc k))) e p) q

  -- the walk that ends later would have met a pair twice before its end
  not_earlier : (c d : List ℤ) (u : IsChosen R c) (v : IsChosen R d) → u.from + u.period < v.from + v.period → ⊥
  not_earlier c d u v h =
      let n : ℕ = u.from + u.period in
      v.first u.from (u.from + u.period) (omega (arith, u.some_step)) h
      (sym (same_z c d u v u.from (omega arith) (omega arith)) ∙ sym u.met_twice ∙ same_z c d u v (u.from + u.period) (omega arith) (omega arith))

  not_lower : (c d : List ℤ) (u : IsChosen R c) (v : IsChosen R d) → u.from + u.period ≡ v.from + v.period → u.from < v.from → ⊥
  not_lower c d u v e h =
      v.first u.from v.from h (omega (arith, v.some_step))
      (sym (same_z c d u v u.from (omega arith) (omega arith)) ∙ sym u.met_twice ∙ same_z c d u v (u.from + u.period) (omega arith) (omega arith)
      ∙ ap v.z e ∙ v.met_twice)

  pub chosen_once : (c d : List ℤ) → IsChosen R c → IsChosen R d → c ≡ d
  chosen_once c d u v = by_lt (u.from + u.period) (v.from + v.period)
      (λ h. absurd (not_earlier c d u v h))
      (λ e. by_lt u.from v.from (λ h. absurd (not_lower c d u v e h))
      (λ f. let g : u.period ≡ v.period = omega arith in
      u.entries ∙ same_map u.z v.z u.from u.period (λ k low high. same_z c d u v k (omega arith) (omega arith))
      ∙ ap₂ (λ (a n : ℕ). map (λ k. (v.z k).a) (range_with_len a n)) f g ∙ sym v.entries)
      (λ h. absurd (not_lower d c v u (sym e) h)))
      (λ h. absurd (not_earlier d c v u h))
