-- The listed ranks show that each point is finite, and a covering cycle that its pair recurs.
use Rattle.std.proofs.Common.{◌≡◌, ◌≢◌, inl, ℕ, zero, suc, ◌+◌, ◌≤◌, List, length, ℤ, pos, ap, ap₂, sym, ◌∙◌, arith, refl, add-zero, get_or}
use Rattle.std.proofs.Math.Nat.{add-mod_left}
use Rattle.srs_num.specs.declared.pairs.V2.{V2}
use Rattle.srs_num.specs.Points.{Point}
use Rattle.srs_map.specs.Step.{pair, origin, step_of, after}
use Rattle.srs_map.specs.Finiteness.{IsFinite, Recurs}
use Rattle.srs_map.proofs.Brunotte.{brunotte}
use Rattle.srs_map.proofs.Cycles.{after-add}
use Rattle.srs_map.proofs.FormStep.{step_by_forms}
use Rattle.srs_plane.specs.Regions.{Area, IsIn}
use Rattle.srs_path.specs.Witnesses.{IsWitness, unit, link}
use Rattle.srs_path.specs.Core.{IsRank, AreRanks}
use Rattle.srs_path.specs.Cutout.{entry_at, Covers}

abbrev Reaches : Point → V2 → Type 0
Reaches r w = (n : ℕ) × (after n r w ≡ origin)

module _ (R : Area) (entries : List (V2 × ℕ)) (ranks : AreRanks R entries) (r : Point) (i : IsIn R r) where
  ahead : (w : V2) → IsWitness R w → IsWitness R (step_of r w)
  ahead w h = link r i (inl refl) h

  -- a witness of rank at most n reaches (0, 0)
  reach_by : (n : ℕ) (w : V2) → IsWitness R w → (m : ℕ) → IsRank R w m → m ≤ n → Reaches r w
  reach_by n w h zero k le = (0, k.walk)
  reach_by zero w h (suc m) k le = absurd (omega arith)
  reach_by (suc n) w h (suc m) k le =
      let t = ranks.each_witness (step_of r w) (ahead w h) in
      let rank : IsRank R (step_of r w) t.0 = (ranks.each_entry (step_of r w) t.0 t.1).1 in
      let step : suc t.0 ≤ suc m = k.longest (suc t.0) (k.walk.0, (step_of r w, (r, i, refl), rank.walk)) in
      let f = reach_by n (step_of r w) (ahead w h) t.0 rank (omega arith) in
      (f.0 + 1, after-add f.0 1 r w ∙ f.1)

  reach : (w : V2) → IsWitness R w → Reaches r w
  reach w h = let t = ranks.each_witness w h in reach_by t.0 w h t.0 (ranks.each_entry w t.0 t.1).1 (omega arith)

  -- each point of a region whose witnesses have ranks is finite
  pub inside_sound : IsFinite r
  inside_sound = brunotte r (IsWitness R) i.is_point (record {
    units = λ w u. unit u;
    closed = λ w v h l. link r i l h;
    reaches = reach;
  })

module _ (R : Area) (c : List ℤ) (covers : Covers R c) (r : Point) (i : IsIn R r) where
  turns : (k : ℕ) → k ≤ length c → after k r (pair (entry_at c 0) (entry_at c 1)) ≡ pair (entry_at c k) (entry_at c (k + 1))
  turns zero h = refl
  turns (suc k) h =
      let e : after k r (pair (entry_at c 0) (entry_at c 1)) ≡ pair (entry_at c k) (entry_at c (k + 1)) = turns k (omega arith) in
      let t = covers r i k (omega arith) in
      let f : step_of r (pair (entry_at c k) (entry_at c (k + 1))) ≡ pair (entry_at c (k + 1)) (entry_at c (k + 2)) = step_by_forms r (entry_at c k) (entry_at c (k + 1)) (entry_at c (k + 2)) i.is_point t.0 t.1 in
      let g : k + 1 ≡ suc k = omega arith in
      let g₂ : k + 2 ≡ suc k + 1 = omega arith in
      ap (step_of r) e ∙ f ∙ ap₂ (λ (x y : ℕ). pair (entry_at c x) (entry_at c y)) g g₂

  -- the first pair of a covering cycle recurs
  pub outside_sound : pair (entry_at c 0) (entry_at c 1) ≢ origin → 1 ≤ length c → Recurs r (pair (entry_at c 0) (entry_at c 1)) (length c)
  outside_sound n some = record {
    not_zero = n;
    some_step = some;
    returns = turns (length c) (omega arith) ∙ ap₂ pair (ap (entry_at c) (sym (add-zero (length c))) ∙ around 0) (around 1);
  }
    where
      around : (k : ℕ) → entry_at c (length c + k) ≡ entry_at c k
      around k = ap (λ (x : ℕ). get_or c x (pos 0)) (add-mod_left (length c) k)
