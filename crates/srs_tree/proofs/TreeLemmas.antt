-- The tree after a cut.
use Rattle.std.proofs.Common.{◌≡◌, inl, inr, ℕ, zero, suc, ◌≤◌, true, false, cond, List, [], ◌∷◌, ◌++◌, length, length-append, take, drop, slice_get, refl, sym, ap, ap₂, subst, ◌∙◌, arith, true≢false, take-append-drop}
use Rattle.std.specs.declared.option.Option.{Option}
use Rattle.std.specs.declared.option.Option.TheVariants.{Some}
use Rattle.srs_plane.specs.Regions.{Area}
use Rattle.srs_path.specs.declared.paths.Side.{Side}
use Rattle.srs_path.specs.declared.outcomes.Outcome.{Outcome}
use Rattle.srs_path.specs.Views.{Entry}
use Rattle.srs_tree.specs.Tree.{History, path_eq, outcome_at, IsCellOf, region_at, cut_half}
use Rattle.srs_tree.specs.Legality.{IsLegal}
use Rattle.srs_tree.proofs.HistoryLemmas.{same_path, outcome_at_stays, IsCellOf_stays, region_at-snoc}

-- the event that gives a path its outcome
pub record EventOf (H : History) (p : List Side) (o : Outcome) : Type 0 where
  pub place : ℕ
  pub event : Entry
  pub is : slice_get H place ≡ Some event
  pub path : event.path ≡ p

pub event_of : (H : History) (p : List Side) (o : Outcome) → outcome_at H p ≡ Some o → EventOf H p o
event_of [] p o e = absurd (let u : true ≡ false = cc in true≢false u)
event_of (x ∷ H) p o e =
    let rest = event_of H p o in
    elim (path_eq x.path p) as (λ b. path_eq x.path p ≡ b → cond b (Some x.outcome) (outcome_at H p) ≡ Some o → EventOf (x ∷ H) p o) [
      | true ↦ λ q f. record { place = 0; event = x; is = refl; path = same_path x.path p q }
      | false ↦ λ q f. let t = rest f in record { place = suc t.place; event = t.event; is = t.is; path = t.path }
    ] refl e

-- in a legal history the path of each outcome is a cell
pub cell_of_outcome : (Root : Area) (W : ℕ) (H : History) → IsLegal Root W H → (p : List Side) (o : Outcome) → outcome_at H p ≡ Some o → IsCellOf (outcome_at H) p
cell_of_outcome Root W H legal p o e =
    let t = event_of H p o e in
    let c : IsCellOf (outcome_at (take t.place H)) p = subst (IsCellOf (outcome_at (take t.place H))) t.path (legal t.place t.event t.is).there in
    subst (λ (K : History). IsCellOf (outcome_at K) p) (take-append-drop t.place H) (IsCellOf_stays (take t.place H) (drop t.place H) p c)

module _ (Root : Area) (W : ℕ) (H : History) (legal : IsLegal Root W H) where
  stays_by : (K : History) (n : ℕ) (p : List Side) → length p ≤ n → IsCellOf (outcome_at H) p → region_at Root (outcome_at (H ++ K)) p ≡ region_at Root (outcome_at H) p
  stays_by K n p h (inl e) = ap (region_at Root (outcome_at (H ++ K))) e ∙ sym (ap (region_at Root (outcome_at H)) e)
  stays_by K zero p h (inr c) = absurd (omega (arith, ap length c.is, length-append c.parent (c.side ∷ [])))
  stays_by K (suc n) p h (inr c) =
      let up : IsCellOf (outcome_at H) c.parent = cell_of_outcome Root W H legal c.parent _ c.cut in
      let rest : region_at Root (outcome_at (H ++ K)) c.parent ≡ region_at Root (outcome_at H) c.parent = stays_by K n c.parent (omega (arith, ap length c.is, length-append c.parent (c.side ∷ []))) up in
      ap (region_at Root (outcome_at (H ++ K))) c.is ∙ region_at-snoc Root (outcome_at (H ++ K)) c.parent c.side
      ∙ ap₂ (λ (x : Area) (o : Option Outcome). x ++ cut_half o c.side) rest (outcome_at_stays H K c.parent _ c.cut ∙ sym c.cut)
      ∙ sym (region_at-snoc Root (outcome_at H) c.parent c.side) ∙ sym (ap (region_at Root (outcome_at H)) c.is)

  -- a cell's region stays the same when events are appended
  pub region_at_stays : (K : History) (p : List Side) → IsCellOf (outcome_at H) p → region_at Root (outcome_at (H ++ K)) p ≡ region_at Root (outcome_at H) p
  region_at_stays K p c = stays_by K (length p) p (omega arith) c
