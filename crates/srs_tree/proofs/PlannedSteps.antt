-- Planned histories one event at a time, and the way back from whole histories in rounds.
use Rattle.std.proofs.Common.{◌≡◌, inl, inr, ℕ, zero, suc, ◌+◌, ◌<◌, ◌≤◌, [], ◌∷◌, ◌++◌, take, drop, slice_get, length, length-drop, get_or, refl, sym, ap, subst, ◌∙◌, arith, take-append-drop}
use Rattle.std.specs.Prelude.{Contains, IsSome}
use Rattle.std.specs.List.{AllByRecursion}
use Rattle.std.proofs.lemmas.Option.{none-some, slice_get_within, get_or_from_slice_get}
use Rattle.std.proofs.lemmas.List.{get_or-drop}
use Rattle.std.proofs.lemmas.List.Elements.{Contains-push_cases, recursion_from_All}
use Rattle.std.specs.declared.option.Option.{Option}
use Rattle.std.specs.declared.option.Option.TheVariants.{Some}
use Rattle.srs_plane.specs.Regions.{Area}
use Rattle.srs_path.specs.declared.limits.Last.{Last}
use Rattle.srs_path.specs.Views.{Budget}
use Rattle.srs_path.specs.Views.{Entry}
use Rattle.srs_path.specs.Refinement.{Refines}
use Rattle.srs_tree.specs.Tree.{History, outcome_at, IsCellOf, region_at}
use Rattle.srs_tree.specs.Legality.{MayFollow, IsLegal}
use Rattle.srs_tree.specs.Rounds.{last_in, IsByPlan, IsPlan, IsWhole, IsInRounds, MayComeNext, IsPlanned}
use Rattle.srs_tree.proofs.HistoryLemmas.{outcome_at_stays, IsCellOf_stays, slice_get_snoc, IsLegal-append, IsLegal-empty}
use Rattle.srs_tree.proofs.TreeLemmas.{region_at_stays}
use Rattle.srs_tree.proofs.Grow.{Each, grow}
use Rattle.srs_tree.proofs.CellsLemmas.{outcome_there}
use Rattle.srs_tree.proofs.PartitionAll.{IsLegal-first}
use Rattle.srs_tree.proofs.PlannedWhole.{Closed, upto_stays, row_stays, last_same, some_is}
use Rattle.srs_tree.proofs.OnePlanLemmas.{place_of, has_event, one_plan}

pub Each-empty : (Q : History → Entry → Type 0) → Each Q []
Each-empty Q k e g = absurd (none-some e g)

pub Each-append : (Q : History → Entry → Type 0) (H : History) (e : Entry) → Each Q H → Q H e → Each Q (H ++ e ∷ [])
Each-append Q H e each here k f g =
    elim (slice_get_snoc H e k f g) [
      | inl u ↦ subst (λ (G : History). Q G f) (sym u.1) (each k f u.0)
      | inr u ↦ subst (λ (G : History). Q G f) (sym u.1) (subst (λ (x : Entry). Q H x) (sym u.0) here)
    ]

pub IsPlanned-empty : (Root : Area) (L : Budget) → IsPlanned Root L []
IsPlanned-empty Root L = record { legal = IsLegal-empty Root L.wits; each = Each-empty (MayComeNext Root L) }

-- a planned history stays planned with an event that may follow it and may come next
pub IsPlanned-append : (Root : Area) (L : Budget) (H : History) (e : Entry) → IsPlanned Root L H → MayFollow Root L.wits H e → MayComeNext Root L H e → IsPlanned Root L (H ++ e ∷ [])
IsPlanned-append Root L H e old may next = record { legal = IsLegal-append Root L.wits H e old.legal may; each = Each-append (MayComeNext Root L) H e old.each next }

-- the events of a legal history are the outcomes at their paths
record Shown (Root : Area) (W : ℕ) (H : History) : Type 0 where
  legal : IsLegal Root W H
  shown : (e : Entry) → Contains H e → outcome_at H e.path ≡ Some e.outcome

pub outcome_of_event : (Root : Area) (W : ℕ) (H : History) → IsLegal Root W H → (e : Entry) → Contains H e → outcome_at H e.path ≡ Some e.outcome
outcome_of_event Root W H legal =
    let s : Shown Root W H = grow (MayFollow Root W) (Shown Root W) (record { legal = IsLegal-empty Root W; shown = λ e c. let l : c.0 < 0 = c.1 in absurd (omega arith) }) step H legal in
    s.shown
  where
    step : (G : History) (e : Entry) → Shown Root W G → MayFollow Root W G e → Shown Root W (G ++ e ∷ [])
    step G e old may = record {
      legal = IsLegal-append Root W G e old.legal may;
      shown = λ f c. elim (Contains-push_cases G e f c) [
        | inl k ↦ outcome_at_stays G (e ∷ []) f.path f.outcome (old.shown f k)
        | inr q ↦ subst (λ (x : Entry). outcome_at (G ++ e ∷ []) x.path ≡ Some x.outcome) q (outcome_there G e may.fresh)
      ];
    }

-- two plans have the same events
pub same_events : (Root : Area) (L : Budget) (G H : History) → IsPlan Root L G → IsPlan Root L H → (e : Entry) → Contains G e → Contains H e
same_events Root L G H one two e c =
    has_event H e.path e.outcome (sym (one_plan Root L G H one two e.path) ∙ outcome_of_event Root L.wits G one.whole.legal e c)

-- an event by the plan of the whole is by the plan of the events before it, where its row is closed and later events are no shorter
plan_before : (Root : Area) (L : Budget) (G K : History) (e : Entry) → IsLegal Root L.wits (G ++ K) → AllByRecursion (λ (f : Entry). length e.path ≤ length f.path) K → IsCellOf (outcome_at G) e.path → IsByPlan Root L (G ++ K) e → IsByPlan Root L G e
plan_before Root L G K e legal all cell (inl m) = inl m
plan_before Root L G K e legal all cell (inr r) =
    let last : last_in L (G ++ K) (length e.path) ≡ last_in L G (length e.path) = last_same L (G ++ K) G (length e.path) (upto_stays G K (length e.path) all) (row_stays G K (length e.path) all) in
    let cell_same : region_at Root (outcome_at (G ++ K)) e.path ≡ region_at Root (outcome_at G) e.path = region_at_stays Root L.wits G (IsLegal-first Root L.wits G K legal) K e.path cell in
    inr (subst (λ (R : Area). Refines R (last_in L G (length e.path)) L.wits e.outcome) cell_same
    (subst (λ (x : Option Last). Refines (region_at Root (outcome_at (G ++ K)) e.path) x L.wits e.outcome) last r))

-- an event at an earlier place is among the first events
in_first : (H : History) (j k : ℕ) (e : Entry) → j < k → slice_get H j ≡ Some e → slice_get (take k H) j ≡ Some e
in_first [] j k e l g = absurd (none-some e g)
in_first (x ∷ H) j zero e l g = absurd (omega arith)
in_first (x ∷ H) zero (suc k) e l g = g
in_first (x ∷ H) (suc j) (suc k) e l g = in_first H j k e (omega arith) g

module _ (Root : Area) (L : Budget) (H : History) (whole : IsWhole Root L H) (rounds : IsInRounds H) where
  later : (k : ℕ) (e : Entry) → slice_get H k ≡ Some e → AllByRecursion (λ (f : Entry). length e.path ≤ length f.path) (drop k H)
  later k e g = recursion_from_All (λ (f : Entry). length e.path ≤ length f.path) (drop k H) at
    where
      at : (i : ℕ) (d : Entry) → i < length (drop k H) → length e.path ≤ length (get_or (drop k H) i d).path
      at i d l =
          let m : k + i < length H = omega (arith, length-drop k H) in
          let up : length (get_or H k d).path ≤ length (get_or H (k + i) d).path = rounds k (k + i) d (omega arith) m in
          subst (λ (x : Entry). length x.path ≤ length (get_or (drop k H) i d).path) (get_or_from_slice_get H k e d g)
          (subst (λ (x : Entry). length (get_or H k d).path ≤ length x.path) (sym (get_or-drop k H i d)) up)

  closed : (k : ℕ) (e : Entry) → slice_get H k ≡ Some e → Closed (take k H) (length e.path)
  closed k e g p c l =
      let whole_cell : IsCellOf (outcome_at H) p = subst (λ (u : History). IsCellOf (outcome_at u) p) (take-append-drop k H) (IsCellOf_stays (take k H) (drop k H) p c) in
      let t = some_is (outcome_at H p) (whole.each_cell p whole_cell) in
      let place = place_of H p t.0 t.1 in
      let e0 : Entry = record { path = p; outcome = t.0 } in
      let early : place.0 < k = before place.0 e0 place.1 l in
      let i : slice_get (take k H) place.0 ≡ Some e0 = in_first H place.0 k e0 early place.1 in
      let has : Contains (take k H) e0 = (place.0, slice_get_within (take k H) place.0 e0 i, get_or_from_slice_get (take k H) place.0 e0 e0 i) in
      let is : outcome_at (take k H) p ≡ Some t.0 = outcome_of_event Root L.wits (take k H) (IsLegal-first Root L.wits (take k H) (drop k H) (subst (IsLegal Root L.wits) (sym (take-append-drop k H)) whole.legal)) e0 has in
      subst IsSome (sym is) refl
    where
      before : (j : ℕ) (f : Entry) → slice_get H j ≡ Some f → length f.path < length e.path → j < k
      before j f s m =
          let no : k ≤ j → ⊥ = λ n.
          let up : length (get_or H k e).path ≤ length (get_or H j e).path = rounds k j e n (slice_get_within H j f s) in
          let a : length (get_or H k e).path ≡ length e.path = ap (λ (x : Entry). length x.path) (get_or_from_slice_get H k e e g) in
          let b : length (get_or H j e).path ≡ length f.path = ap (λ (x : Entry). length x.path) (get_or_from_slice_get H j f e s) in
          omega arith in
          omega (arith, no)

  -- a whole history in rounds is planned
  pub IsPlanned-whole : IsPlanned Root L H
  IsPlanned-whole = record {
    legal = whole.legal;
    each = λ k e g.
        let legal : IsLegal Root L.wits (take k H ++ drop k H) = subst (IsLegal Root L.wits) (sym (take-append-drop k H)) whole.legal in
        let has : Contains H e = (k, slice_get_within H k e g, get_or_from_slice_get H k e e g) in
        record {
          rows_done = closed k e g;
          by_plan = plan_before Root L (take k H) (drop k H) e legal (later k e g) (whole.legal k e g).there
              (subst (λ (u : History). IsByPlan Root L u e) (sym (take-append-drop k H)) (whole.each_event e has));
        };
  }
