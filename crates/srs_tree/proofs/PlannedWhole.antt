-- A planned history in which each cell has an event is whole, and in rounds.
use Rattle.std.proofs.Common.{◌≡◌, inl, inr, ℕ, zero, suc, ◌+◌, ◌-◌, ◌*◌, ◌<◌, ◌≤◌, Bool, false, cond, List, [], ◌∷◌, ◌++◌, take, drop, slice_get, length, length-append, length-drop, get_or, refl, sym, ap, ap₂, subst, ◌∙◌, arith, true≢false, append_assoc, append-nil, take-append-drop}
use Rattle.std.specs.Prelude.{◌==◌, nat_le, nat_lt, if◌then◌else◌, count_by, Contains, IsSome}
use Rattle.std.specs.List.{flat_map, AllByRecursion}
use Rattle.std.proofs.lemmas.Bool.Decides.{nat_tests}
use Rattle.std.proofs.lemmas.Option.{none-some, slice_get-get_or}
use Rattle.std.proofs.lemmas.List.{get_or-drop}
use Rattle.std.proofs.lemmas.List.Elements.{All-from_recursion, All-get_or}
use Rattle.std.proofs.lemmas.List.Sums.{sum_by-append}
use Rattle.std.specs.declared.option.Option.{Option}
use Rattle.std.specs.declared.option.Option.TheVariants.{Some, None}
use Rattle.srs_plane.specs.Regions.{Area}
use Rattle.srs_path.specs.declared.paths.Side.{Side}
use Rattle.srs_path.specs.declared.paths.Side.TheVariants.{Ge, Lt}
use Rattle.srs_path.specs.declared.outcomes.Outcome.{Outcome}
use Rattle.srs_path.specs.declared.outcomes.Outcome.TheVariants.{Inside, Outside, Cut, Left}
use Rattle.srs_path.specs.declared.limits.Last.{Last}
use Rattle.srs_path.specs.declared.limits.Last.TheVariants.{Depth, Cells}
use Rattle.srs_path.specs.Views.{Budget}
use Rattle.srs_path.specs.Views.{Entry}
use Rattle.srs_path.specs.Refinement.{Refines}
use Rattle.srs_tree.specs.Tree.{History, outcome_at, IsCellOf, region_at}
use Rattle.srs_tree.specs.Legality.{MayFollow, IsLegal}
use Rattle.srs_tree.specs.Rounds.{parts_by, cells_of, upto, row_of, last_in, IsByPlan, IsWhole, IsInRounds, MayComeNext, IsPlanned}
use Rattle.srs_tree.proofs.HistoryLemmas.{outcome_at_stays}
use Rattle.srs_tree.proofs.TreeLemmas.{cell_of_outcome, region_at_stays}
use Rattle.srs_tree.proofs.Grow.{event_follows}
use Rattle.srs_tree.proofs.CellsLemmas.{cells-join}
use Rattle.srs_tree.proofs.PartitionAll.{IsLegal-first}

-- each cell with a path shorter than k has an event
abbrev pub Closed : History → ℕ → Type 0
Closed G k = (p : List Side) → IsCellOf (outcome_at G) p → length p < k → IsSome (outcome_at G p)

pub some_is : {A : Type 0} (o : Option A) → IsSome o → (x : A) × (o ≡ Some x)
some_is None h = absurd (true≢false (sym h))
some_is (Some x) h = (x, refl)

-- where the path has an outcome already, that is its outcome later
pub early : (G K : History) (p : List Side) (o : Outcome) → IsSome (outcome_at G p) → outcome_at (G ++ K) p ≡ Some o → outcome_at G p ≡ Some o
early G K p o some e = let t = some_is (outcome_at G p) some in t.1 ∙ sym (outcome_at_stays G K p t.0 t.1) ∙ e

-- a closed row_of gets no new cell
pub cell_back : (Root : Area) (W : ℕ) (G K : History) (k : ℕ) → IsLegal Root W (G ++ K) → Closed G k → (n : ℕ) (p : List Side) → length p ≤ n → length p ≤ k → IsCellOf (outcome_at (G ++ K)) p → IsCellOf (outcome_at G) p
cell_back Root W G K k legal closed n p l m (inl e) = inl e
cell_back Root W G K k legal closed zero p l m (inr c) = absurd (omega (arith, ap length c.is, length-append c.parent (c.side ∷ [])))
cell_back Root W G K k legal closed (suc n) p l m (inr c) =
    let long : length p ≡ length c.parent + 1 = ap length c.is ∙ length-append c.parent (c.side ∷ []) in
    let up : IsCellOf (outcome_at (G ++ K)) c.parent = cell_of_outcome Root W (G ++ K) legal c.parent _ c.cut in
    let old : IsCellOf (outcome_at G) c.parent = cell_back Root W G K k legal closed n c.parent (omega arith) (omega arith) up in
    inr (record { parent = c.parent; side = c.side; form = c.form; is = c.is; cut = early G K c.parent (Cut c.form) (closed c.parent old (omega arith)) c.cut })

-- an event after a closed row_of is no shorter
pub later_one : (Root : Area) (W : ℕ) (G A : History) (k : ℕ) (f : Entry) → IsLegal Root W (G ++ A) → MayFollow Root W (G ++ A) f → Closed G k → k ≤ length f.path
later_one Root W G A k f legal may closed =
    let no : (length f.path < k) → ⊥ = λ l.
    let old : IsCellOf (outcome_at G) f.path = cell_back Root W G A k legal closed (length f.path) f.path (omega arith) (omega arith) may.there in
    let t = some_is (outcome_at G f.path) (closed f.path old l) in
    none-some t.0 (sym may.fresh ∙ outcome_at_stays G A f.path t.0 t.1) in
    omega (arith, no)

pub later_all : (Root : Area) (W : ℕ) (G : History) (k : ℕ) → Closed G k → (A B : History) → IsLegal Root W ((G ++ A) ++ B) → AllByRecursion (λ (f : Entry). k ≤ length f.path) B
later_all Root W G k closed A [] legal = tt
later_all Root W G k closed A (f ∷ B) legal =
    let same : (G ++ A) ++ f ∷ B ≡ (G ++ (A ++ f ∷ [])) ++ B = simp append_assoc in (
      later_one Root W G A k f (IsLegal-first Root W (G ++ A) (f ∷ B) legal) (event_follows (MayFollow Root W) (G ++ A) B f legal) closed,
      later_all Root W G k closed (A ++ f ∷ []) B (subst (IsLegal Root W) same legal),
    )

-- where a test fails at all parts of events, it counts none
none_of : (test : List Side → Bool) (path : List Side) (o : Outcome) → ((s : Side) → test (path ++ s ∷ []) ≡ false) → count_by test (parts_by path o) ≡ 0
none_of test path (Inside rs) h = refl
none_of test path (Outside c) h = refl
none_of test path (Cut f) h = ap₂ (λ (x y : Bool). (0 + cond x 1 0) + cond y 1 0) (h Ge) (h Lt)
none_of test path (Left x) h = refl

pub none_counted : (test : List Side → Bool) (k : ℕ) → ((f : Entry) (s : Side) → k ≤ length f.path → test (f.path ++ s ∷ []) ≡ false) → (K : History) → AllByRecursion (λ (f : Entry). k ≤ length f.path) K → count_by test (flat_map (λ (e : Entry). parts_by e.path e.outcome) K) ≡ 0
none_counted test k h [] all = refl
none_counted test k h (f ∷ K) all =
    sum_by-append _ (parts_by f.path f.outcome) (flat_map (λ (e : Entry). parts_by e.path e.outcome) K)
    ∙ ap₂ ◌+◌ (none_of test f.path f.outcome (λ s. h f s all.0)) (none_counted test k h K all.1)

count_stays : (test : List Side → Bool) (k : ℕ) → ((f : Entry) (s : Side) → k ≤ length f.path → test (f.path ++ s ∷ []) ≡ false) → (G K : History) → AllByRecursion (λ (f : Entry). k ≤ length f.path) K → count_by test (cells_of (G ++ K)) ≡ count_by test (cells_of G)
count_stays test k h G K all =
    let a : count_by test (cells_of (G ++ K)) ≡ count_by test (cells_of G) + count_by test (flat_map (λ (e : Entry). parts_by e.path e.outcome) K) =
    ap (count_by test) (cells-join G K) ∙ sum_by-append _ (cells_of G) (flat_map (λ (e : Entry). parts_by e.path e.outcome) K) in
    let b = none_counted test k h K all in
    omega (arith, a, b)

pub le_fails : (a n k : ℕ) → a ≡ n + 1 → k ≤ n → nat_le a k ≡ false
le_fails a n k e l = grind (arith, nat_tests)

eq_fails : (a n k : ℕ) → a ≡ n + 1 → k ≤ n → (a == k) ≡ false
eq_fails a n k e l = grind (arith, nat_tests)

pub upto_stays : (G K : History) (k : ℕ) → AllByRecursion (λ (f : Entry). k ≤ length f.path) K → upto (G ++ K) k ≡ upto G k
upto_stays G K k all = count_stays (λ p. nat_le (length p) k) k (λ f s l. le_fails _ (length f.path) k (length-append f.path (s ∷ [])) l) G K all

pub row_stays : (G K : History) (k : ℕ) → AllByRecursion (λ (f : Entry). k ≤ length f.path) K → row_of (G ++ K) k ≡ row_of G k
row_stays G K k all = count_stays (λ p. length p == k) k (λ f s l. eq_fails _ (length f.path) k (length-append f.path (s ∷ [])) l) G K all

pub last_same : (L : Budget) (G H : History) (k : ℕ) → upto G k ≡ upto H k → row_of G k ≡ row_of H k → last_in L G k ≡ last_in L H k
last_same L G H k u r = ap₂ (λ (x y : ℕ). if k == L.depth then Some Depth else (if nat_lt L.cells (x + 2 * y) then Some Cells else None)) u r

-- an event that goes by the plan of the events before it goes by the plan of the whole
pub plan_stays : (Root : Area) (L : Budget) (G K : History) (e : Entry) → IsLegal Root L.wits (G ++ K) → Closed G (length e.path) → IsCellOf (outcome_at G) e.path → IsByPlan Root L G e → IsByPlan Root L (G ++ K) e
plan_stays Root L G K e legal closed cell (inl m) = inl m
plan_stays Root L G K e legal closed cell (inr r) =
    let all = later_all Root L.wits G (length e.path) closed [] K (subst (λ (u : History). IsLegal Root L.wits (u ++ K)) (sym (append-nil G)) legal) in
    let last : last_in L G (length e.path) ≡ last_in L (G ++ K) (length e.path) = last_same L G (G ++ K) (length e.path) (sym (upto_stays G K (length e.path) all)) (sym (row_stays G K (length e.path) all)) in
    let cell_same : region_at Root (outcome_at G) e.path ≡ region_at Root (outcome_at (G ++ K)) e.path = sym (region_at_stays Root L.wits G (IsLegal-first Root L.wits G K legal) K e.path cell) in
    inr (subst (λ (R : Area). Refines R (last_in L (G ++ K) (length e.path)) L.wits e.outcome) cell_same
    (subst (λ (x : Option Last). Refines (region_at Root (outcome_at G) e.path) x L.wits e.outcome) last r))

module _ (Root : Area) (L : Budget) (H : History) (planned : IsPlanned Root L H) where
  joined : (k : ℕ) → take k H ++ drop k H ≡ H
  joined k = take-append-drop k H

  legal_at : (k : ℕ) → IsLegal Root L.wits (take k H ++ drop k H)
  legal_at k = subst (IsLegal Root L.wits) (sym (joined k)) planned.legal

  by_plan : (k : ℕ) (e : Entry) → slice_get H k ≡ Some e → IsByPlan Root L H e
  by_plan k e g =
      let may = planned.each k e g in
      subst (λ (u : History). IsByPlan Root L u e) (joined k) (plan_stays Root L (take k H) (drop k H) e (legal_at k) may.rows_done (planned.legal k e g).there may.by_plan)

  pub events_by_plan : (e : Entry) → Contains H e → IsByPlan Root L H e
  events_by_plan e c = by_plan c.0 e (slice_get-get_or H c.0 e c.1 ∙ ap Some c.2)

  pub IsWhole-planned : ((p : List Side) → IsCellOf (outcome_at H) p → IsSome (outcome_at H p)) → IsWhole Root L H
  IsWhole-planned each_cell = record {
    legal = planned.legal;
    each_cell = each_cell;
    each_event = events_by_plan;
  }

  -- this wants no event in each cell
  pub IsInRounds-planned : IsInRounds H
  IsInRounds-planned i j d l m =
      let e : Entry = get_or H i d in
      let may : MayComeNext Root L (take i H) e = planned.each i e (slice_get-get_or H i d (omega arith)) in
      let G : History = take i H in
      let all : AllByRecursion (λ (f : Entry). length e.path ≤ length f.path) (drop i H) = later_all Root L.wits G (length e.path) may.rows_done [] (drop i H) (subst (λ (u : History). IsLegal Root L.wits (u ++ drop i H)) (sym (append-nil G)) (legal_at i)) in
      let at : length e.path ≤ length (get_or (drop i H) (j - i) d).path =
      All-get_or (λ (f : Entry). length e.path ≤ length f.path) (drop i H) (j - i) d (omega (arith, length-drop i H)) (All-from_recursion (λ (f : Entry). length e.path ≤ length f.path) (drop i H) all) in
      let place : i + (j - i) ≡ j = omega arith in
      subst (λ (f : Entry). length e.path ≤ length f.path) (get_or-drop i H (j - i) d ∙ ap (λ (n : ℕ). get_or H n d) place) at
