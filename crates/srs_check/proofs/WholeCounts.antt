-- The nodes of a whole history in preorder are its cells, each once.
use Rattle.std.proofs.Common.{◌≡◌, ◌≢◌, ℕ, zero, suc, ◌+◌, ◌<◌, ◌≤◌, Bool, true, false, cond, List, [], ◌∷◌, ◌++◌, map, length, take, drop, get_or, slice_get, take-append-drop, refl, sym, ap, ap₂, subst, ◌∙◌, arith}
use Rattle.std.specs.Prelude.{◌==◌, nat_le, count_by, Contains}
use Rattle.std.specs.List.{AllPairs}
use Rattle.std.proofs.lemmas.Option.{none-some, slice_get-map, slice_get_within, slice_get-get_or, get_or_from_slice_get}
use Rattle.std.proofs.lemmas.List.{take_more, take_all, map-append, length-map, get_or-map, get_or-take, length-take-le}
use Rattle.std.proofs.lemmas.List.Elements.{Contains-get_or}
use Rattle.std.proofs.lemmas.List.Quantifiers.{all_pairs_push}
use Rattle.std.proofs.lemmas.List.Sums.{sum_by-cons}
use Rattle.std.specs.Option.{option_map}
use Rattle.std.specs.declared.option.Option.{Option}
use Rattle.std.specs.declared.option.Option.TheVariants.{Some, None}
use Rattle.srs_plane.specs.Regions.{Area}
use Rattle.srs_path.specs.declared.paths.Side.{Side}
use Rattle.srs_path.specs.declared.outcomes.Cause.TheVariants.{Memory}
use Rattle.srs_path.specs.declared.outcomes.Outcome.{Outcome}
use Rattle.srs_path.specs.declared.outcomes.Outcome.TheVariants.{Left}
use Rattle.srs_path.specs.Views.{Budget, Entry}
use Rattle.srs_tree.specs.Tree.{History, Tree, path_eq, outcome_at}
use Rattle.srs_tree.specs.Legality.{IsLegal}
use Rattle.srs_tree.specs.Rounds.{cells_of, upto, row_of, IsWhole}
use Rattle.srs_tree.specs.Snapshots.{Snapshot, StandsFor}
use Rattle.srs_tree.specs.Preorder.{preorder_of}
use Rattle.srs_tree.specs.WholeTrees.{ListsWholeTree}
use Rattle.srs_tree.proofs.HistoryLemmas.{path_eq_same}
use Rattle.srs_tree.proofs.TreeLemmas.{event_of as event_at, cell_of_outcome}
use Rattle.srs_tree.proofs.CellsLemmas.{cells_are}
use Rattle.srs_tree.proofs.OnePlanLemmas.{count_same}
use Rattle.srs_tree.proofs.Bounded.{count_all}
use Rattle.srs_tree.proofs.PartitionAll.{IsLegal-first}
use Rattle.srs_tree.proofs.PlannedSteps.{outcome_of_event}
use Rattle.srs_tree.proofs.PlannedWhole.{some_is}
use Rattle.srs_tree.proofs.Preorders.{preorder_at}
use Rattle.srs_check.specs.Budgets.{nodes_upto, nodes_at}
use Rattle.srs_check.specs.Faults.{is_inside, is_outside, is_cut, is_left, counts_of}
use Rattle.srs_cert.proofs.Descents.{outcome_here}
use Rattle.srs_cert.proofs.Preordered.{walked_all, walked_takes}

-- the preorder of a snapshot has the outcomes of the history that it stands for
pub preorder_same : (Root : Area) (H : History) (v : Snapshot) → StandsFor Root H v → (p : List Side) → outcome_at (preorder_of v) p ≡ outcome_at H p
preorder_same Root H v stands p = preorder_at v p ∙ stands.entries p

abbrev path_of : Entry → List Side
path_of e = e.path

abbrev paths : History → List (List Side)
paths E = map path_of E

path_there : (E : History) (p : List Side) → Contains (paths E) p → (o : Outcome) × (outcome_at E p ≡ Some o)
path_there [] p (k, l, q) = absurd (omega arith)
path_there (x ∷ E) p (zero, l, q) = (x.outcome, ap (λ (r : List Side). cond (path_eq x.path r) (Some x.outcome) (outcome_at E r)) (sym q) ∙ ap (λ (b : Bool). cond b (Some x.outcome) (outcome_at E x.path)) (path_eq_same x.path) ∙ refl)
path_there (x ∷ E) p (suc k, l, q) =
    let rest = path_there E p (k, omega arith, q) in
    elim (path_eq x.path p) as (λ b. (o : Outcome) × (cond b (Some x.outcome) (outcome_at E p) ≡ Some o)) [ true ↦ (x.outcome, refl) | false ↦ rest ]

there_path : (E : History) (p : List Side) (o : Outcome) → outcome_at E p ≡ Some o → Contains (paths E) p
there_path E p o e =
    let t = event_at E p o e in
    let at : slice_get (paths E) t.place ≡ Some p = slice_get-map path_of E t.place ∙ ap (option_map path_of) t.is ∙ ap Some t.path in
    (t.place, slice_get_within (paths E) t.place p at, get_or_from_slice_get (paths E) t.place p p at)

count_paths : (test : List Side → Bool) (E : History) → count_by (λ (e : Entry). test e.path) E ≡ count_by test (paths E)
count_paths test [] = refl
count_paths test (e ∷ E) =
    sum_by-cons _ e E ∙ ap (λ (n : ℕ). cond (test e.path) 1 0 + n) (count_paths test E) ∙ sym (sum_by-cons _ e.path (paths E))

-- no path of a whole tree's list comes twice
module _ (E : History) (tree : ListsWholeTree E) where
  once_upto : (i : ℕ) → i ≤ length E → AllPairs ◌≢◌ (paths (take i E))
  once_upto zero l = λ i j d m n. absurd (omega (arith, n))
  once_upto (suc i) l =
      let d : Entry = record { path = []; outcome = Left Memory } in
      let e : Entry = get_or E i d in
      let w = walked_all E tree i (omega arith) in
      let t = walked_takes E i w.0 e w.1 (slice_get-get_or E i d (omega arith)) in
      let first : Contains (e.path ∷ t.rest) e.path = (0, omega arith, refl) in
      let fresh : outcome_at (take i E) e.path ≡ None = t.is_open.fresh e.path first in
      let q : i + 1 ≡ suc i = omega arith in
      let more : paths (take (suc i) E) ≡ paths (take i E) ++ e.path ∷ [] = ap (λ (n : ℕ). paths (take n E)) (sym q) ∙ ap paths (take_more E i d (omega arith)) ∙ map-append path_of (take i E) (e ∷ []) in
      let old = once_upto i (omega arith) in
      let differs : (k : ℕ) (f : List Side) → k < length (paths (take i E)) → get_or (paths (take i E)) k f ≢ e.path =
      λ k f m r. let u = path_there (take i E) e.path (subst (Contains (paths (take i E))) r (Contains-get_or (paths (take i E)) k f m)) in none-some u.0 (sym fresh ∙ u.1) in
      subst (AllPairs ◌≢◌) (sym more) (all_pairs_push ◌≢◌ (paths (take i E)) e.path old differs)

  once : AllPairs ◌≢◌ (paths E)
  once = subst (λ (K : History). AllPairs ◌≢◌ (paths K)) (take_all (length E) E (omega arith)) (once_upto (length E) (omega arith))

  module _ (Root : Area) (L : Budget) (H : History) (whole : IsWhole Root L H) (same : (p : List Side) → outcome_at E p ≡ outcome_at H p) where
    counted : (test : List Side → Bool) → count_by (λ (e : Entry). test e.path) E ≡ count_by test (cells_of H)
    counted test =
        count_paths test E
        ∙ count_same test (paths E) (cells_of H)
        (λ p t c. let u = path_there E p c in (cells_are Root L.wits H whole.legal).from p (cell_of_outcome Root L.wits H whole.legal p u.0 (sym (same p) ∙ u.1)))
        (λ p t c. let u = some_is (outcome_at H p) (whole.each_cell p ((cells_are Root L.wits H whole.legal).to p c)) in there_path E p u.0 (same p ∙ u.1))
        once (cells_are Root L.wits H whole.legal).once

    pub upto_same : (k : ℕ) → nodes_upto E k ≡ upto H k
    upto_same k = counted (λ (p : List Side). nat_le (length p) k)

    pub row_same : (k : ℕ) → nodes_at E k ≡ row_of H k
    row_same k = counted (λ (p : List Side). length p == k)

-- whether there is an outcome that passes the test
abbrev passes : (Outcome → Bool) → Option Outcome → Bool
passes test None = false
passes test (Some o) = test o

-- a test of the outcomes is one of the paths, in a tree that has the outcome of each event at its
-- path
by_paths : (test : Outcome → Bool) (T : Tree) (E : History)
    → ((e : Entry) → Contains E e → T e.path ≡ Some e.outcome)
    → count_by (λ (e : Entry). test e.outcome) E ≡ count_by (λ (p : List Side). passes test (T p))
    (paths E)
by_paths test T [] shown = refl
by_paths test T (e ∷ E) shown =
    let here : test e.outcome ≡ passes test (T e.path) =
    sym (ap (passes test) (shown e (0, omega arith, refl))) in
    let rest = by_paths test T E (λ f (k, l, q). shown f (suc k, omega arith, q)) in
    sum_by-cons _ e E ∙ ap₂ (λ (b : Bool) (n : ℕ). cond b 1 0 + n) here rest
    ∙ sym (sum_by-cons _ e.path (paths E))

-- no path of a legal history comes twice
module _ (Root : Area) (W : ℕ) (H : History) (legal : IsLegal Root W H) where
  early : (j : ℕ) → IsLegal Root W (take j H)
  early j = IsLegal-first Root W (take j H) (drop j H)
      (subst (IsLegal Root W) (sym (take-append-drop j H)) legal)

  paths_differ : AllPairs ◌≢◌ (paths H)
  paths_differ i j d low high same =
      let none : Entry = record { path = d; outcome = Left Memory } in
      let e : Entry = get_or H i none in
      let f : Entry = get_or H j none in
      let short : j < length H = omega (arith, length-map H path_of) in
      let first : e.path ≡ get_or (paths H) i d =
      sym (get_or-map path_of H i none d (omega arith)) in
      let second : get_or (paths H) j d ≡ f.path = get_or-map path_of H j none d short in
      let fresh : outcome_at (take j H) f.path ≡ None =
      (legal j f (slice_get-get_or H j none short)).fresh in
      let same_place : get_or (take j H) i e ≡ e =
      get_or-take j H i e low
      ∙ get_or_from_slice_get H i e e (slice_get-get_or H i none (omega arith)) in
      let there : Contains (take j H) e =
      (i, omega (arith, length-take-le j H (omega arith)), same_place) in
      let shown : outcome_at (take j H) e.path ≡ Some e.outcome =
      outcome_of_event Root W (take j H) (early j) e there in
      none-some e.outcome
      (sym fresh ∙ ap (outcome_at (take j H)) (sym (first ∙ same ∙ second)) ∙ shown)

-- the events of a whole history in preorder are as many of each kind
module _ (Root : Area) (L : Budget) (H : History) (v : Snapshot) (whole : IsWhole Root L H)
    (stands : StandsFor Root H v)
    (tree : ListsWholeTree (preorder_of v)) where
  shown_here : (e : Entry) → Contains (preorder_of v) e → outcome_at H e.path ≡ Some e.outcome
  shown_here e (k, l, q) =
      sym (preorder_same Root H v stands e.path)
      ∙ outcome_here (preorder_of v) tree k e (slice_get-get_or (preorder_of v) k e l ∙ ap Some q)

  same_count : (test : Outcome → Bool)
      → count_by (λ (e : Entry). test e.outcome) (preorder_of v) ≡ count_by
      (λ (e : Entry). test e.outcome) H
  same_count test =
      by_paths test (outcome_at H) (preorder_of v) shown_here
      ∙ count_same (λ (p : List Side). passes test (outcome_at H p)) (paths (preorder_of v))
      (paths H)
      (λ p t c. let u = path_there (preorder_of v) p c in there_path H p u.0
      (sym (preorder_same Root H v stands p) ∙ u.1))
      (λ p t c. let u = path_there H p c in there_path (preorder_of v) p u.0
      (preorder_same Root H v stands p ∙ u.1))
      (once (preorder_of v) tree) (paths_differ Root L.wits H whole.legal)
      ∙ sym (by_paths test (outcome_at H) H (outcome_of_event Root L.wits H whole.legal))

  same_length : length (preorder_of v) ≡ length H
  same_length =
      sym (count_all (λ (e : Entry). true) (preorder_of v) (λ e c. refl)) ∙ same_count (λ o. true)
      ∙ count_all (λ (e : Entry). true) H (λ e c. refl)

  pub counts_same : counts_of (preorder_of v) ≡ counts_of H
  counts_same =
      let cells = same_length in
      let inside = same_count is_inside in
      let outside = same_count is_outside in
      let cut = same_count is_cut in
      let left = same_count is_left in
      λ i. record {
        cells = cells i;
        inside = inside i;
        outside = outside i;
        cut = cut i;
        left = left i;
      }
