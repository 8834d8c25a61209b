-- The preorder of a whole history lists a whole tree within the limits.
use Rattle.std.proofs.Common.{◌≡◌, ◌≢◌, inl, inr, ℕ, zero, suc, ◌+◌, ◌<◌, ◌≤◌, List, [], ◌∷◌, ◌++◌, map, length, length-append, get_or, refl, sym, ap, subst, ◌∙◌, arith, append_assoc, append-nil, Some, None}
use Rattle.std.specs.Prelude.{IsSome}
use Rattle.std.specs.List.{All}
use Rattle.std.specs.FinMap as finite
use Rattle.std.specs.declared.option.Option.{Option}
use Rattle.std.proofs.lemmas.Option.{same_Some}
use Rattle.std.proofs.lemmas.List.{length-map, get_or-map}
use Rattle.srs_num.specs.Points.{LinearForm}
use Rattle.srs_plane.specs.Regions.{Area}
use Rattle.srs_path.specs.declared.paths.Side.{Side}
use Rattle.srs_path.specs.declared.paths.Side.TheVariants.{Ge, Lt}
use Rattle.srs_path.specs.declared.outcomes.Outcome.{Outcome}
use Rattle.srs_path.specs.declared.outcomes.Outcome.TheVariants.{Inside, Outside, Cut, Left}
use Rattle.srs_path.specs.Views.{Budget, IsBudget}
use Rattle.srs_path.specs.Refinement.{Refines}
use Rattle.srs_tree.specs.Tree.{History, Tree, outcome_at, IsCellOf, region_at}
use Rattle.srs_tree.specs.Rounds.{parts_by, upto, row_of, last_in, IsByPlan, IsWhole}
use Rattle.srs_tree.specs.Snapshots.{Entries, Snapshot, tree_of, StandsFor}
use Rattle.srs_tree.specs.Preorder.{event_of, preorder_of, preorder_below}
use Rattle.srs_tree.specs.WholeTrees.{ListsTrees, ListsWholeTree, AllowsAt, KeepsTo, IsWithin, WholeIsBounded, WholeIsListed}
use Rattle.srs_tree.proofs.TreeLemmas.{cell_of_outcome}
use Rattle.srs_tree.proofs.OnePlanLemmas.{has_event}
use Rattle.srs_tree.proofs.PlannedWhole.{some_is}
use Rattle.srs_tree.proofs.Bounded.{cells_bound, depth_bound, events_few, last_at_depth}
use Rattle.srs_tree.proofs.Sorted.{Pair, entry_list, entry_found}
use Rattle.srs_tree.proofs.Below.{parts, leaf_parts, all_begin}
use Rattle.srs_path.proofs.FewEntries.{few_ranks, few_cycle}

pub bounded : WholeIsBounded
bounded Root b H budget whole = record { cells = cells_bound Root b H whole budget.some_cell; depth = depth_bound Root b H whole }

-- the trees below the paths that wait, for a map in which each cell has an entry, and none is deeper than D
module _ (m : Entries) (D : ℕ) (closed : (p : List Side) (o : Outcome) → finite.get m p ≡ Some o → IsCellOf (finite.get m) p) (each : (p : List Side) → IsCellOf (finite.get m) p → IsSome (finite.get m p)) (deep : (p : List Side) → IsCellOf (finite.get m) p → length p ≤ D) where
  abbrev Lists : List Side → Type 0
  Lists p = (waiting : List (List Side)) (K : History) → ListsTrees waiting K → ListsTrees (p ∷ waiting) (preorder_below m p ++ K)

  leaf : (p : List Side) (o : Outcome) → finite.get m p ≡ Some o → parts_by p o ≡ [] → ((h : LinearForm) → o ≢ Cut h) → Lists p
  leaf p o e none plain waiting K rest =
      let one : preorder_below m p ≡ event_of (p, o) ∷ [] = leaf_parts m closed p (λ h q. plain h (same_Some o (Cut h) (sym e ∙ q))) ∙ ap (λ (u : Option Outcome). map event_of (entry_list p u)) e in
      let more : ListsTrees (parts_by p o ++ waiting) K = subst (λ (ps : List (List Side)). ListsTrees (ps ++ waiting) K) (sym none) rest in
      subst (λ (u : History). ListsTrees (p ∷ waiting) (u ++ K)) (sym one) (refl, more)

  cut : (p : List Side) (h : LinearForm) → finite.get m p ≡ Some (Cut h) → Lists (p ++ Ge ∷ []) → Lists (p ++ Lt ∷ []) → Lists p
  cut p h e on_ge on_lt waiting K rest =
      let ge : History = preorder_below m (p ++ Ge ∷ []) in
      let lt : History = preorder_below m (p ++ Lt ∷ []) in
      let all : preorder_below m p ≡ event_of (p, Cut h) ∷ (ge ++ lt) = parts m closed p ∙ ap (λ (u : Option Outcome). map event_of (entry_list p u) ++ (ge ++ lt)) e in
      let more : ListsTrees ((p ++ Ge ∷ []) ∷ (p ++ Lt ∷ []) ∷ waiting) ((ge ++ lt) ++ K)
      = subst (ListsTrees ((p ++ Ge ∷ []) ∷ (p ++ Lt ∷ []) ∷ waiting)) (sym (append_assoc ge lt K)) (on_ge ((p ++ Lt ∷ []) ∷ waiting) (lt ++ K) (on_lt waiting K rest)) in
      subst (λ (u : History). ListsTrees (p ∷ waiting) (u ++ K)) (sym all) (refl, more)

  part_cell : (p : List Side) (h : LinearForm) (s : Side) → finite.get m p ≡ Some (Cut h) → IsCellOf (finite.get m) (p ++ s ∷ [])
  part_cell p h s e = inr (record { parent = p; side = s; form = h; is = refl; cut = e })

  lists : (n : ℕ) (p : List Side) → D < length p + n → IsCellOf (finite.get m) p → Lists p
  lists zero p l cell = let d = deep p cell in absurd (omega (arith, l, d))
  lists (suc n) p l cell = let t = some_is (finite.get m p) (each p cell) in by_outcome (lists n) t.0 t.1
    where
      longer : (s : Side) → D < length (p ++ s ∷ []) + n
      longer s = omega (arith, l, length-append p (s ∷ []))

      by_outcome : ((q : List Side) → D < length q + n → IsCellOf (finite.get m) q → Lists q) → (o : Outcome) → finite.get m p ≡ Some o → Lists p
      by_outcome below (Inside ranks) e = leaf p (Inside ranks) e refl (λ h q. cc)
      by_outcome below (Outside cycle) e = leaf p (Outside cycle) e refl (λ h q. cc)
      by_outcome below (Cut h) e = cut p h e (below (p ++ Ge ∷ []) (longer Ge) (part_cell p h Ge e)) (below (p ++ Lt ∷ []) (longer Lt) (part_cell p h Lt e))
      by_outcome below (Left cause) e = leaf p (Left cause) e refl (λ h q. cc)

  pub whole_listed : ListsWholeTree (map event_of (finite.entries m))
  whole_listed =
      let all : ListsTrees ([] ∷ []) (preorder_below m [] ++ []) = lists (D + 1) [] (omega arith) (inl refl) [] [] tt in
      subst (ListsTrees ([] ∷ [])) (append-nil _ ∙ ap (map event_of) (all_begin (finite.entries m))) all

module _ (Root : Area) (b : Budget) (H : History) (v : Snapshot) (budget : IsBudget b) (whole : IsWhole Root b H) (stands : StandsFor Root H v) where
  same : tree_of v ≡ outcome_at H
  same = λ i. λ p. stands.entries p i

  -- an event of a whole history keeps to the limits
  keeps : (p : List Side) (o : Outcome) → outcome_at H p ≡ Some o → AllowsAt b (length p) o
  keeps p o e = by_plan o e (whole.each_event (record { path = p; outcome = o }) (has_event H p o e))
    where
      short : (u : Outcome) → outcome_at H p ≡ Some u → last_in b H (length p) ≡ None → length p < b.depth
      short u f n =
          let l = depth_bound Root b H whole p (cell_of_outcome Root b.wits H whole.legal p u f) in
          let no : b.depth ≤ length p → ⊥ = λ q. last_at_depth b (length p) (upto H (length p)) (row_of H (length p)) (omega (arith, l, q)) n in
          omega (arith, no)

      by_refined : (u : Outcome) → outcome_at H p ≡ Some u → Refines (region_at Root (outcome_at H) p) (last_in b H (length p)) b.wits u → AllowsAt b (length p) u
      by_refined (Inside ranks) f r = few_ranks _ b.wits ranks r
      by_refined (Outside cycle) f r = few_cycle _ b.wits cycle r
      by_refined (Cut h) f r = short (Cut h) f r.0
      by_refined (Left cause) f r = tt

      by_plan : (u : Outcome) → outcome_at H p ≡ Some u → IsByPlan Root b H (record { path = p; outcome = u }) → AllowsAt b (length p) u
      by_plan u f (inl q) = subst (AllowsAt b (length p)) (sym q) tt
      by_plan u f (inr r) = by_refined u f r

  abbrev pairs : List Pair
  pairs = finite.entries v.entries

  each_keeps : All (KeepsTo b) (preorder_of v)
  each_keeps k d l =
      let n : k < length pairs = omega (arith, l, length-map pairs event_of) in
      let e : Pair = get_or pairs k (d.path, d.outcome) in
      let here : outcome_at H e.0 ≡ Some e.1 = sym (stands.entries e.0) ∙ finite.get-entries v.entries e.0 ∙ entry_found pairs (finite.entries_sorted v.entries) k (d.path, d.outcome) n in
      subst (KeepsTo b) (sym (get_or-map event_of pairs k (d.path, d.outcome) d n)) (keeps e.0 e.1 here)

  listed_within : ListsWholeTree (preorder_of v) × IsWithin b (preorder_of v)
  listed_within = (
    whole_listed v.entries b.depth
        (subst (λ (T : Tree). (p : List Side) (o : Outcome) → T p ≡ Some o → IsCellOf T p) (sym same) (λ p o e. cell_of_outcome Root b.wits H whole.legal p o e))
        (subst (λ (T : Tree). (p : List Side) → IsCellOf T p → IsSome (T p)) (sym same) whole.each_cell)
        (subst (λ (T : Tree). (p : List Side) → IsCellOf T p → length p ≤ b.depth) (sym same) (depth_bound Root b H whole)),
    record { cells = few; each = each_keeps },
  )
    where
      few : length (preorder_of v) ≤ b.cells
      few =
          let a : length (preorder_of v) ≡ length H = length-map pairs event_of ∙ sym (finite.len-entries v.entries) ∙ stands.count in
          let c = events_few Root b.wits H whole.legal in
          let d = cells_bound Root b H whole budget.some_cell in
          omega (arith, a, c, d)

pub listed : WholeIsListed
listed = listed_within
