-- Each node of the certificate of a whole history proves itself.
use Rattle.std.proofs.Common.{◌≡◌, ◌≢◌, inl, inr, ℕ, suc, ◌+◌, ◌*◌, ◌<◌, ◌≤◌, Bool, true, false, List, length, slice_get, refl, sym, ap, subst, ◌∙◌, arith, true≢false}
use Rattle.std.specs.Prelude.{◌==◌, nat_lt, if◌then◌else◌, Contains, IsTrue}
use Rattle.std.proofs.lemmas.Bool.Decides.{nat_tests, Decides-eqb}
use Rattle.std.proofs.lemmas.Option.{none-some, same_Some, slice_get_within}
use Rattle.std.specs.declared.option.Option.TheVariants.{Some, None}
use Rattle.srs_num.specs.declared.pairs.V2.{V2}
use Rattle.srs_plane.specs.Regions.{Area, Divides}
use Rattle.srs_plane.specs.Polygons.{region_of}
use Rattle.srs_cell.specs.Moves.{LeadsTo, LeadsBackTo}
use Rattle.srs_path.specs.declared.paths.Side.{Side}
use Rattle.srs_path.specs.declared.outcomes.Cause.TheVariants.{Depth, Cells, Thin, Memory}
use Rattle.srs_path.specs.declared.outcomes.Outcome.{Outcome}
use Rattle.srs_path.specs.declared.outcomes.Outcome.TheVariants.{Inside, Outside, Cut, Left}
use Rattle.srs_path.specs.declared.limits.Last.TheVariants.{Depth as AtDepth, Cells as AtCells}
use Rattle.srs_path.specs.Witnesses.{IsWitness, unit, link}
use Rattle.srs_path.specs.Core.{AreRanks, IsRank}
use Rattle.srs_path.specs.Refinement.{Refines}
use Rattle.srs_path.specs.Views.{Budget, IsBudget, Entry, last_of}
use Rattle.srs_tree.specs.Tree.{History, Tree, outcome_at, region_at}
use Rattle.srs_tree.specs.Rounds.{upto, row_of, last_in, IsByPlan}
use Rattle.srs_tree.specs.WholeTrees.{ListsWholeTree}
use Rattle.srs_tree.proofs.TreeLemmas.{cell_of_outcome}
use Rattle.srs_tree.proofs.OnePlanLemmas.{has_event}
use Rattle.srs_tree.proofs.Bounded.{depth_bound}
use Rattle.srs_tree.proofs.Listed.{listed}
use Rattle.srs_cert.specs.Certificates.{CertView}
use Rattle.srs_check.specs.Listed.{RankList, IsListed, IsBelow, ProvesInside}
use Rattle.srs_check.specs.Budgets.{nodes_upto, nodes_at, SpendsCells}
use Rattle.srs_check.specs.Proving.{Proves, ProvesItself, node_region}
use Rattle.srs_check.specs.declared.faults.Checked.{Checked}
use Rattle.srs_check.specs.declared.faults.Checked.TheVariants.{Valid, Bad}
use Rattle.srs_check.specs.Faults.{IsChecked}
use Rattle.srs_check.specs.Whole.{IsOfWhole, WholeIsProved, IsValid}
use Rattle.srs_cert.proofs.Preordered.{walked_all, walked_takes, walked_outcome}
use Rattle.srs_check.proofs.WholeCounts.{preorder_same, upto_same, row_same}

-- the ranks of all witnesses
module _ (R : Area) (entries : RankList) (ranks : AreRanks R entries) (e : V2 × ℕ) (c : Contains entries e) where
  witness : IsWitness R e.0
  witness = (ranks.each_entry e.0 e.1 c).0

  rank : IsRank R e.0 e.1
  rank = (ranks.each_entry e.0 e.1 c).1

  ranks_ahead : (v : V2) → LeadsTo R e.0 v → IsBelow entries e v
  ranks_ahead v (r, i, q) = record {
    listed = ranks.each_witness v (link r i (inl (sym q)) witness);
    falls = λ z m d. rank.longest (suc m) (z, (v, (r, i, q), (ranks.each_entry v m d).1.walk));
  }

  ranks_back : (v : V2) → LeadsBackTo R e.0 v → IsListed entries v
  ranks_back v (r, i, q) = ranks.each_witness v (link r i (inr (sym q)) witness)

ranks_prove : (R : Area) (entries : RankList) → AreRanks R entries → ProvesInside R entries
ranks_prove R entries ranks = record {
  units = λ w u. ranks.each_witness w (unit u);
  closed = λ e c. record { ahead = ranks_ahead R entries ranks e c; back = ranks_back R entries ranks e c };
}

-- which limit is spent, by the two tests
by_depth : (a b : Bool) → (if a then Some AtDepth else (if b then Some AtCells else None)) ≡ Some AtDepth → a ≡ true
by_depth true b e = refl
by_depth false true e = let q : AtCells ≡ AtDepth = same_Some AtCells AtDepth e in cc
by_depth false false e = absurd (none-some AtDepth e)

by_cells : (a b : Bool) → (if a then Some AtDepth else (if b then Some AtCells else None)) ≡ Some AtCells → (a ≡ false) × (b ≡ true)
by_cells true b e = let q : AtDepth ≡ AtCells = same_Some AtDepth AtCells e in cc
by_cells false true e = (refl, refl)
by_cells false false e = absurd (none-some AtCells e)

less_true : (a b : ℕ) → IsTrue (nat_lt a b) → a < b
less_true a b t = grind (arith, nat_tests)

depth_spent : (L : Budget) (k c n : ℕ) → last_of L k c n ≡ Some AtDepth → k ≡ L.depth
depth_spent L k c n e = (Decides-eqb k L.depth).0 (by_depth (k == L.depth) (nat_lt L.cells (c + 2 * n)) e)

cells_spent : (L : Budget) (E : History) (k c n : ℕ) → nodes_upto E k ≡ c → nodes_at E k ≡ n → k ≤ L.depth → last_of L k c n ≡ Some AtCells → SpendsCells L E k
cells_spent L E k c n p q l e =
    let t = by_cells (k == L.depth) (nat_lt L.cells (c + 2 * n)) e in
    let differs : k ≢ L.depth = λ r. true≢false (sym ((Decides-eqb k L.depth).1 r) ∙ t.0) in
    record { above = omega (arith, l, differs); spent = omega (arith, less_true L.cells (c + 2 * n) t.1, p, q) }

-- the outcome by the table proves itself
proves_refined : (R : Area) (L : Budget) (E H : History) (k : ℕ) → nodes_upto E k ≡ upto H k → nodes_at E k ≡ row_of H k → k ≤ L.depth → (o : Outcome) → Refines R (last_in L H k) L.wits o → Proves R L E k o
proves_refined R L E H k p q l (Inside entries) r = ranks_prove R entries r.ranks
proves_refined R L E H k p q l (Outside cycle) r = r.covers
proves_refined R L E H k p q l (Cut h) (none, inl c) = c.first.divides
proves_refined R L E H k p q l (Cut h) (none, inr g) = subst (Divides R) g.first.is g.first.divides.divides
proves_refined R L E H k p q l (Left (Depth why)) r = depth_spent L k (upto H k) (row_of H k) r.0
proves_refined R L E H k p q l (Left (Cells why)) r = cells_spent L E k (upto H k) (row_of H k) p q l r.0
proves_refined R L E H k p q l (Left Thin) r = r.1.no_line
proves_refined R L E H k p q l (Left Memory) r = absurd r

module _ (c : CertView) (budget : IsBudget c.limits) (w : IsOfWhole c) where
  tree : ListsWholeTree c.events
  tree = subst ListsWholeTree (sym w.events_are) (listed (region_of c.vertices) c.limits w.history w.snapshot budget w.whole w.stands).0

  same : (p : List Side) → outcome_at c.events p ≡ outcome_at w.history p
  same p = ap (λ (E : History). outcome_at E p) w.events_are ∙ preorder_same (region_of c.vertices) w.history w.snapshot w.stands p

  region_same : (p : List Side) → node_region c p ≡ region_at (region_of c.vertices) (outcome_at w.history) p
  region_same p = ap (λ (T : Tree). region_at (region_of c.vertices) T p) (λ i. λ q. same q i)

  module _ (i : ℕ) (e : Entry) (at : slice_get c.events i ≡ Some e) where
    outcome_is : outcome_at w.history e.path ≡ Some e.outcome
    outcome_is =
        let v = walked_all c.events tree i (omega (arith, slice_get_within c.events i e at)) in
        let t = walked_takes c.events i v.0 e v.1 at in
        sym (same e.path) ∙ walked_outcome c.events i e t.rest at t.is_open

    short : length e.path ≤ c.limits.depth
    short = depth_bound (region_of c.vertices) c.limits w.history w.whole e.path (cell_of_outcome (region_of c.vertices) c.limits.wits w.history w.whole.legal e.path e.outcome outcome_is)

    node : ProvesItself c e
    node = by_plan (w.whole.each_event e (has_event w.history e.path e.outcome outcome_is))
      where
        by_plan : IsByPlan (region_of c.vertices) c.limits w.history e → ProvesItself c e
        by_plan (inl q) = subst (Proves (node_region c e.path) c.limits c.events (length e.path)) (sym q) tt
        by_plan (inr r) =
            subst (λ (R : Area). Proves R c.limits c.events (length e.path) e.outcome) (sym (region_same e.path))
            (proves_refined (region_at (region_of c.vertices) (outcome_at w.history) e.path) c.limits c.events w.history (length e.path)
            (upto_same c.events tree (region_of c.vertices) c.limits w.history w.whole same (length e.path)) (row_same c.events tree (region_of c.vertices) c.limits w.history w.whole same (length e.path)) short e.outcome r)

pub whole_proved : WholeIsProved
whole_proved c budget w i e at = node c budget w i e at

-- no node of such a certificate is bad
pub whole_valid : (c : CertView) (answer : Checked) → IsBudget c.limits → IsOfWhole c → IsChecked c answer → IsValid answer
whole_valid c (Valid counts) budget w checked = tt
whole_valid c (Bad line fault) budget w checked = checked.1 (whole_proved c budget w)
