-- The tree of a version's entries in preorder.
use Rattle.std.proofs.Common.{◌≡◌, Bool, cond, List, [], ◌∷◌, map, refl, sym, ap₂, ◌∙◌}
use Rattle.std.specs.FinMap as finite
use Rattle.std.specs.declared.option.Option.{Option}
use Rattle.std.specs.declared.option.Option.TheVariants.{Some}
use Rattle.srs_path.specs.declared.paths.Side.{Side}
use Rattle.srs_path.specs.declared.outcomes.Outcome.{Outcome}
use Rattle.srs_tree.specs.Tree.{outcome_at}
use Rattle.srs_tree.specs.Snapshots.{Snapshot, tree_of}
use Rattle.srs_tree.specs.Preorder.{event_of, preorder_of}
use Rattle.srs_tree.proofs.Sorted.{Pair, before}
use Rattle.srs_tree.proofs.StandsLemmas.{ties}

-- entries as events have the outcomes that are found at their paths
entries_at : (es : List Pair) (p : List Side) → outcome_at (map event_of es) p ≡ finite.find before p es
entries_at [] p = refl
entries_at (e ∷ es) p = ap₂ (λ (b : Bool) (x : Option Outcome). cond b (Some e.1) x) (sym (ties p e.0)) (entries_at es p)

-- the preorder of a snapshot has its tree
pub preorder_at : (v : Snapshot) (p : List Side) → outcome_at (preorder_of v) p ≡ tree_of v p
preorder_at v p = entries_at (finite.entries v.entries) p ∙ sym (finite.get-entries v.entries p)
