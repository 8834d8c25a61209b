-- A tally of one node more.
use Rattle.std.proofs.Common.{◌≡◌, ℕ, ◌+◌, ◌<◌, length, set, get_or, sym, ap, subst, ◌∙◌, arith}
use Rattle.srs_path.specs.declared.outcomes.Outcome.{Outcome}
use Rattle.srs_tree.specs.Tree.{History}
use Rattle.srs_check.specs.declared.tally.Tally.{Tally}
use Rattle.srs_check.specs.Faults.{is_inside, is_outside, is_cut, is_left}
use Rattle.srs_check.specs.Tallies.{IsNode, RowsSoFar, IsTallied}
use Rattle.srs_check.proofs.NodeCounts.{one_if, counts_more}
use Rattle.srs_check.proofs.RowCounts.{so_far_more}

pub tallied_more : (H : History) (i depth : ℕ) (o : Outcome) (old new : Tally) → IsNode H i depth o → depth < 49 → IsTallied H i old
    → new.rows ≡ set old.rows depth (get_or old.rows depth 0 + 1) → new.counts.cells ≡ old.counts.cells + 1
    → new.counts.inside ≡ old.counts.inside + one_if (is_inside o) → new.counts.outside ≡ old.counts.outside + one_if (is_outside o)
    → new.counts.cut ≡ old.counts.cut + one_if (is_cut o) → new.counts.left ≡ old.counts.left + one_if (is_left o) → IsTallied H (i + 1) new
tallied_more H i depth o old new node short s rows a b d f g =
    let e = node.entry in
    let more : RowsSoFar H (i + 1) (set old.rows (length e.path) (get_or old.rows (length e.path) 0 + 1)) = so_far_more H i e node.there old.rows (omega (arith, short, node.depth_is)) s.rows in
    record {
      rows = subst (RowsSoFar H (i + 1)) (sym (rows ∙ ap (λ (n : ℕ). set old.rows n (get_or old.rows n 0 + 1)) (sym node.depth_is))) more;
      counts = counts_more H i e o old.counts new.counts node.there (sym node.outcome_is) s.counts a b d f g;
    }
