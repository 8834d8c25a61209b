use Rattle.std.proofs.Common.{◌≡◌, ◌≤◌, ◌+◌, ◌*◌, ◌^◌}
use Rattle.srs_tree.specs.Tree.{History}
use Rattle.srs_check.specs.Budgets.{nodes_upto, CountsRows}
use Rattle.srs_check.proofs.tally.spends_cells.Given as goal

abbrev pub invariant-loop-k : goal.invariant-loop-k
invariant-loop-k l = ((H : History) → CountsRows H l.rows → l.nodes ≡ nodes_upto H l.k) × (l.nodes ≤ (l.k + 1) * 2 ^ 32)
