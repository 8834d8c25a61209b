use Rattle.srs_tree.specs.Tree.{History}
use Rattle.srs_check.specs.Budgets.{CountsRows}
use Rattle.srs_check.specs.Walks.{IsFirstUnspent}
use Rattle.srs_check.proofs.walk.first_unspent.Given as goal

abbrev pub invariant-loop-depth : goal.invariant-loop-depth
invariant-loop-depth l = (H : History) → CountsRows H l.rows → IsFirstUnspent l.limits H l.left l.depth l.first
