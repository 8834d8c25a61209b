-- The first cells of the round have their outcomes.
use Rattle.std.proofs.Common.{drop, length}
use Rattle.srs_rounds.specs.Refined.{IsInRound}
use Rattle.srs_rounds.proofs.refining.refine_round.Given as goal

abbrev pub invariant-loop-pending : goal.invariant-loop-pending
invariant-loop-pending l =
    IsInRound l.fn.tree.region l.limits l.number l.cells (length l.waiting) l.tree (drop l.pending-index l.waiting) l.next.items
