-- The next round starts.
use Rattle.srs_rounds.specs.Refined.{StartsRound}
use Rattle.srs_rounds.proofs.refining.rounds.Given as goal

abbrev pub invariant-loop-number : goal.invariant-loop-number
invariant-loop-number l = StartsRound l.fn.cell l.limits l.number l.cells l.tree l.waiting.items
