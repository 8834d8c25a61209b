use Rattle.srs_graph.specs.Walks.{AreAllMarked}
use Rattle.srs_graph.proofs.walks.first_open.Given as goal

abbrev pub invariant-loop-i : goal.invariant-loop-i
invariant-loop-i l = AreAllMarked l.marks l.initial.i l.i
