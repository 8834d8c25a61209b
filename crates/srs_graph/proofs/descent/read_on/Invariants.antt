use Rattle.srs_graph.specs.Descents.{IsRead}
use Rattle.srs_graph.proofs.descent.read_on.Given as goal

abbrev pub invariant-loop-j : goal.invariant-loop-j
invariant-loop-j l = IsRead l.fn.row l.marks l.j l.rank
