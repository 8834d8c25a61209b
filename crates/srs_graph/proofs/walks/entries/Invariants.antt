use Rattle.srs_graph.proofs.Walking.{Entries}
use Rattle.srs_graph.proofs.walks.entries.Given as goal

abbrev pub invariant-loop-k : goal.invariant-loop-k
invariant-loop-k l = Entries l.pairs l.path l.from l.k l.entries
