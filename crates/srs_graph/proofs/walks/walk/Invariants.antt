use Rattle.srs_graph.specs.Marks.{unmarked}
use Rattle.srs_graph.specs.Walks.{Walk}
use Rattle.srs_graph.proofs.walks.walk.Given as goal

abbrev pub invariant-loop-from : goal.invariant-loop-from
invariant-loop-from l = Walk l.rows l.marks l.path.items l.at l.met.items

abbrev pub decreases-loop-from : goal.decreases-loop-from
decreases-loop-from l = unmarked l.met.items
