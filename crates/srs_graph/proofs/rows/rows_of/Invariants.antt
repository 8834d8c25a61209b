use Rattle.srs_graph.proofs.Placing.{RowsTo}
use Rattle.srs_graph.proofs.rows.rows_of.Given as goal

abbrev pub invariant-loop-w : goal.invariant-loop-w
invariant-loop-w l = RowsTo l.cell l.pairs l.w-index l.rows.items
