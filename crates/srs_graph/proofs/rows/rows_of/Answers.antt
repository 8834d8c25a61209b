use Rattle.std.proofs.Common.{subst, sym, ◌+◌, refl, List}
use Rattle.srs_graph.specs.declared.rows.Row.{Row}
use Rattle.srs_graph.specs.Networks.{pair_at}
use Rattle.srs_graph.proofs.Placing.{RowsTo, rows_more}
use Rattle.srs_graph.proofs.rows.rows_of.Goals as goal

pub loop-w-preserved : goal.loop-w-preserved
loop-w-preserved c =
    subst (RowsTo c.args.cell.now c.args.pairs.now (c.loop-w.w-index + 1)) (sym {A = List Row} c.in_ok-push.ensures.items)
    (rows_more c.args.cell.now c.args.pairs.now c.loop-w.w-index c.loop-w.rows.items (pair_at c.args.pairs.now c.loop-w.w-index) c.row_of.result c.loop-w.invariant refl c.row_of.ensures)
