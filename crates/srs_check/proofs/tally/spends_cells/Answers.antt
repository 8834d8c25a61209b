use Rattle.std.proofs.Common.{◌+◌, arith}
use Rattle.srs_check.proofs.RowCounts.{upto_more}
use Rattle.srs_check.proofs.tally.spends_cells.Goals as goal

pub loop-k-preserved : goal.loop-k-preserved
loop-k-preserved c = (
  (λ H rows. omega (arith, c.loop-k.invariant.0 H rows, rows (c.loop-k.k + 1) (omega (arith, c.depth.ensures.budget.depth)), upto_more H c.loop-k.k)),
  omega (arith, c.loop-k.invariant.1, c.fits-rows (c.loop-k.k + 1)),
)
