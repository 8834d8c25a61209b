use Rattle.srs_cell.proofs.Counting.{none_below, low_corners}
use Rattle.srs_cell.proofs.Parting.{cell_above, cell_below}
use Rattle.srs_cell.proofs.cells.Cell.cut.Goals as goal

pub returns-then-tally-eq0 : goal.returns-then-tally-eq0
returns-then-tally-eq0 c =
    let k = c.self.inside in
    rw (← c.self.view_is) (cell_above k.region k.corners c.self.invariant.0 c.args.h.now c.self.invariant.1
    (none_below c.args.h.now k.corners c.tally-tally.result c.tally-tally.ensures c.if-tally-eq0.true))

pub returns-then-tally-eq0-3 : goal.returns-then-tally-eq0-3
returns-then-tally-eq0-3 c =
    let k = c.self.inside in
    rw (← c.self.view_is) (cell_below k.region k.corners c.self.invariant.0 c.args.h.now c.self.invariant.1
    (low_corners c.args.h.now k.corners c.tally-tally.result c.tally-tally.ensures c.if-tally-eq0-2.true c.if-tally-eq0-3.true))
