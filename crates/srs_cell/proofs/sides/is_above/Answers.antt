use Rattle.srs_cell.proofs.OneSided.{by_zero}
use Rattle.srs_cell.proofs.Parting.{stays_above, reaches_below}
use Rattle.srs_cell.proofs.sides.is_above.Goals as goal

pub returns : goal.returns
returns c =
    let k = c.cell.inside in
    let t = c.tally.result in
    rw (← c.cell.view_is) (by_zero t.below
    (stays_above k.region k.corners c.cell.invariant.0 c.args.form.now t c.cell.invariant.1 c.tally.ensures)
    (reaches_below k.region k.corners c.cell.invariant.0 c.args.form.now t c.cell.invariant.1 c.tally.ensures))
