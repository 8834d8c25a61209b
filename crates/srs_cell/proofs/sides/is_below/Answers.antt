use Rattle.std.proofs.Common.{◌≤◌, arith}
use Rattle.srs_cell.proofs.Parting.{reaches_above, stays_below}
use Rattle.srs_cell.proofs.sides.is_below.Goals as goal

pub returns-then-tally-gt0 : goal.returns-then-tally-gt0
returns-then-tally-gt0 c =
    let k = c.cell.inside in
    let some : 1 ≤ c.tally-tally.result.above = omega (arith, c.if-tally-gt0.true) in
    rw (← c.cell.view_is) (reaches_above k.region k.corners c.cell.invariant.0 c.args.form.now c.tally-tally.result c.cell.invariant.1 c.tally-tally.ensures some)

pub returns-then-tally-eq0 : goal.returns-then-tally-eq0
returns-then-tally-eq0 c =
    let k = c.cell.inside in
    rw (← c.cell.view_is) (stays_below k.region k.corners c.cell.invariant.0 c.args.form.now c.tally-tally.result c.cell.invariant.1 c.tally-tally.ensures
    (omega (arith, c.if-tally-gt0.false)) c.if-tally-eq0.true)
