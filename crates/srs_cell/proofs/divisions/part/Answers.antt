use Rattle.std.proofs.Common.{arith}
use Rattle.srs_cell.proofs.Parting.{point_above, part_cell}
use Rattle.srs_cell.proofs.divisions.part.Goals as goal

pub inhabited-requires : goal.inhabited-requires
inhabited-requires c = rw c.in_ok-longer.ensures (c.in_ok-part.ensures c.args.region.now c.requires.cell.1.corners c.requires.section c.args.half (rw c.requires.line))

pub returns-then-tally-eq0-clause-part : goal.returns-then-tally-eq0-clause-part
returns-then-tally-eq0-clause-part c = rw (← c.in_ok-longer.ensures) c.inhabited.ensures.cell

pub returns-then-tally-eq0-clause-point : goal.returns-then-tally-eq0-clause-point
returns-then-tally-eq0-clause-point c = rw (← c.in_ok-longer.ensures) c.inhabited.ensures.point

pub invariant_of-result : goal.invariant_of-result
invariant_of-result c =
    let R = c.args.region.now in
    let cs = c.args.corners.now in
    let h = c.args.half in
    let cell = c.requires.cell in
    let p = point_above R cs cell h c.args.tally c.requires.tally (omega (arith, c.if-tally-eq0.false)) in
    rw (c.new.ensures, c.in_ok-longer.ensures) (p.0, part_cell R cs cell.0 h c.in_ok-part.part.items cell.1 c.requires.few (c.in_ok-part.ensures R cell.1.corners c.requires.section h (rw c.requires.line)) p)

pub returns-clause-point : goal.returns-clause-point
returns-clause-point c = λ _. point_above c.args.region.now c.args.corners.now c.requires.cell c.args.half c.args.tally c.requires.tally (omega (arith, c.if-tally-eq0.false))
