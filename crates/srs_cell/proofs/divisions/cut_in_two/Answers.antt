use Rattle.std.proofs.Common.{refl, arith}
use Rattle.srs_cell.proofs.Divided.{all_ge, all_lt, divided}
use Rattle.srs_cell.proofs.divisions.cut_in_two.Goals as goal

pub returns-in_default : goal.returns-in_default
returns-in_default c = all_lt c.args.region.now c.args.h.now (rw c.in_default.is at c.in_ok-above.ensures.part)

pub returns-in_default-2 : goal.returns-in_default-2
returns-in_default-2 c = all_ge c.args.region.now c.args.h.now (rw (c.in_default-2.is, c.opposite.ensures) at c.in_ok-below.ensures.part)

pub returns : goal.returns
returns c = record {
  divides = divided c.args.region.now c.args.h.now
      ((rw c.in-Some.is at c.in_ok-above.ensures.point) refl)
      ((rw (c.in-Some-2.is, c.opposite.ensures) at c.in_ok-below.ensures.point) refl);
  above = rw c.in-Some.is at c.in_ok-above.ensures.part;
  below = rw (c.in-Some-2.is, c.opposite.ensures) at c.in_ok-below.ensures.part;
}

pub part-requires-2-clause-tally : goal.part-requires-2-clause-tally
part-requires-2-clause-tally c = rw c.opposite.ensures (c.turned.ensures.tally c.args.h.now c.args.corners.now c.requires.tally)

pub part-requires-2-clause-some : goal.part-requires-2-clause-some
part-requires-2-clause-some c = omega (arith, c.turned.ensures.above, c.requires.below)
