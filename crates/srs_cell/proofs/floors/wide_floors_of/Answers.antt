use Rattle.srs_cell.proofs.HeldFloors.{held_wide_quotient}
use Rattle.srs_cell.proofs.floors.wide_floors_of.Goals as goal

pub returns-then-ahead-d : goal.returns-then-ahead-d
returns-then-ahead-d c = (held_wide_quotient c.args.n c.args.d c.wide_floor-ahead.result c.ranges.n c.ranges.d c.requires.near c.requires.size c.wide_floor-ahead.ensures.floor).broken c.if-ahead-d.true

pub returns-else-ahead-d : goal.returns-else-ahead-d
returns-else-ahead-d c = (held_wide_quotient c.args.n c.args.d c.wide_floor-ahead.result c.ranges.n c.ranges.d c.requires.near c.requires.size c.wide_floor-ahead.ensures.floor).whole c.if-ahead-d.false

pub overflow_sub-result-then-ahead-d : goal.overflow_sub-result-then-ahead-d
overflow_sub-result-then-ahead-d c = (held_wide_quotient c.args.n c.args.d c.wide_floor-ahead.result c.ranges.n c.ranges.d c.requires.near c.requires.size c.wide_floor-ahead.ensures.floor).less
