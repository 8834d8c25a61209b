use Rattle.srs_cell.proofs.HeldFloors.{held_quotient}
use Rattle.srs_cell.proofs.floors.Floors.of.Goals as goal

pub overflow_mul-ahead : goal.overflow_mul-ahead
overflow_mul-ahead c = (held_quotient c.args.n c.args.d c.div_euclid-ahead.result c.ranges.n c.ranges.d c.requires.near c.requires.size c.div_euclid-ahead.ensures).product

pub returns-then-ahead-d : goal.returns-then-ahead-d
returns-then-ahead-d c = (held_quotient c.args.n c.args.d c.div_euclid-ahead.result c.ranges.n c.ranges.d c.requires.near c.requires.size c.div_euclid-ahead.ensures).broken c.if-ahead-d.true

pub returns-else-ahead-d : goal.returns-else-ahead-d
returns-else-ahead-d c = (held_quotient c.args.n c.args.d c.div_euclid-ahead.result c.ranges.n c.ranges.d c.requires.near c.requires.size c.div_euclid-ahead.ensures).whole c.if-ahead-d.false
