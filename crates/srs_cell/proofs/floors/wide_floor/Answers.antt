use Rattle.srs_cell.proofs.HeldFloors.{cast_floor}
use Rattle.srs_cell.proofs.floors.wide_floor.Goals as goal

pub overflow_cast-result : goal.overflow_cast-result
overflow_cast-result c = (cast_floor c.args.n c.args.d c.floor_div.result c.ranges.n c.ranges.d c.requires.near c.floor_div.ensures.floor).fits

pub returns-clause-floor : goal.returns-clause-floor
returns-clause-floor c = (cast_floor c.args.n c.args.d c.floor_div.result c.ranges.n c.ranges.d c.requires.near c.floor_div.ensures.floor).floor

pub returns-clause-range : goal.returns-clause-range
returns-clause-range c = (cast_floor c.args.n c.args.d c.floor_div.result c.ranges.n c.ranges.d c.requires.near c.floor_div.ensures.floor).range
