use Rattle.std.proofs.Common.{◌^◌, lit<}
use Rattle.std.specs.Int.{w128}
use Rattle.srs_cell.proofs.HeldFloors.{held_opposite, held_lessened}
use Rattle.srs_cell.proofs.floors.Floors.wide_lessened.Goals as goal

pub wide_lesser_floor-requires-2-clause-near : goal.wide_lesser_floor-requires-2-clause-near
wide_lesser_floor-requires-2-clause-near c = (held_opposite w128 (2 ^ 40) (2 ^ 77) c.args.n c.args.d c.ranges.n c.ranges.d c.requires.near c.requires.size (lit< tt)).near

pub returns : goal.returns
returns c =
    held_lessened w128 (2 ^ 40) (2 ^ 77) c.args.n c.args.d c.args.self c.wide_lesser_floor.result c.wide_lesser_floor-2.result c.ranges.n c.ranges.d c.requires.near c.requires.size (lit< tt) (lit< tt)
    c.requires.ahead c.requires.back c.wide_lesser_floor.ensures c.wide_lesser_floor-2.ensures
