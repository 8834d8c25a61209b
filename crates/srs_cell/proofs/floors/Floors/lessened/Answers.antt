use Rattle.std.proofs.Common.{◌^◌, lit<, w64}
use Rattle.srs_cell.proofs.HeldFloors.{held_opposite, held_lessened}
use Rattle.srs_cell.proofs.floors.Floors.lessened.Goals as goal

pub lesser_floor-requires-2-clause-near : goal.lesser_floor-requires-2-clause-near
lesser_floor-requires-2-clause-near c = (held_opposite w64 (2 ^ 23) (2 ^ 38) c.args.n c.args.d c.ranges.n c.ranges.d c.requires.near c.requires.size (lit< tt)).near

pub returns : goal.returns
returns c =
    held_lessened w64 (2 ^ 23) (2 ^ 38) c.args.n c.args.d c.args.self c.lesser_floor.result c.lesser_floor-2.result c.ranges.n c.ranges.d c.requires.near c.requires.size (lit< tt) (lit< tt)
    c.requires.ahead c.requires.back c.lesser_floor.ensures c.lesser_floor-2.ensures
