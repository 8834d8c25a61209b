use Rattle.std.proofs.Common.{◌^◌, lit≤}
use Rattle.srs_num.proofs.Ranges.{within_more}
use Rattle.srs_cell.specs.Floors.{form_of}
use Rattle.srs_cell.proofs.LeastFloors.{links_are}
use Rattle.srs_cell.proofs.HeldFloors.{held_ends}
use Rattle.srs_cell.proofs.cells.Cell.links.Goals as goal

pub returns : goal.returns
returns c =
    let f = c.floors-floors.result in
    let floors = c.floors-floors.ensures in
    let ends = held_ends c.args.self.now (form_of c.args.w) f floors in
    rw (ends.high, ends.low) (links_are c.args.self.now c.args.w f.ahead f.back floors.ahead floors.back
    (within_more f.ahead (2 ^ 40) (2 ^ 41) floors.ahead_range (lit≤ tt)) (within_more f.back (2 ^ 40) (2 ^ 41) floors.back_range (lit≤ tt)))
