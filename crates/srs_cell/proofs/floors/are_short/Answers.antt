use Rattle.std.proofs.Common.{◌^◌, take_all, ◌≤◌, length, sym, arith}
use Rattle.std.proofs.lemmas.List.Elements.{All-more}
use Rattle.srs_num.specs.Points.{IsPointWithin}
use Rattle.srs_cell.proofs.floors.are_short.Goals as goal

pub loop-corner-preserved : goal.loop-corner-preserved
loop-corner-preserved c =
    All-more (IsPointWithin (2 ^ 38)) c.args.corners.now c.loop-corner.corner-index c.corner-item.result c.loop-corner-test.true c.loop-corner.invariant
    (rw (sym c.corner-item.is) (c.is_short.ensures c.if-not-is_short.false))

pub returns : goal.returns
returns c =
    let past : length c.args.corners.now ≤ c.loop-corner.corner-index = omega arith in
    λ _. rw (take_all c.loop-corner.corner-index c.args.corners.now past) at c.loop-corner.invariant
