use Rattle.std.proofs.Common.{◌≡◌, [], ◌∷◌}
use Rattle.std.proofs.lemmas.Result.{IfOk-weaker}
use Rattle.srs_cell.specs.Corners.{AreCorners}
use Rattle.srs_cell.proofs.BoxHull.{AreBoxCorners, sides_turn}
use Rattle.srs_cell.proofs.Areas.{box_start}
use Rattle.srs_cell.proofs.corners.box_corners.Goals as goal

pub crossing_of-requires : goal.crossing_of-requires
crossing_of-requires c = rw (c.side-right.ensures, c.side-top.ensures) sides_turn.0

pub crossing_of-requires-2 : goal.crossing_of-requires-2
crossing_of-requires-2 c = rw (c.side-top.ensures, c.side-left.ensures) sides_turn.1

pub crossing_of-requires-3 : goal.crossing_of-requires-3
crossing_of-requires-3 c = rw (c.side-left.ensures, c.side-bottom.ensures) sides_turn.2

pub crossing_of-requires-4 : goal.crossing_of-requires-4
crossing_of-requires-4 c = rw (c.side-bottom.ensures, c.side-right.ensures) sides_turn.3

pub returns : goal.returns
returns c =
    let w = c.crossing_of.result in
    let x = c.crossing_of-2.result in
    let y = c.crossing_of-3.result in
    let z = c.crossing_of-4.result in
    let k : AreBoxCorners w x y z = record {
      low_left = rw (c.side-right.ensures, c.side-top.ensures) at c.crossing_of.ensures.value;
      low_right = rw (c.side-top.ensures, c.side-left.ensures) at c.crossing_of-2.ensures.value;
      high_right = rw (c.side-left.ensures, c.side-bottom.ensures) at c.crossing_of-3.ensures.value;
      high_left = rw (c.side-bottom.ensures, c.side-right.ensures) at c.crossing_of-4.ensures.value;
    } in
    IfOk-weaker c.copied.result (λ copy. copy.items ≡ w ∷ x ∷ y ∷ z ∷ []) (λ corners. AreCorners [] corners.items)
    (λ corners e. rw e (box_start w x y z k c.crossing_of.ensures.sized c.crossing_of-2.ensures.sized c.crossing_of-3.ensures.sized c.crossing_of-4.ensures.sized))
    c.copied.ensures
