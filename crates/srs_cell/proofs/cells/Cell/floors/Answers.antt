use Rattle.srs_num.specs.Points.{opposite}
use Rattle.srs_cell.specs.Floors.{form_of}
use Rattle.srs_cell.proofs.Reaching.{corners_near, least_floor}
use Rattle.srs_cell.proofs.cells.Cell.floors.Goals as goal

pub floors-requires-clause-near : goal.floors-requires-clause-near
floors-requires-clause-near c = let k = c.self.inside in corners_near k.region k.corners c.self.invariant.0 c.self.invariant.1

pub returns : goal.returns
returns c =
    let k = c.self.inside in
    let floors = c.floors.ensures in
    rw (← c.self.view_is) (record {
      ahead = least_floor k.region k.corners c.self.invariant.0 c.self.invariant.1 (form_of c.args.w) _ floors.ahead;
      back = least_floor k.region k.corners c.self.invariant.0 c.self.invariant.1 (opposite (form_of c.args.w)) _ floors.back;
      ahead_range = floors.ahead_range;
      back_range = floors.back_range;
      near = c.self.invariant.1.near;
    })
