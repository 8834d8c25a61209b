use Rattle.srs_cell.proofs.Parting.{sum_is_in}
use Rattle.srs_cell.proofs.cells.Cell.sample.Goals as goal

pub returns : goal.returns
returns c =
    let k = c.self.invariant in
    rw (← c.self.view_is, c.sum.ensures, c.as_slice.ensures) (sum_is_in c.self.inside.region c.self.inside.corners k.0 k.1)
