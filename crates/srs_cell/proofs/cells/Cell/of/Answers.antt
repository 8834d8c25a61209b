use Rattle.srs_cell.proofs.Areas.{no_corner}
use Rattle.srs_cell.proofs.cells.Cell.of.Goals as goal

pub returns-in_default : goal.returns-in_default
returns-in_default c = no_corner c.args.region (rw c.in_default.is at c.in_ok-corners.ensures.found) c.in_ok-corners.ensures.near
