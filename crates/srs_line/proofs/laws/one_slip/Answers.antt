use Rattle.srs_line.proofs.MachineLaws.{one_slip}
use Rattle.srs_line.proofs.laws.one_slip.Goals as goal

pub returns : goal.returns
returns g c exact = one_slip _ _ _ exact
