use Rattle.srs_line.proofs.MachineLaws.{read_once}
use Rattle.srs_line.proofs.laws.read_once.Goals as goal

pub returns : goal.returns
returns g c exact = read_once _ _ _ exact
