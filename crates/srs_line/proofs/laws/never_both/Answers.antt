use Rattle.srs_line.proofs.MachineLaws.{never_both}
use Rattle.srs_line.proofs.laws.never_both.Goals as goal

pub returns : goal.returns
returns g c exact = never_both _ _ _ exact
