use Rattle.srs_check.proofs.Separating.{separates}
use Rattle.srs_check.proofs.laws.separates.Goals as goal

pub returns : goal.returns
returns c = separates
