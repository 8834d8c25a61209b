use Rattle.srs_wit.proofs.laws.least.Goals as goal
use Rattle.srs_wit.proofs.Mirrored.{witnesses_least}

pub returns : goal.returns
returns g c R = witnesses_least R g.V.PairSet.holds
