use Rattle.srs_wit.proofs.laws.closed.Goals as goal
use Rattle.srs_wit.proofs.Mirrored.{witnesses_closed}

pub returns : goal.returns
returns c = witnesses_closed
