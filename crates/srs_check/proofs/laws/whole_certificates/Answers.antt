use Rattle.srs_check.proofs.WholeProved.{whole_proved}
use Rattle.srs_check.proofs.laws.whole_certificates.Goals as goal

pub returns : goal.returns
returns c = whole_proved
