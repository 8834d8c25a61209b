use Rattle.srs_path.proofs.laws.sound.Goals as goal
use Rattle.srs_path.proofs.RefinesSound.{refines_sound}

pub returns : goal.returns
returns c = refines_sound
