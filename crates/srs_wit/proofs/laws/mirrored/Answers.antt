use Rattle.srs_wit.proofs.laws.mirrored.Goals as goal
use Rattle.srs_wit.proofs.Mirrored.{witness_mirrored}

pub returns : goal.returns
returns c R w h = witness_mirrored R h
