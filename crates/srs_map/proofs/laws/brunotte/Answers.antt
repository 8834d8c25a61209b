use Rattle.srs_map.proofs.laws.brunotte.Goals as goal
use Rattle.srs_map.proofs.Brunotte.{brunotte}

pub returns : goal.returns
returns g c r h s = brunotte r g.V.PairSet.holds h s
