use Rattle.srs_map.proofs.laws.addition.Goals as goal
use Rattle.srs_map.proofs.Brunotte.{step-plus}

pub returns : goal.returns
returns c r h z w = step-plus r z w h
