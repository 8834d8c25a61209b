use Rattle.srs_path.proofs.laws.once.Goals as goal
use Rattle.srs_path.proofs.OutcomeOnce.{outcome_once}

pub returns : goal.returns
returns c R last W o p h k = outcome_once R W last o p h k
