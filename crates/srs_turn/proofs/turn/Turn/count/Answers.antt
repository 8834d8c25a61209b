use Rattle.std.proofs.Common.{rules}
use Rattle.srs_turn.proofs.TurnSteps.{counts}
use Rattle.srs_turn.proofs.turn.Turn.count.Goals as goal

pub load-requires : goal.load-requires
load-requires g c = (search rules, search rules, counts _ _ _ _ _ _ c.pass.invariant)
