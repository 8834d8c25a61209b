use Rattle.std.proofs.Common.{rules}
use Rattle.srs_turn.proofs.TurnSteps.{splits}
use Rattle.srs_turn.proofs.turn.Turn.split.Goals as goal

pub split_seat-seat-requires : goal.split_seat-seat-requires
split_seat-seat-requires g c = (search rules, search rules, splits _ _ _ _ _ c.pass.invariant.0)
