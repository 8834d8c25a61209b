use Rattle.std.proofs.Common.{rules}
use Rattle.srs_turn.proofs.TurnSteps.{joins, compares}
use Rattle.srs_turn.proofs.turn.Turn.join.Goals as goal

pub join_seat-requires : goal.join_seat-requires
join_seat-requires g c = (search rules, search rules, search rules, search rules, joins _ _ _ _ _ _ _ c.pass.invariant.0 c.other.invariant.0)

pub load-requires : goal.load-requires
load-requires g c = (search rules, search rules, compares _ _ _ _ _ _ c.pass.inside.seat.me.0 c.other.inside.seat.me.0 _ c.join_seat.ensures.2 c.pass.invariant.1)
