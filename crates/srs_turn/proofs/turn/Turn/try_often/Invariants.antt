use Rattle.srs_turn.specs.Holding.{StillWaits}
use Rattle.srs_turn.proofs.turn.Turn.try_often.Given as goal

abbrev pub invariant-loop : goal.invariant-loop
invariant-loop g l = StillWaits l.initial.seat l.seat
