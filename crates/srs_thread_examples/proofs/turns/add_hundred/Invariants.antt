use Rattle.srs_turn.specs.Passes.{IsPassOf}
use Rattle.srs_thread_examples.proofs.turns.add_hundred.Given as goal

abbrev pub invariant-loop-i : goal.invariant-loop-i
invariant-loop-i g l = IsPassOf l.turn l.pass
