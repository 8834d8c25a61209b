use Rattle.srs_turn.specs.Passes.{IsPassOf}
use Rattle.srs_calls_examples.proofs.calls.all_calls.Given as goal

abbrev pub invariant-loop-sides : goal.invariant-loop-sides
invariant-loop-sides g l = IsPassOf l.atlas l.pass
