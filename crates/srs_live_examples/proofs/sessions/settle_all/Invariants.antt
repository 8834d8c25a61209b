use Rattle.srs_turn.specs.Passes.{IsPassOf}
use Rattle.srs_live_examples.proofs.sessions.settle_all.Given as goal

abbrev pub invariant-loop-cell : goal.invariant-loop-cell
invariant-loop-cell g l = IsPassOf l.atlas l.pass
