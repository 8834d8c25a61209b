use Rattle.srs_turn.specs.Passes.{IsPassOf}
use Rattle.srs_atlas_examples.proofs.calls.first_other.Given as goal

abbrev pub invariant-loop-i : goal.invariant-loop-i
invariant-loop-i g l = IsPassOf l.atlas l.pass
