use Rattle.srs_turn.specs.Passes.{IsPassOf}
use Rattle.srs_atlas_examples.proofs.threads.work.Given as goal

abbrev pub invariant-loop-cells : goal.invariant-loop-cells
invariant-loop-cells g l = IsPassOf l.atlas l.pass
