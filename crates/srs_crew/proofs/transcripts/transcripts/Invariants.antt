use Rattle.srs_turn.specs.Prefixes.{Begins}
use Rattle.srs_turn.specs.Passes.{IsPassOf}
use Rattle.srs_crew.specs.Telling.{AreToldFirst}
use Rattle.srs_crew.proofs.transcripts.transcripts.Given as goal

abbrev pub invariant-loop-i : goal.invariant-loop-i
invariant-loop-i g l = IsPassOf l.atlas l.pass × Begins l.fn.pass.seen l.pass.seen × AreToldFirst l.atlas.fixed.root l.pass.seen l.i l.script l.all
