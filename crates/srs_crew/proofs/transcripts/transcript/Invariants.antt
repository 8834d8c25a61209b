use Rattle.srs_turn.specs.Prefixes.{Begins}
use Rattle.srs_turn.specs.Passes.{IsPassOf}
use Rattle.srs_crew.specs.Telling.{IsToldFirst}
use Rattle.srs_crew.proofs.transcripts.transcript.Given as goal

abbrev pub invariant-loop-i : goal.invariant-loop-i
invariant-loop-i g l = IsPassOf l.atlas l.pass × Begins l.fn.pass.seen l.pass.seen × IsToldFirst l.atlas.fixed.root l.pass.seen l.i l.session l.told
