use Rattle.srs_turn.specs.Prefixes.{Begins}
use Rattle.srs_turn.specs.Passes.{IsPassOf}
use Rattle.srs_atlas.specs.Books.{IsLawful}
use Rattle.srs_crew.specs.Rounds.{AreDone}
use Rattle.srs_crew.proofs.rounds.settle_all.Given as goal

abbrev pub invariant-loop-i : goal.invariant-loop-i
invariant-loop-i g l =
    IsPassOf l.atlas l.pass × Begins l.fn.pass.seen l.pass.seen × IsLawful l.atlas.fixed l.pass.seen × AreDone l.cells l.i l.job.round l.pass.seen
