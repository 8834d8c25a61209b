use Rattle.srs_turn.specs.Passes.{IsPassOf}
use Rattle.srs_tree.specs.Rounds.{AreRowsDone}
use Rattle.srs_atlas.specs.Books.{IsLawful}
use Rattle.srs_crew.specs.Telling.{AreToldBelow}
use Rattle.srs_crew.proofs.runs.all_rounds.Given as goal

abbrev pub invariant-loop-round : goal.invariant-loop-round
invariant-loop-round g l =
    IsPassOf l.atlas l.pass × AreRowsDone l.pass.seen l.round × IsLawful l.atlas.fixed l.pass.seen × AreToldBelow l.atlas.fixed.root l.pass.seen l.round l.script l.told
