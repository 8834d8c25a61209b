-- No cell is deeper than the rounds that are done.
use Rattle.std.proofs.Common.{arith}
use Rattle.srs_crew.proofs.Running.{deepest}
use Rattle.srs_crew.proofs.Telling.{was_done}
use Rattle.srs_crew.proofs.runs.all_rounds.Goals as goal

pub returns-clause-all : goal.returns-clause-all
returns-clause-all g c =
    was_done c.loop-round.pass.seen
    (deepest c.args.atlas.now.fixed c.args.limits.now c.requires.plan c.loop-round.pass.seen c.loop-round.round (omega (arith, c.loop-round-test.false, c.depth-round-end.ensures.depth)) c.loop-round.invariant.2 c.loop-round.invariant.1)
