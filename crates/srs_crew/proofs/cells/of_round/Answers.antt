-- The list so far.
use Rattle.std.proofs.Common.{◌∙◌}
use Rattle.srs_crew.proofs.Working.{from_more, few_more}
use Rattle.srs_crew.proofs.cells.of_round.Goals as goal

pub loop-i-preserved : goal.loop-i-preserved
loop-i-preserved c = (
  from_more c.args.cells.now c.args.round c.loop-i.list c.take_of_round.new.list c.loop-i.i c.get.result.now c.loop-i.invariant.0 c.get.ensures c.in_ok-take_of_round.ensures,
  few_more c.args.round 65536 c.get.result.now c.loop-i.list c.take_of_round.new.list c.loop-i.invariant.1 (λ e. c.if-len-eq-MOST.false (c.len.ensures.len ∙ e)) c.in_ok-take_of_round.ensures,
)
