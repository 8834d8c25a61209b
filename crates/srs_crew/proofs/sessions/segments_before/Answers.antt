-- The segments so far are of rounds before.
use Rattle.std.proofs.Common.{◌<◌, sym, arith}
use Rattle.srs_tree.specs.declared.sessions.Segment.{Segment}
use Rattle.srs_crew.proofs.Telling.{first_ones, early_here, early_end}
use Rattle.srs_crew.proofs.sessions.segments_before.Goals as goal

pub loop-i-preserved : goal.loop-i-preserved
loop-i-preserved c = first_ones (λ (s : Segment). s.at < c.args.round) c.args.session.now c.loop-i.i c.get.result.now c.get.ensures c.if-get-round.false c.loop-i.invariant

pub returns-then-get-round : goal.returns-then-get-round
returns-then-get-round c = early_here c.args.session.now c.len-i-end.ensures.keeps c.args.round c.loop-i.i c.get.result.now c.loop-i.invariant c.get.ensures c.if-get-round.true

pub returns : goal.returns
returns c =
    early_end c.args.session.now c.args.round c.len.result (sym c.len.ensures.len)
    (λ j t h l. c.loop-i.invariant j t h (omega (arith, l, c.loop-i-test.false, c.len.ensures.len, c.len-i-end.ensures.len)))
