-- One question more was answered.
use Rattle.srs_turn.proofs.PrefixLemmas.{begins_trans}
use Rattle.srs_session.proofs.Listened.{played_next}
use Rattle.srs_session.proofs.playing.answer_all.Goals as goal

pub loop-i-preserved : goal.loop-i-preserved
loop-i-preserved g c = (
  c.answer.ensures.own,
  begins_trans c.args.pass.now.seen c.loop-i.pass.seen c.answer.new.pass.seen c.loop-i.invariant.1
      c.answer.ensures.seen,
  λ before start.
      played_next c.args.atlas.now.fixed.root before c.loop-i.pass.seen c.answer.new.pass.seen
      c.args.seg.now c.loop-i.i c.get.result.now
      c.loop-i.told c.push.new.told c.in_ok-said.said c.loop-i.held c.answer.new.held
      c.answer.ensures.seen c.get.ensures
      c.in_ok-said.ensures.said c.in_ok-push.ensures (c.loop-i.invariant.2 before start),
)
