-- All questions were answered since the beginning.
use Rattle.srs_turn.proofs.PrefixLemmas.{begins_trans}
use Rattle.srs_session.proofs.Listened.{all_answered}
use Rattle.srs_session.proofs.playing.play.Goals as goal

pub returns-clause-told : goal.returns-clause-told
returns-clause-told g c =
    all_answered c.args.atlas.now.fixed.root c.args.pass.now.seen c.answer_all.new.pass.seen
    c.args.seg.now c.answer_all.new.told c.answer_all.new.held
    (begins_trans c.args.pass.now.seen c.begin.new.pass.seen c.answer_all.new.pass.seen
    c.begin.ensures.seen c.answer_all.ensures.seen)
    (c.in_ok-answer_all.ensures.told c.args.pass.now.seen c.in_ok-held.ensures.begun)
