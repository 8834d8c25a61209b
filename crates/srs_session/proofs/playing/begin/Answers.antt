-- What was said first.
use Rattle.srs_session.proofs.Listened.{begun}
use Rattle.srs_session.proofs.playing.begin.Goals as goal

pub returns-clause-begun : goal.returns-clause-begun
returns-clause-begun g c =
    begun c.args.atlas.now.fixed.root c.args.pass.now.seen c.refresh.new.pass.seen c.args.seg.now
    c.args.told.now c.push.new.told c.push-2.new.told
    c.in_ok-held.held c.count.result c.refresh.ensures.seen c.in_ok-held.ensures.version
    c.count.ensures.count c.requires.nothing c.in_ok-push.ensures c.in_ok-push-2.ensures
