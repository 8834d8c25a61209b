-- Each kind of question, by the version held.
use Rattle.srs_session.proofs.Listened.{fresh_said, count_said, point_said, polygon_said}
use Rattle.srs_session.proofs.playing.answer.Goals as goal

pub returns-in_ok-fresh-in-Fresh-clause-said : goal.returns-in_ok-fresh-in-Fresh-clause-said
returns-in_ok-fresh-in-Fresh-clause-said g c heard held =
    fresh_said c.args.atlas.now.fixed.root c.args.pass.now.seen c.refresh.new.pass.seen
    c.refresh.ensures.seen heard c.args.held.now held
    c.in_ok-fresh-in-Fresh.fresh c.count-number.result c.args.query.now c.in-Fresh.is
    c.in_ok-fresh-in-Fresh.ensures.version c.count-number.ensures.count

pub returns-in-Count-clause-said : goal.returns-in-Count-clause-said
returns-in-Count-clause-said g c heard held =
    count_said c.args.atlas.now.fixed.root c.args.pass.now.seen c.newest.new.pass.seen
    c.newest.ensures.seen heard c.args.held.now held
    c.newest.result c.args.query.now c.in-Count.is c.newest.ensures.count.0

pub returns-in_ok-reply_at-in-Point-clause-said : goal.returns-in_ok-reply_at-in-Point-clause-said
returns-in_ok-reply_at-in-Point-clause-said g c heard held =
    point_said c.args.atlas.now.fixed.root c.args.pass.now.seen heard c.args.held.now held
    c.in-Point.r c.in_ok-reply_at-in-Point.field-0 c.args.query.now c.in-Point.is
    c.in_ok-reply_at-in-Point.ensures

pub returns-in_ok-meet-in-Polygon-clause-said : goal.returns-in_ok-meet-in-Polygon-clause-said
returns-in_ok-meet-in-Polygon-clause-said g c heard held =
    polygon_said c.args.atlas.now.fixed.root c.args.pass.now.seen heard c.args.held.now held
    c.in-Polygon.q c.in_ok-meet-in-Polygon.field-0 c.args.query.now c.in-Polygon.is
    c.in_ok-meet-in-Polygon.ensures
