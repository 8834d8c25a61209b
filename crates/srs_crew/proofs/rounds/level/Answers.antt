-- The cells that waited are those of the round, and what is left of it is done at the end.
use Rattle.srs_turn.proofs.PrefixLemmas.{begins_trans}
use Rattle.srs_crew.specs.Telling.{AreToldIn}
use Rattle.srs_crew.proofs.Working.{round_later, works, done_from, ok_always, if_ok}
use Rattle.srs_crew.proofs.Telling.{told_wider}
use Rattle.srs_crew.proofs.rounds.level.Goals as goal

pub beside-told-requires-clause-work : goal.beside-told-requires-clause-work
beside-told-requires-clause-work g c κs within =
    let t = c.args.atlas.now.fixed in
    works t c.pending.new.pass.seen c.pending.ensures.lawful c.in_ok-waiting.waiting c.in_ok-waiting.ensures.cells c.args.job.now.round c.args.job.now.last c.in_ok-cells.cells
    (record { room = c.requires.room; by_plan = λ L is. round_later c.args.pass.now.seen c.pending.new.pass.seen c.pending.ensures.seen t.root t.w L _ _ c.pending.ensures.lawful.legal (c.requires.plan L is) })
    c.in_ok-cells.ensures.from

pub rest-requires-clause-plan : goal.rest-requires-clause-plan
rest-requires-clause-plan g c =
    record { start = c.args.pass.now.seen; begins = begins_trans _ _ _ c.pending.ensures.seen c.beside-told.ensures.seen; by_plan = c.requires.plan }

pub returns-clause-done : goal.returns-clause-done
returns-clause-done g c =
    ok_always _ c.beside-told.result
    (done_from c.args.atlas.now.fixed c.args.job.now.round c.args.pass.now.seen c.beside-told.new.pass.seen c.rest.new.pass.seen (begins_trans _ _ _ c.pending.ensures.seen c.beside-told.ensures.seen) c.in_ok-rest.ensures.done)

pub returns-clause-told : goal.returns-clause-told
returns-clause-told g c =
    let Root = c.args.atlas.now.fixed.root in
    let k = c.args.job.now.round in
    if_ok (AreToldIn Root c.pending.new.pass.seen c.beside-told.new.pass.seen k c.args.script.now) (AreToldIn Root c.args.pass.now.seen c.rest.new.pass.seen k c.args.script.now) c.beside-told.result
    (λ told. told_wider Root c.args.pass.now.seen c.pending.new.pass.seen c.beside-told.new.pass.seen c.rest.new.pass.seen k c.args.script.now told c.pending.ensures.seen c.beside-told.ensures.seen c.rest.ensures.seen)
    c.beside-told.ensures.told
