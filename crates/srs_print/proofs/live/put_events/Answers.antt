use Rattle.std.proofs.lemmas.Result.{err_from_is_err_and}
use Rattle.srs_cert.specs.Lives.{event_text}
use Rattle.srs_print.proofs.FrontLemmas.{in_item, one_more}
use Rattle.srs_print.proofs.live.put_events.Goals as goal

pub returns-in_err-put_event-clause-err : goal.returns-in_err-put_event-clause-err
returns-in_err-put_event-clause-err c =
    let p = err_from_is_err_and c.from_residual.result c.from_residual.ensures.1 in
    rw p.1 (in_item event_text c.args.journal.now c.loop-i.i c.get.result.now c.args.out.now c.loop-i.out c.put_event.new.out c.get.ensures c.loop-i.invariant c.in_err-put_event.ensures.err)

pub loop-i-preserved : goal.loop-i-preserved
loop-i-preserved c =
    one_more event_text c.args.journal.now c.loop-i.i c.get.result.now c.args.out.now c.loop-i.out c.put_event.new.out c.get.ensures c.loop-i.invariant c.in_ok-put_event.ensures.ok
