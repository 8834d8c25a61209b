use Rattle.std.proofs.Common.{◌≡◌, ◌++◌, Some, slice_get}
use Rattle.std.proofs.lemmas.Option.{slice_get-map}
use Rattle.std.proofs.lemmas.Result.{err_from_is_err_and}
use Rattle.srs_path.specs.Views.{Entry}
use Rattle.srs_cert.specs.Texts.{outcome_text}
use Rattle.srs_cert.specs.Certificates.{outcomes_of}
use Rattle.srs_print.specs.Fronts.{StopsIn}
use Rattle.srs_print.proofs.FrontLemmas.{in_item, one_more}
use Rattle.srs_print.proofs.certificate.put_nodes.Goals as goal

pub returns-in_err-put_outcome-clause-err : goal.returns-in_err-put_outcome-clause-err
returns-in_err-put_outcome-clause-err c =
    let p = err_from_is_err_and c.from_residual.result c.from_residual.ensures.1 in
    let e : Entry = c.get.result.now in
    let outcome : c.deref.result.now ≡ e.outcome = rw (← c.behind-events.view_is) c.deref.ensures in
    let there : slice_get (outcomes_of c.args.events.now) c.loop-i.i ≡ Some e.outcome = simp (slice_get-map, c.get.ensures) in
    let stops : StopsIn c.loop-i.out (outcome_text e.outcome) c.put_outcome.new.out = rw outcome at c.in_err-put_outcome.ensures.err in
    rw p.1 (in_item outcome_text (outcomes_of c.args.events.now) c.loop-i.i e.outcome c.args.out.now c.loop-i.out c.put_outcome.new.out there c.loop-i.invariant stops)

pub loop-i-preserved : goal.loop-i-preserved
loop-i-preserved c =
    let e : Entry = c.get.result.now in
    let outcome : c.deref.result.now ≡ e.outcome = rw (← c.behind-events.view_is) c.deref.ensures in
    let there : slice_get (outcomes_of c.args.events.now) c.loop-i.i ≡ Some e.outcome = simp (slice_get-map, c.get.ensures) in
    let more : c.put_outcome.new.out ≡ c.loop-i.out ++ outcome_text e.outcome = rw outcome at c.in_ok-put_outcome.ensures.ok in
    one_more outcome_text (outcomes_of c.args.events.now) c.loop-i.i e.outcome c.args.out.now c.loop-i.out c.put_outcome.new.out there c.loop-i.invariant more
