use Rattle.std.proofs.Common.{◌++◌, ◌∷◌, [], codes}
use Rattle.std.proofs.lemmas.Result.{err_from_is_err_and}
use Rattle.srs_cert.specs.Lives.{path_text, outcome_line}
use Rattle.srs_print.specs.Fronts.{StopsIn}
use Rattle.srs_print.proofs.FrontLemmas.{sooner, later}
use Rattle.srs_print.proofs.live.put_event.Goals as goal

pub returns-in_err-put_event_path-clause-err : goal.returns-in_err-put_event_path-clause-err
returns-in_err-put_event_path-clause-err c =
    let p = err_from_is_err_and c.from_residual.result c.from_residual.ensures.1 in
    let path = codes "e " ++ path_text c.event.inside.path in
    let line = 32 ∷ outcome_line c.event.inside.outcome.value in
    let after = c.put_event_path.new.out in
    rw (p.1, ← c.event.view_is) (sooner c.args.out.now (path ++ line) (10 ∷ []) after (sooner c.args.out.now path line after c.in_err-put_event_path.ensures.err))

pub returns-in_err-put_spaced_outcome-clause-err : goal.returns-in_err-put_spaced_outcome-clause-err
returns-in_err-put_spaced_outcome-clause-err c =
    let p = err_from_is_err_and c.from_residual-in_err-put_spaced_outcome.result c.from_residual-in_err-put_spaced_outcome.ensures.1 in
    let path = codes "e " ++ path_text c.event.inside.path in
    let line = 32 ∷ outcome_line c.event.inside.outcome.value in
    let after = c.put_spaced_outcome.new.out in
    let stops : StopsIn c.put_event_path.new.out line after = rw c.deref.ensures at c.in_err-put_spaced_outcome.ensures.err in
    rw (p.1, ← c.event.view_is) (sooner c.args.out.now (path ++ line) (10 ∷ []) after (later c.args.out.now c.put_event_path.new.out path line after c.in_ok-put_event_path.ensures.ok stops))
