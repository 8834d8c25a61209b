use Rattle.std.proofs.Common.{◌≡◌, ◌++◌, Ok, Err, sym, subst, ◌∙◌}
use Rattle.std.proofs.lemmas.Option.{none-some, same_Some}
use Rattle.std.proofs.lemmas.Result.{err_from_is_err_and}
use Rattle.srs_line.specs.Machine.{lines_text}
use Rattle.srs_file.specs.CertReading.{read_view}
use Rattle.srs_check.specs.LineChecks.{WalksWith}
use Rattle.srs_check.proofs.LineSteps.{SaysOfEnd, ends_good, ends_bad, limits_fed, planted_at_end, some_walk, whole_goes_on}
use Rattle.srs_check.proofs.line_check.LineCheck.end.Goals as goal

pub unreachable-requires : goal.unreachable-requires
unreachable-requires c =
    let r = c.requires.some in
    let says : SaysOfEnd c.args.self.feed c.args.rest.now (Ok tt) = record { accepted = c.in_ok-end.ensures.accepted; refused = c.in_ok-end.ensures.refused; again = c.in_ok-end.ensures.again } in
    let g = ends_good c.args.self r.0 c.args.rest.now says r.1 in
    let text = lines_text r.0 ++ c.args.rest.now in
    none-some g.state.tree.limits (sym c.in_default.is ∙ c.limits-limits.ensures ∙ limits_fed c.args.self.feed r.0 g.state g.fed (planted_at_end text g.state g.spelled c.args.self.walk g.walks))

pub unreachable-requires-in_default-walk : goal.unreachable-requires-in_default-walk
unreachable-requires-in_default-walk c =
    let r = c.requires.some in
    let says : SaysOfEnd c.args.self.feed c.args.rest.now (Ok tt) = record { accepted = c.in_ok-end.ensures.accepted; refused = c.in_ok-end.ensures.refused; again = c.in_ok-end.ensures.again } in
    let g = ends_good c.args.self r.0 c.args.rest.now says r.1 in
    some_walk (lines_text r.0 ++ c.args.rest.now) g.state g.spelled c.args.self.walk g.walks c.in_default-walk.is

pub returns-in_err-end-clause-refused : goal.returns-in_err-end-clause-refused
returns-in_err-end-clause-refused c =
    let says : SaysOfEnd c.args.self.feed c.args.rest.now (Err c.in_err-end.field-0.0) = record { accepted = c.in_err-end.ensures.accepted; refused = c.in_err-end.ensures.refused; again = c.in_err-end.ensures.again } in
    let p = err_from_is_err_and c.from_residual.result c.from_residual.ensures.1 in
    rw (p.1, p.2) (λ lines taken. ends_bad c.args.self lines c.args.rest.now c.in_err-end.field-0.0 says taken)

pub returns-clause-accepted : goal.returns-clause-accepted
returns-clause-accepted c = λ lines taken.
    let says : SaysOfEnd c.args.self.feed c.args.rest.now (Ok tt) = record { accepted = c.in_ok-end.ensures.accepted; refused = c.in_ok-end.ensures.refused; again = c.in_ok-end.ensures.again } in
    let g = ends_good c.args.self lines c.args.rest.now says taken in
    let text = lines_text lines ++ c.args.rest.now in
    let limits : c.in-Some.limits ≡ g.state.tree.limits = same_Some c.in-Some.limits g.state.tree.limits (sym c.in-Some.is ∙ c.limits-limits.ensures ∙ limits_fed c.args.self.feed lines g.state g.fed (planted_at_end text g.state g.spelled c.args.self.walk g.walks)) in
    let come = (subst (WalksWith g.state) c.in-Some-walk.is g.walks).1 (read_view g.state) (whole_goes_on text g.state g.spelled) in
    let moved = rw (← c.in-Some-walk.walk-is) at come in
    let told = c.end-2.ensures.checked (read_view g.state) g.spelled.certificate (sym limits) moved in
    record { certificate = read_view g.state; spelled = g.spelled; checked = told.0; certified = told.1 }
