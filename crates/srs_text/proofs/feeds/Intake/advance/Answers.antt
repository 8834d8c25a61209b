use Rattle.std.proofs.Common.{◌≡◌, Err, ap}
use Rattle.std.proofs.lemmas.Result.{err_from_is_err_and}
use Rattle.srs_text.specs.declared.transfer.ReadErr.TheVariants.{TooLong}
use Rattle.srs_text.proofs.IntakeLemmas.{just_more}
use Rattle.srs_text.proofs.feeds.Intake.advance.Goals as goal

pub returns-in_err-take_some-clause-long : goal.returns-in_err-take_some-clause-long
returns-in_err-take_some-clause-long g c =
    let p = err_from_is_err_and c.from_residual.result c.from_residual.ensures.1 in
    let was = c.loop-self.invariant in
    rw (p.1, p.2, ← was.limit) (λ said.
    let same : c.in_err-take_some.field-0.0 ≡ TooLong = cc in
    just_more _ _ _ _ _ c.loop-self.self.limit _ _ was.taken was.within (c.in_err-take_some.ensures.long (ap Err same)))
