use Rattle.std.proofs.Common.{◌≡◌, codes}
use Rattle.std.proofs.lemmas.Result.{on_err_weaker}
use Rattle.srs_cert.specs.Texts.{cause_text}
use Rattle.srs_print.proofs.FrontLemmas.{nothing, later}
use Rattle.srs_print.proofs.live.put_cause.Goals as goal

pub returns-clause-err : goal.returns-clause-err
returns-clause-err c =
    let cause = cause_text c.args.cause in
    let before = c.extend.new.self in
    let after = c.extend-2.new.self in
    on_err_weaker c.extend-2.result (λ (e : after ≡ before).
    later c.args.out.now before (codes "left ") cause after c.in_ok-extend.ensures.ok (nothing before cause after e)) c.extend-2.ensures.err
