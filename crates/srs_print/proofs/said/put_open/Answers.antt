use Rattle.std.proofs.Common.{◌≡◌, codes}
use Rattle.std.proofs.lemmas.Result.{on_err_weaker}
use Rattle.srs_cert.specs.Texts.{cause_text}
use Rattle.srs_print.proofs.FrontLemmas.{nothing, later}
use Rattle.srs_print.proofs.said.put_open.Goals as goal

pub returns-in_ok-extend-in-Some-clause-err : goal.returns-in_ok-extend-in-Some-clause-err
returns-in_ok-extend-in-Some-clause-err c =
    let cause = cause_text c.in-Some.cause in
    let before = c.extend-in-Some.new.self in
    let after = c.extend-in-Some-2.new.self in
    rw c.in-Some.is (on_err_weaker c.extend-in-Some-2.result (λ (e : after ≡ before).
    later c.args.out.now before (codes "open ") cause after c.in_ok-extend-in-Some.ensures.ok (nothing before cause after e)) c.extend-in-Some-2.ensures.err)
