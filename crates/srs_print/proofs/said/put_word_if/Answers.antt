use Rattle.std.proofs.Common.{◌≡◌, codes}
use Rattle.std.proofs.lemmas.Result.{on_err_weaker}
use Rattle.srs_print.proofs.FrontLemmas.{nothing, later}
use Rattle.srs_print.proofs.said.put_word_if.Goals as goal

pub returns-clause-err : goal.returns-clause-err
returns-clause-err c =
    let word = c.args.word.now in
    let before = c.extend.new.self in
    let after = c.extend-2.new.self in
    rw c.if-not-met.false (on_err_weaker c.extend-2.result (λ (e : after ≡ before).
    later c.args.out.now before (codes " ") word after c.in_ok-extend.ensures.ok (nothing before word after e)) c.extend-2.ensures.err)
