use Rattle.std.proofs.Common.{◌++◌, ◌∷◌, []}
use Rattle.std.proofs.lemmas.Result.{err_from_is_err_and}
use Rattle.srs_tree.specs.Answers.{reply_of}
use Rattle.srs_cert.specs.Sayings.{place_text, reply_text}
use Rattle.srs_print.proofs.FrontLemmas.{sooner, later}
use Rattle.srs_print.proofs.said.put_answer.Goals as goal

pub returns-in_err-put_place-clause-err : goal.returns-in_err-put_place-clause-err
returns-in_err-put_place-clause-err c =
    let p = err_from_is_err_and c.from_residual.result c.from_residual.ensures.1 in
    let place = place_text c.args.r.now in
    let reply = 32 ∷ reply_text (reply_of c.args.answer.now) in
    let after = c.put_place.new.out in
    rw p.1 (sooner c.args.out.now (place ++ reply) (10 ∷ []) after (sooner c.args.out.now place reply after c.in_err-put_place.ensures.err))

pub returns-in_err-put_spaced_reply-clause-err : goal.returns-in_err-put_spaced_reply-clause-err
returns-in_err-put_spaced_reply-clause-err c =
    let p = err_from_is_err_and c.from_residual-in_err-put_spaced_reply.result c.from_residual-in_err-put_spaced_reply.ensures.1 in
    let place = place_text c.args.r.now in
    let reply = 32 ∷ reply_text (reply_of c.args.answer.now) in
    let after = c.put_spaced_reply.new.out in
    rw p.1 (sooner c.args.out.now (place ++ reply) (10 ∷ []) after (later c.args.out.now c.put_place.new.out place reply after c.in_ok-put_place.ensures.ok c.in_err-put_spaced_reply.ensures.err))
