use Rattle.std.proofs.lemmas.Result.{err_from_is_err_and}
use Rattle.srs_print.proofs.MetTexts.{stops_inside, stops_outside, stops_undecided, stops_beyond}
use Rattle.srs_print.proofs.said.put_met.Goals as goal

pub returns-in_err-put_word_if-clause-err : goal.returns-in_err-put_word_if-clause-err
returns-in_err-put_word_if-clause-err c =
    let p = err_from_is_err_and c.from_residual-in_err-put_word_if.result c.from_residual-in_err-put_word_if.ensures.1 in
    rw p.1 (stops_inside c.args.out.now c.args.met c.extend.new.self c.in_ok-extend.ensures.ok c.put_word_if.new.out c.in_err-put_word_if.ensures.err)

pub returns-in_err-put_word_if-2-clause-err : goal.returns-in_err-put_word_if-2-clause-err
returns-in_err-put_word_if-2-clause-err c =
    let p = err_from_is_err_and c.from_residual-in_err-put_word_if-2.result c.from_residual-in_err-put_word_if-2.ensures.1 in
    rw p.1 (stops_outside c.args.out.now c.args.met c.extend.new.self c.in_ok-extend.ensures.ok c.put_word_if.new.out c.in_ok-put_word_if.ensures.ok c.put_word_if-2.new.out c.in_err-put_word_if-2.ensures.err)

pub returns-in_err-put_word_if-3-clause-err : goal.returns-in_err-put_word_if-3-clause-err
returns-in_err-put_word_if-3-clause-err c =
    let p = err_from_is_err_and c.from_residual-in_err-put_word_if-3.result c.from_residual-in_err-put_word_if-3.ensures.1 in
    rw p.1 (stops_undecided c.args.out.now c.args.met c.extend.new.self c.in_ok-extend.ensures.ok c.put_word_if.new.out c.in_ok-put_word_if.ensures.ok c.put_word_if-2.new.out c.in_ok-put_word_if-2.ensures.ok
    c.put_word_if-3.new.out c.in_err-put_word_if-3.ensures.err)

pub returns-in_err-put_word_if-4-clause-err : goal.returns-in_err-put_word_if-4-clause-err
returns-in_err-put_word_if-4-clause-err c =
    let p = err_from_is_err_and c.from_residual-in_err-put_word_if-4.result c.from_residual-in_err-put_word_if-4.ensures.1 in
    rw p.1 (stops_beyond c.args.out.now c.args.met c.extend.new.self c.in_ok-extend.ensures.ok c.put_word_if.new.out c.in_ok-put_word_if.ensures.ok c.put_word_if-2.new.out c.in_ok-put_word_if-2.ensures.ok
    c.put_word_if-3.new.out c.put_word_if-4.new.out c.in_ok-put_word_if-3.ensures.ok c.in_err-put_word_if-4.ensures.err)
