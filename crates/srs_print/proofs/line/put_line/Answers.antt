use Rattle.std.proofs.Common.{◌∷◌, []}
use Rattle.srs_line.specs.Fields.{line_of}
use Rattle.srs_print.proofs.FrontLemmas.{sooner}
use Rattle.std.proofs.lemmas.Result.{err_from_is_err_and}
use Rattle.srs_print.proofs.line.put_line.Goals as goal

pub returns-in_err-put_words-clause-err : goal.returns-in_err-put_words-clause-err
returns-in_err-put_words-clause-err c =
    let p = err_from_is_err_and c.from_residual.result c.from_residual.ensures.1 in
    rw p.1 (sooner c.args.out.now (line_of c.args.word.now c.args.numbers.now) (10 ∷ []) c.put_words.new.out c.in_err-put_words.ensures.err)
