use Rattle.std.proofs.Common.{pos, length, codes, ◌∷◌, []}
use Rattle.srs_line.specs.Fields.{line_of}
use Rattle.srs_print.proofs.FrontLemmas.{sooner}
use Rattle.std.proofs.lemmas.Result.{err_from_is_err_and}
use Rattle.srs_print.proofs.node.put_outside.Goals as goal

pub returns-in_err-put_cycle-clause-err : goal.returns-in_err-put_cycle-clause-err
returns-in_err-put_cycle-clause-err c =
    let p = err_from_is_err_and c.from_residual.result c.from_residual.ensures.1 in
    rw p.1 (sooner c.args.out.now (line_of (codes "out") (pos (length c.args.cycle.now) ∷ c.args.cycle.now)) (10 ∷ []) c.put_cycle.new.out c.in_err-put_cycle.ensures.err)
