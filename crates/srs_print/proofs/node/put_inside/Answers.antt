use Rattle.std.proofs.Common.{length, codes, flat_map}
use Rattle.srs_cert.specs.Texts.{count_text, rank_text}
use Rattle.srs_print.proofs.FrontLemmas.{sooner}
use Rattle.std.proofs.lemmas.Result.{err_from_is_err_and}
use Rattle.srs_print.proofs.node.put_inside.Goals as goal

pub returns-in_err-put_count-clause-err : goal.returns-in_err-put_count-clause-err
returns-in_err-put_count-clause-err c =
    let p = err_from_is_err_and c.from_residual.result c.from_residual.ensures.1 in
    rw p.1 (sooner c.args.out.now (count_text (codes "in") (length c.args.ranks.now)) (flat_map rank_text c.args.ranks.now) c.put_count.new.out (rw c.len.ensures.len at c.in_err-put_count.ensures.err))
