use Rattle.std.proofs.lemmas.Result.{err_from_is_err_and}
use Rattle.srs_cert.specs.Texts.{rank_text}
use Rattle.srs_print.proofs.FrontLemmas.{in_item, one_more}
use Rattle.srs_print.proofs.node.put_ranks.Goals as goal

pub returns-in_err-put_rank-clause-err : goal.returns-in_err-put_rank-clause-err
returns-in_err-put_rank-clause-err c =
    let p = err_from_is_err_and c.from_residual.result c.from_residual.ensures.1 in
    rw p.1 (in_item rank_text c.args.ranks.now c.loop-i.i c.entry-rank.result c.args.out.now c.loop-i.out c.put_rank.new.out c.entry-rank.ensures c.loop-i.invariant c.in_err-put_rank.ensures.err)

pub loop-i-preserved : goal.loop-i-preserved
loop-i-preserved c = one_more rank_text c.args.ranks.now c.loop-i.i c.entry-rank.result c.args.out.now c.loop-i.out c.put_rank.new.out c.entry-rank.ensures c.loop-i.invariant c.in_ok-put_rank.ensures.ok
