use Rattle.std.proofs.lemmas.Result.{err_from_is_err_and}
use Rattle.srs_cert.specs.Lives.{side_word}
use Rattle.srs_print.proofs.FrontLemmas.{in_item, one_more}
use Rattle.srs_print.proofs.live.put_sides.Goals as goal

pub returns-in_err-put_side-clause-err : goal.returns-in_err-put_side-clause-err
returns-in_err-put_side-clause-err c =
    let p = err_from_is_err_and c.from_residual.result c.from_residual.ensures.1 in
    rw p.1 (in_item side_word c.args.path.now c.loop-i.i c.side.result c.args.out.now c.loop-i.out c.put_side.new.out c.side.ensures c.loop-i.invariant c.in_err-put_side.ensures.err)

pub loop-i-preserved : goal.loop-i-preserved
loop-i-preserved c =
    one_more side_word c.args.path.now c.loop-i.i c.side.result c.args.out.now c.loop-i.out c.put_side.new.out c.side.ensures c.loop-i.invariant c.in_ok-put_side.ensures.ok
