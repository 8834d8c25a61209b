use Rattle.std.proofs.Common.{codes, flat_map}
use Rattle.std.proofs.lemmas.Result.{err_from_is_err_and}
use Rattle.srs_cert.specs.Texts.{count_text}
use Rattle.srs_cert.specs.Sayings.{said_text}
use Rattle.srs_print.proofs.FrontLemmas.{sooner}
use Rattle.srs_print.proofs.live.put_session.Goals as goal

pub returns-in_err-put_count-clause-err : goal.returns-in_err-put_count-clause-err
returns-in_err-put_count-clause-err c =
    let p = err_from_is_err_and c.from_residual.result c.from_residual.ensures.1 in
    rw p.1 (sooner c.args.out.now (count_text (codes "session") c.args.number) (flat_map said_text c.args.told.now) c.put_count.new.out c.in_err-put_count.ensures.err)
