use Rattle.std.proofs.Common.{◌++◌, codes}
use Rattle.std.proofs.lemmas.Result.{err_from_is_err_and, on_err_weaker}
use Rattle.srs_cert.specs.Texts.{count_text, ended}
use Rattle.srs_cert.specs.Certificates.{cert_text}
use Rattle.srs_cert.specs.Lives.{journal_text, sessions_text}
use Rattle.srs_print.specs.Fronts.{StopsIn}
use Rattle.srs_print.proofs.FrontLemmas.{sooner, later}
use Rattle.srs_print.proofs.live.put_live.Goals as goal

pub returns-in_err-put_told-clause-err : goal.returns-in_err-put_told-clause-err
returns-in_err-put_told-clause-err c =
    let p = err_from_is_err_and c.from_residual.result c.from_residual.ensures.1 in
    let front = count_text (codes "live") 1 ++ journal_text c.args.run.now.journal ++ sessions_text c.args.run.now.transcripts ++ ended (codes "end") in
    rw p.1 (sooner c.args.out.now front (cert_text c.args.c.now) c.put_told.new.out c.in_err-put_told.ensures.err)

pub returns-clause-err : goal.returns-clause-err
returns-clause-err c =
    let front = count_text (codes "live") 1 ++ journal_text c.args.run.now.journal ++ sessions_text c.args.run.now.transcripts ++ ended (codes "end") in
    on_err_weaker c.put_cert.result (λ (s : StopsIn c.put_told.new.out (cert_text c.args.c.now) c.put_cert.new.out).
    later c.args.out.now c.put_told.new.out front (cert_text c.args.c.now) c.put_cert.new.out c.in_ok-put_told.ensures.ok s) c.put_cert.ensures.err
