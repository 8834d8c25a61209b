use Rattle.std.proofs.lemmas.Result.{err_from_is_err_and}
use Rattle.srs_line.specs.Machine.{IsRead}
use Rattle.srs_file.specs.CertReading.{cert_start, CertSteps, CertEnds}
use Rattle.srs_file.proofs.CertTexts.{read_is_cert}
use Rattle.srs_file.proofs.CertRuns.{no_cert}
use Rattle.srs_file.proofs.cert_reader.read_cert.Goals as goal

pub returns-in_err-read_lines-clause-outside : goal.returns-in_err-read_lines-clause-outside
returns-in_err-read_lines-clause-outside c =
    let p = err_from_is_err_and c.from_residual.result c.from_residual.ensures.1 in
    rw (p.1, p.2) (no_cert c.args.text.now _ (rw c.new-reader.ensures at c.in_err-read_lines.ensures.refused))

pub into_cert-requires : goal.into_cert-requires
into_cert-requires c =
    let last = c.read_lines.new.machine in
    let read : IsRead CertSteps CertEnds cert_start c.args.text.now last = rw c.new-reader.ensures at c.in_ok-read_lines.ensures.read in
    (read_is_cert c.args.text.now last read).certificate

pub returns-clause-accepted : goal.returns-clause-accepted
returns-clause-accepted c =
    let last = c.read_lines.new.machine in
    let read : IsRead CertSteps CertEnds cert_start c.args.text.now last = rw c.new-reader.ensures at c.in_ok-read_lines.ensures.read in
    rw c.in_ok-into_cert.ensures (read_is_cert c.args.text.now last read)
