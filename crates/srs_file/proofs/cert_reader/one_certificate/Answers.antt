use Rattle.std.proofs.Common.{◌≡◌, sym, ◌∙◌, ap, refl, inl, inr}
use Rattle.srs_cert.specs.Certificates.{cert_text}
use Rattle.srs_file.specs.CertReading.{cert_start, read_view}
use Rattle.srs_file.proofs.CertLaws.{cert_exact}
use Rattle.srs_file.proofs.CertDecided.{cert_total}
use Rattle.srs_file.proofs.CertTexts.{read_is_cert}
use Rattle.srs_file.proofs.CertRuns.{text_is_cert}
use Rattle.srs_file.proofs.cert_reader.one_certificate.Goals as goal

pub returns-clause-never_both : goal.returns-clause-never_both
returns-clause-never_both c text b line slip s f =
    let r = text_is_cert text b s in
    c.never_both.ensures cert_exact cert_start r.0 text line slip r.1 f

pub returns-clause-one_slip : goal.returns-clause-one_slip
returns-clause-one_slip c = c.one_slip.ensures cert_exact cert_start

pub returns-clause-one_value : goal.returns-clause-one_value
returns-clause-one_value c text b d s t =
    let r = text_is_cert text b s in
    let q = text_is_cert text d t in
    let same : r.0 ≡ q.0 = c.read_once.ensures cert_exact cert_start r.0 q.0 text r.1 q.1 in
    sym r.2 ∙ ap read_view same ∙ q.2

pub returns-clause-spelled : goal.returns-clause-spelled
returns-clause-spelled c text b (last, read, e) = rw e at (read_is_cert text last read)

pub returns-clause-read : goal.returns-clause-read
returns-clause-read c = text_is_cert

pub returns-clause-back : goal.returns-clause-back
returns-clause-back c b is = text_is_cert (cert_text b) b (record { certificate = is; spelled = refl })

pub returns-clause-either : goal.returns-clause-either
returns-clause-either c text =
    elim (c.read_or_slips.ensures cert_start cert_total text) [
      | inl read ↦ inl (read_view read.0, read_is_cert text read.0 read.1)
      | inr slip ↦ inr slip
    ]
