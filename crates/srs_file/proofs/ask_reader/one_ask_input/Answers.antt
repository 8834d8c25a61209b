use Rattle.std.proofs.Common.{◌≡◌, sym, ◌∙◌, ap, inl, inr}
use Rattle.srs_file.specs.declared.ask_reader.AskReader.{AskReader}
use Rattle.srs_file.specs.CertReading.{read_view}
use Rattle.srs_file.specs.AskReading.{ask_start}
use Rattle.srs_file.proofs.AskLaws.{ask_exact}
use Rattle.srs_file.proofs.AskDecided.{ask_total}
use Rattle.srs_file.proofs.AskTexts.{read_is_ask, ask_is_read}
use Rattle.srs_file.proofs.ask_reader.one_ask_input.Goals as goal

pub returns-clause-never_both : goal.returns-clause-never_both
returns-clause-never_both c text b queries line slip s f =
    let r = ask_is_read text b queries s in
    c.never_both.ensures ask_exact ask_start r.0 text line slip r.1 f

pub returns-clause-one_slip : goal.returns-clause-one_slip
returns-clause-one_slip c = c.one_slip.ensures ask_exact ask_start

pub returns-clause-one_value : goal.returns-clause-one_value
returns-clause-one_value c text b d ps qs s t =
    let r = ask_is_read text b ps s in
    let q = ask_is_read text d qs t in
    let same : r.0 ≡ q.0 = c.read_once.ensures ask_exact ask_start r.0 q.0 text r.1 q.1 in
    (sym r.2 ∙ ap (λ (x : AskReader). read_view x.cert) same ∙ q.2, sym r.3 ∙ ap (λ (x : AskReader). x.questions.queries) same ∙ q.3)

pub returns-clause-spelled : goal.returns-clause-spelled
returns-clause-spelled c text b queries (last, read, e, f) = rw (e, f) at (read_is_ask text last read)

pub returns-clause-read : goal.returns-clause-read
returns-clause-read c = ask_is_read

pub returns-clause-either : goal.returns-clause-either
returns-clause-either c text =
    elim (c.read_or_slips.ensures ask_start ask_total text) [
      | inl read ↦ inl (read_view read.0.cert, read.0.questions.queries, read_is_ask text read.0 read.1)
      | inr slip ↦ inr slip
    ]
