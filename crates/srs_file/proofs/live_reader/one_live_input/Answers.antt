use Rattle.std.proofs.Common.{◌≡◌, sym, ◌∙◌, ap, inl, inr}
use Rattle.srs_file.specs.declared.live_reader.LiveReader.{LiveReader}
use Rattle.srs_file.specs.LiveReading.{live_start}
use Rattle.srs_file.proofs.LiveReaderLaws.{live_exact}
use Rattle.srs_file.proofs.LiveDecided.{live_total}
use Rattle.srs_file.proofs.LiveTexts.{read_is_live, live_is_read}
use Rattle.srs_file.proofs.live_reader.one_live_input.Goals as goal

pub returns-clause-never_both : goal.returns-clause-never_both
returns-clause-never_both c text vs script line slip s f =
    let r = live_is_read text vs script s in
    c.never_both.ensures live_exact live_start r.0 text line slip r.1 f

pub returns-clause-one_slip : goal.returns-clause-one_slip
returns-clause-one_slip c = c.one_slip.ensures live_exact live_start

pub returns-clause-one_value : goal.returns-clause-one_value
returns-clause-one_value c text vs ws a b s t =
    let r = live_is_read text vs a s in
    let q = live_is_read text ws b t in
    let same : r.0 ≡ q.0 = c.read_once.ensures live_exact live_start r.0 q.0 text r.1 q.1 in
    (sym r.2 ∙ ap (λ (x : LiveReader). x.outline.ring.vertices) same ∙ q.2, sym r.3 ∙ ap (λ (x : LiveReader). x.sessions.script) same ∙ q.3)

pub returns-clause-either : goal.returns-clause-either
returns-clause-either c text =
    elim (c.read_or_slips.ensures live_start live_total text) [
      | inl read ↦ inl (read.0.outline.ring.vertices, read.0.sessions.script, (read_is_live text read.0 read.1).0)
      | inr slip ↦ inr slip
    ]
