use Rattle.std.proofs.Common.{◌≡◌, sym, ◌∙◌, ap, inl, inr}
use Rattle.srs_file.specs.declared.polygon_reader.PolygonReader.{PolygonReader}
use Rattle.srs_file.specs.PolygonReading.{start}
use Rattle.srs_file.proofs.PolygonLaws.{exact}
use Rattle.srs_file.proofs.PolygonDecided.{polygon_total}
use Rattle.srs_file.proofs.PolygonTexts.{read_is_text, text_is_read}
use Rattle.srs_file.proofs.polygon_reader.one_polygon.Goals as goal

pub returns-clause-never_both : goal.returns-clause-never_both
returns-clause-never_both c text vs line slip s f =
    let r = text_is_read text vs s in
    c.never_both.ensures exact start r.0 text line slip r.1 f

pub returns-clause-one_slip : goal.returns-clause-one_slip
returns-clause-one_slip c = c.one_slip.ensures exact start

pub returns-clause-one_list : goal.returns-clause-one_list
returns-clause-one_list c text vs ws s t =
    let r = text_is_read text vs s in
    let q = text_is_read text ws t in
    let same : r.0 ≡ q.0 = c.read_once.ensures exact start r.0 q.0 text r.1 q.1 in
    sym r.2 ∙ ap (λ (x : PolygonReader). x.outline.ring.vertices) same ∙ q.2

pub returns-clause-spelled : goal.returns-clause-spelled
returns-clause-spelled c text vs (last, read, e) = rw e at (read_is_text text last read).0

pub returns-clause-read : goal.returns-clause-read
returns-clause-read c = text_is_read

pub returns-clause-either : goal.returns-clause-either
returns-clause-either c text =
    elim (c.read_or_slips.ensures start polygon_total text) [
      | inl read ↦ inl (read.0.outline.ring.vertices, (read_is_text text read.0 read.1).0)
      | inr slip ↦ inr slip
    ]
