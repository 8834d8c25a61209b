-- The text of a certificate is read as the certificate.
use Rattle.std.proofs.Common.{◌≡◌, ◌++◌, ℕ, pos, List, [], ◌∷◌, length, codes, flat_map, refl, sym, ap, ◌∙◌, inl, inr, arith, append_assoc, append-nil}
use Rattle.srs_plane.specs.declared.polygons.Vertex.{Vertex}
use Rattle.srs_plane.specs.Polygons.{IsPolygon}
use Rattle.srs_line.specs.declared.slip.FileErr.{FileErr}
use Rattle.srs_line.specs.declared.slip.FileErr.TheVariants.{At, NoMemory}
use Rattle.srs_line.specs.Machine.{lines_text, Runs}
use Rattle.srs_line.specs.Fields.{line_of}
use Rattle.srs_line.proofs.MachineLaws.{never_both}
use Rattle.srs_line.proofs.MachineLemmas.{runs_append, runs_inside}
use Rattle.srs_line.proofs.LineTexts.{says_line, line_no_lf}
use Rattle.srs_file.specs.declared.cert_reader.CertPhase.TheVariants.{Polygon}
use Rattle.srs_file.specs.declared.cert_reader.CertReader.{CertReader}
use Rattle.srs_cert.specs.Texts.{ended, ring_text}
use Rattle.srs_cert.specs.Certificates.{CertView, cert_text}
use Rattle.srs_file.specs.Grammar.{SpellsCertificate}
use Rattle.srs_file.specs.declared.outline.Outline.{Outline}
use Rattle.srs_file.specs.Outline.{no_outline}
use Rattle.srs_file.specs.TreeReading.{no_tree, no_leaf}
use Rattle.srs_file.specs.CertReading.{CertSteps, CertSlips, CertEnds, cert_start, ReadsAsCert, IsCertRefusal, IsNoCert}
use Rattle.srs_file.proofs.OutlineTexts.{OutlineSteps, whole_outline, outline_lines, joined_outline, outline_runs}
use Rattle.srs_file.proofs.CertLaws.{cert_exact, limit_numbers}
use Rattle.srs_file.proofs.TreeTexts.{events_text}
use Rattle.srs_file.proofs.LineShapes.{srs_plain, limits_plain, count_fits, limits_fit}
use Rattle.srs_file.proofs.TreeRuns.{event_lines, joined_events, st, tree_runs}

-- a reader within its polygon
abbrev with_outline : Outline → CertReader
with_outline outline = record { phase = Polygon; outline = outline; tree = no_tree }

polygon_read : (vs : List Vertex) → IsPolygon vs → Runs CertSteps (with_outline no_outline) (outline_lines vs) (with_outline (whole_outline vs))
polygon_read vs p =
    runs_inside OutlineSteps CertSteps with_outline (λ s u line q. inl (q.0, u, q.1, refl)) no_outline (whole_outline vs) (outline_lines vs) (outline_runs vs p)

regroup : (a p l n e : List ℕ) → (((a ++ p) ++ l) ++ n) ++ e ≡ a ++ (p ++ (l ++ (n ++ e)))
regroup a p l n e = simp append_assoc

pub text_is_cert : (text : List ℕ) (c : CertView) → SpellsCertificate text c → ReadsAsCert text c
text_is_cert text c s =
    let is = s.certificate in
    let vs = c.vertices in
    let whole = whole_outline vs in
    let ends = tree_runs whole c.limits is.limits_are 1 ([] ∷ []) [] c.events is.tree refl (omega (arith, is.within.cells)) is.within.each is.ranges in
    let srs = line_of (codes "srs") (pos 1 ∷ []) in
    let limits = line_of (codes "limits") (limit_numbers c.limits) in
    let lines = srs ∷ (outline_lines vs ++ limits ∷ event_lines c.events) in
    let fit = limits_fit c.limits is.limits_are in
    let tail : Runs CertSteps (with_outline whole) (limits ∷ event_lines c.events) ends.last = (
      st whole c.limits is.limits_are 1 ([] ∷ []) no_leaf [],
      inr ((refl, refl), (c.limits, (says_line (codes "limits") (limit_numbers c.limits) limits_plain fit, is.limits_are), refl)),
      line_no_lf (codes "limits") (limit_numbers c.limits) limits_plain fit,
      ends.runs,
    ) in
    let middle = runs_append CertSteps (with_outline no_outline) (with_outline whole) ends.last (outline_lines vs) (limits ∷ event_lines c.events) (polygon_read vs is.polygon) tail in
    let one = count_fits 1 (omega arith) in
    let parts : lines_text lines ≡ ended srs ++ (ring_text vs ++ (ended limits ++ (events_text c.events ++ ended (codes "end")))) =
    ap (λ x. ended srs ++ x) (joined_outline vs (limits ∷ event_lines c.events) ∙ ap (λ x. ring_text vs ++ (ended limits ++ x)) (joined_events c.events)) in
    let all : cert_text c ≡ lines_text lines = regroup (ended srs) (ring_text vs) (ended limits) (events_text c.events) (ended (codes "end")) ∙ sym parts in (
      ends.last,
      (
        length lines,
        record {
          lines = lines;
          count_is = refl;
          whole = s.spelled ∙ all ∙ sym (append-nil (lines_text lines));
          good = (with_outline no_outline, (says_line (codes "srs") (pos 1 ∷ []) srs_plain one, refl), line_no_lf (codes "srs") (pos 1 ∷ []) srs_plain one, middle);
        },
        ends.done,
      ),
      ends.view_is,
    )

-- a text that is refused is that of no certificate
pub no_cert : (text : List ℕ) (e : FileErr) → IsCertRefusal text e → IsNoCert text e
no_cert text (At line slip) f = λ c s. let r = text_is_cert text c s in never_both CertSteps CertSlips CertEnds cert_exact cert_start r.0 text line slip r.1 f
no_cert text NoMemory f = tt
