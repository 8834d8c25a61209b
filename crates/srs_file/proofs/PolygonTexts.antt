-- What is read as a polygon is its text, and its text is read.
use Rattle.std.proofs.Common.{◌≡◌, ◌++◌, Bool, true, false, ℕ, List, [], ◌∷◌, length, Some, codes, refl, sym, ap, ◌∙◌, inl, inr, append_assoc, append-nil}
use Rattle.srs_plane.specs.declared.polygons.Vertex.{Vertex}
use Rattle.srs_plane.specs.Polygons.{region_of}
use Rattle.srs_line.specs.Machine.{lines_text, Runs, IsRead}
use Rattle.srs_line.specs.declared.slip.FileErr.{FileErr}
use Rattle.srs_line.specs.declared.slip.FileErr.TheVariants.{At, NoMemory}
use Rattle.srs_line.proofs.MachineLaws.{never_both}
use Rattle.srs_line.proofs.MachineLemmas.{runs_append, runs_inside}
use Rattle.srs_cert.specs.Texts.{ended, polygon_text}
use Rattle.srs_file.specs.declared.outline.Outline.{Outline}
use Rattle.srs_file.specs.declared.polygon_reader.PolygonReader.{PolygonReader}
use Rattle.srs_file.specs.Grammar.{SpellsPolygon}
use Rattle.srs_file.specs.Outline.{no_outline, IsWholeOutline, TakesOutline}
use Rattle.srs_file.specs.PolygonReading.{Steps, Slips, IsEnd, start, ReadsAs, IsRefusal, IsNotSpelled}
use Rattle.srs_file.proofs.OutlineTexts.{outline_text, IsFine, not_true, outline_grows, whole_text, OutlineSteps, whole_outline, outline_lines, joined_outline, outline_runs}
use Rattle.srs_file.proofs.PolygonLaws.{exact}
use Rattle.srs_file.proofs.LineShapes.{end_no_lf}

-- a reader within its polygon
abbrev with_outline : Outline → PolygonReader
with_outline outline = record { outline = outline; ended = false }

not_ended : (outline : Outline) → ¬ (IsEnd (with_outline outline))
not_ended outline e = cc

-- the text that led to the state
abbrev spelled : Bool → Outline → List ℕ
spelled false outline = outline_text outline
spelled true outline = outline_text outline ++ ended (codes "end")

-- what holds of a state that good lines lead to
record IsReached (s : PolygonReader) : Type 0 where
  fine : IsFine s.outline
  whole : IsEnd s → IsWholeOutline s.outline

at_flag : (b c : Bool) (outline : Outline) → b ≡ c → spelled b outline ≡ spelled c outline
at_flag b c outline e = rw e refl

step_text : (s t : PolygonReader) (line : List ℕ) → Steps s line t → IsReached s → (spelled t.ended t.outline ≡ spelled s.ended s.outline ++ ended line) × IsReached t
step_text s t line (still, inl (a, outline, p, e)) r =
    let more = outline_grows s.outline outline line a p in
    let flag = not_true s.ended still in
    rw (e, at_flag s.ended false outline flag, at_flag s.ended false s.outline flag) (more.0, record { fine = more.1; whole = λ end. absurd (still end) })
step_text s t line (still, inr (a, p, e)) r =
    rw (e, p, at_flag s.ended false s.outline (not_true s.ended still)) (refl, record { fine = r.fine; whole = λ end. a })

runs_text : (s t : PolygonReader) (lines : List (List ℕ)) → Runs Steps s lines t → IsReached s → (spelled t.ended t.outline ≡ spelled s.ended s.outline ++ lines_text lines) × IsReached t
runs_text s t [] e r = rw (← e) (sym (append-nil (spelled s.ended s.outline)), r)
runs_text s t (line ∷ lines) (u, step, plain, runs) r =
    let one = step_text s u line step r in
    let more = runs_text u t lines runs one.1 in
    (more.0 ∙ ap (λ x. x ++ lines_text lines) one.0 ∙ append_assoc (spelled s.ended s.outline) (ended line) (lines_text lines), more.1)

pub read_is_text : (text : List ℕ) (last : PolygonReader) → IsRead Steps IsEnd start text last
    → SpellsPolygon text last.outline.ring.vertices × (last.outline.ring.region ≡ Some (region_of last.outline.ring.vertices))
read_is_text text last (count, reaches, end) =
    let all = runs_text start last reaches.lines reaches.good (record { fine = λ whole. absurd (let e = whole.0 in cc); whole = λ e. absurd (not_ended no_outline e) }) in
    let full = all.1.fine (all.1.whole end) in
    let said : outline_text last.outline ++ ended (codes "end") ≡ lines_text reaches.lines = sym (at_flag last.ended true last.outline end) ∙ all.0 in
    let text_is = ap (λ x. x ++ ended (codes "end")) (sym (whole_text last.outline (all.1.whole end))) in
    (record { polygon = full.0; spelled = reaches.whole ∙ append-nil (lines_text reaches.lines) ∙ sym said ∙ sym text_is }, full.1)

pub text_is_read : (text : List ℕ) (vs : List Vertex) → SpellsPolygon text vs → ReadsAs text vs
text_is_read text vs s =
    let last : PolygonReader = record { outline = whole_outline vs; ended = true } in
    let lines = outline_lines vs ++ codes "end" ∷ [] in
    let polygon = runs_inside OutlineSteps Steps with_outline (λ o u line q. (not_ended o, inl (q.0, u, q.1, refl))) no_outline (whole_outline vs) (outline_lines vs) (outline_runs vs s.polygon) in
    let end : Runs Steps (with_outline (whole_outline vs)) (codes "end" ∷ []) last = (last, (not_ended (whole_outline vs), inr ((refl, refl), refl, refl)), end_no_lf, refl) in
    let good = runs_append Steps start (with_outline (whole_outline vs)) last (outline_lines vs) (codes "end" ∷ []) polygon end in
    let whole : text ≡ lines_text lines ++ [] = s.spelled ∙ sym (joined_outline vs (codes "end" ∷ [])) ∙ sym (append-nil (lines_text lines)) in
    (last, (length lines, record { lines = lines; count_is = refl; whole = whole; good = good }, refl), refl)

-- a text that is refused is that of no polygon
pub outside : (text : List ℕ) (e : FileErr) → IsRefusal text e → IsNotSpelled text e
outside text (At line slip) f = λ vs s. let r = text_is_read text vs s in never_both Steps Slips IsEnd exact start r.0 text line slip r.1 f
outside text NoMemory f = tt
