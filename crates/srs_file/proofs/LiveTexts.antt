-- What is read as an input of `live` is its text, and its text is read.
use Rattle.std.proofs.Common.{◌≡◌, ◌++◌, ◌⊎◌, true, false, ℕ, List, [], ◌∷◌, length, codes, refl, sym, ap, ◌∙◌, inl, inr, arith, append_assoc, append-nil}
use Rattle.srs_plane.specs.declared.polygons.Vertex.{Vertex}
use Rattle.srs_plane.specs.Polygons.{IsPolygon}
use Rattle.srs_tree.specs.declared.sessions.Segment.{Segment}
use Rattle.srs_line.specs.Machine.{lines_text, Runs, IsRead}
use Rattle.srs_line.specs.declared.slip.FileErr.{FileErr}
use Rattle.srs_line.specs.declared.slip.FileErr.TheVariants.{At, NoMemory}
use Rattle.srs_line.proofs.MachineLaws.{never_both}
use Rattle.srs_cert.specs.Texts.{ended, ring_text}
use Rattle.srs_file.specs.declared.outline.Outline.{Outline}
use Rattle.srs_file.specs.declared.live_reader.LiveReader.{LiveReader}
use Rattle.srs_file.specs.Grammar.{SpellsLive}
use Rattle.srs_file.specs.Ring.{IsFull}
use Rattle.srs_file.specs.Outline.{no_outline, IsWholeOutline, TakesOutline}
use Rattle.srs_file.specs.SessionReading.{SessionsView, no_sessions, closed, script_of, TakesSession}
use Rattle.srs_file.specs.LiveReading.{live_start, LiveSteps, LiveSlips, LiveEnds, ReadsAsLive, IsLiveRefusal, IsNoLive}
use Rattle.srs_file.proofs.OutlineTexts.{outline_text, IsFine, outline_grows, whole_text, OutlineSteps, whole_outline, outline_lines, joined_outline, outline_runs}
use Rattle.srs_file.proofs.LineShapes.{end_no_lf}
use Rattle.srs_file.proofs.Spelled.{Leads, leads_on, leads_inside}
use Rattle.srs_file.proofs.SessionTexts.{IsScriptText, no_script, script_spelled, session_grows}
use Rattle.srs_file.proofs.SessionRuns.{sessions_lead}
use Rattle.srs_file.proofs.LiveReaderLaws.{live_exact}

-- the text that led to the state before the end: that of the polygon, and of the sessions behind it
record IsBefore (s : LiveReader) (text : List ℕ) : Type 0 where
  fine : IsFine s.outline
  behind : List ℕ
  of_behind : IsScriptText s.sessions behind
  none_yet : ¬ (IsWholeOutline s.outline) → behind ≡ []
  text_is : text ≡ outline_text s.outline ++ behind

-- the text that led to the state
abbrev IsTextOf : LiveReader → List ℕ → Type 0
IsTextOf s text =
    (¬ (LiveEnds s) × IsBefore s text)
    ⊎ (LiveEnds s × SpellsLive text s.outline.ring.vertices s.sessions.script
    × IsFull s.outline.ring)

in_polygon : (s : LiveReader) (outline : Outline) (line text : List ℕ)
    → ¬ (IsWholeOutline s.outline) → TakesOutline s.outline line outline → IsBefore s text
    → IsBefore (record s { outline = outline }) (text ++ ended line)
in_polygon s outline line text more p was =
    let grown = outline_grows s.outline outline line more p in
    let none = was.none_yet more in
    let text_is : text ++ ended line ≡ outline_text outline ++ was.behind =
    rw (was.text_is, none, grown.0, append-nil (outline_text s.outline))
    (sym (append-nil (outline_text s.outline ++ ended line))) in
    record {
      fine = grown.1;
      behind = was.behind;
      of_behind = was.of_behind;
      none_yet = λ still. none;
      text_is = text_is;
    }

in_sessions : (s : LiveReader) (sessions : SessionsView) (line text : List ℕ)
    → IsWholeOutline s.outline → TakesSession s.sessions line sessions → IsBefore s text
    → IsBefore (record s { sessions = sessions }) (text ++ ended line)
in_sessions s sessions line text whole p was = record {
  fine = was.fine;
  behind = was.behind ++ ended line;
  of_behind = session_grows s.sessions sessions line was.behind p was.of_behind;
  none_yet = λ more. absurd (more whole);
  text_is = rw was.text_is (append_assoc (outline_text s.outline) was.behind (ended line));
}

at_end : (s : LiveReader) (text : List ℕ) → IsWholeOutline s.outline
    → s.sessions.questions.ring.left ≡ 0 → IsBefore s text
    → SpellsLive (text ++ ended (codes "end")) s.outline.ring.vertices (script_of s.sessions)
    × IsFull s.outline.ring
at_end s text whole free was =
    let full = was.fine whole in
    let all = script_spelled s.sessions was.behind free was.of_behind in
    let text_is : text ≡ ring_text s.outline.ring.vertices ++ was.behind = was.text_is
    ∙ ap (λ x. x ++ was.behind) (whole_text s.outline whole) in (
      record {
        polygon = full.0;
        few = all.1;
        sessions = was.behind;
        of_sessions = all.0;
        whole = ap (λ x. x ++ ended (codes "end")) text_is;
      },
      full,
    )

step_text : (s t : LiveReader) (line text : List ℕ) → LiveSteps s line t → IsTextOf s text
    → IsTextOf t (text ++ ended line)
step_text s t line text (still, p) (inr (end, spells, full)) = absurd (still end)
step_text s t line text (still, inl (more, outline, p, e)) (inl (so, was)) =
    rw e (inl (still, in_polygon s outline line text more p was))
step_text s t line text (still, inr (whole, inl (sessions, p, e))) (inl (so, was)) =
    rw e (inl (still, in_sessions s sessions line text whole p was))
step_text s t line text (still, inr (whole, inr (here, e))) (inl (so, was)) = let all =
    at_end s text whole here.0 was in rw (e, here.1) (inr (refl, all.0, all.1))

runs_text : (s t : LiveReader) (lines : List (List ℕ)) (text : List ℕ) → Runs LiveSteps s lines t
    → IsTextOf s text → IsTextOf t (text ++ lines_text lines)
runs_text s t [] text e was = rw (← e, append-nil text) was
runs_text s t (line ∷ lines) text (u, step, plain, runs) was =
    let more = runs_text u t lines (text ++ ended line) runs (step_text s u line text step was) in
    rw (append_assoc text (ended line) (lines_text lines)) at more

-- a reader within its polygon, and one within its sessions
abbrev with_outline : Outline → LiveReader
with_outline outline = record { outline = outline; sessions = no_sessions; ended = false }

abbrev with_sessions : List Vertex → SessionsView → LiveReader
with_sessions vs sessions =
    record { outline = whole_outline vs; sessions = sessions; ended = false }

not_ended : (s : LiveReader) → s.ended ≡ false → ¬ (LiveEnds s)
not_ended s e end = cc

start_text : IsTextOf live_start []
start_text = inl (
  not_ended live_start refl,
  record {
    fine = λ whole. absurd (let e = whole.0 in cc);
    behind = [];
    of_behind = no_script;
    none_yet = λ more. refl;
    text_is = refl;
  },
)

pub read_is_live : (text : List ℕ) (last : LiveReader)
    → IsRead LiveSteps LiveEnds live_start text last
    → SpellsLive text last.outline.ring.vertices last.sessions.script × IsFull last.outline.ring
read_is_live text last (count, reaches, end) =
    let whole : text ≡ lines_text reaches.lines = reaches.whole
    ∙ append-nil (lines_text reaches.lines) in
    elim (runs_text live_start last reaches.lines [] reaches.good start_text) [
      | inl before ↦ absurd (before.0 end)
      | inr done ↦ rw whole (done.1, done.2)
    ]

polygon_leads : (vs : List Vertex) → IsPolygon vs
    → Leads OutlineSteps no_outline (ring_text vs) (whole_outline vs)
polygon_leads vs polygon =
    let all = append-nil (outline_lines vs) in
    let spelled : lines_text (outline_lines vs) ≡ ring_text vs = ap lines_text (sym all)
    ∙ joined_outline vs [] ∙ append-nil (ring_text vs) in
    record { lines = outline_lines vs; spelled = spelled; runs = outline_runs vs polygon }

pub live_is_read : (text : List ℕ) (vs : List Vertex) (script : List (List Segment))
    → SpellsLive text vs script → ReadsAsLive text vs script
live_is_read text vs script s =
    let (t, sessions, free, all) =
    sessions_lead no_sessions s.sessions script refl
    (let few = s.few in omega (arith, few)) s.of_sessions in
    let last : LiveReader =
    record { outline = whole_outline vs; sessions = closed t; ended = true } in
    let first = leads_inside OutlineSteps LiveSteps with_outline
    (λ o u line q. (not_ended (with_outline o) refl, inl (q.0, u, q.1, refl))) no_outline
    (whole_outline vs) (ring_text vs) (polygon_leads vs s.polygon) in
    let then = leads_inside TakesSession LiveSteps (with_sessions vs)
    (λ x u line q. (
      not_ended (with_sessions vs x) refl,
      inr ((refl, refl), inl (u, q, refl)),
    )) no_sessions t s.sessions sessions in
    let end : Leads LiveSteps (with_sessions vs t) (ended (codes "end")) last = record {
      lines = codes "end" ∷ [];
      spelled = append-nil (ended (codes "end"));
      runs = (
        last,
        (
          not_ended (with_sessions vs t) refl,
          inr ((refl, refl), inr ((free, refl), refl)),
        ),
        end_no_lf,
        refl,
      );
    } in
    let front = leads_on LiveSteps live_start (with_sessions vs no_sessions) (with_sessions vs t)
    (ring_text vs) s.sessions first then in
    let whole = leads_on LiveSteps live_start (with_sessions vs t) last (ring_text vs ++ s.sessions)
    (ended (codes "end")) front end in
    let text_is : text ≡ lines_text whole.lines ++ [] = s.whole ∙ sym whole.spelled
    ∙ sym (append-nil (lines_text whole.lines)) in (
      last,
      (
        length whole.lines,
        record {
          lines = whole.lines;
          count_is = refl;
          whole = text_is;
          good = whole.runs;
        },
        refl,
      ),
      refl,
      all,
    )

-- a text that is refused is no input of `live`
pub no_live : (text : List ℕ) (e : FileErr) → IsLiveRefusal text e → IsNoLive text e
no_live text (At line slip) f = λ vs script s. let r = live_is_read text vs script s in
    never_both LiveSteps LiveSlips LiveEnds live_exact live_start r.0 text line slip r.1 f
no_live text NoMemory f = tt
