-- The text of sessions is read as the sessions.
use Rattle.std.proofs.Common.{◌≡◌, ◌<◌, ◌≤◌, ◌+◌, ◌++◌, All, ℕ, suc, pos, List, [], ◌∷◌, length, codes, refl, sym, ap, ◌∙◌, inl, inr, arith, append_assoc, append-nil, length-append, rules}
use Rattle.std.proofs.lemmas.List.Elements.{All-head}
use Rattle.srs_tree.specs.declared.sessions.Segment.{Segment}
use Rattle.srs_tree.specs.Sessions.{AreAscending}
use Rattle.srs_text.specs.Line.{HasNoLf}
use Rattle.srs_line.specs.Fields.{line_of}
use Rattle.srs_line.proofs.FieldLaws.{says_word}
use Rattle.srs_line.proofs.LineTexts.{says_line, line_no_lf}
use Rattle.srs_cert.specs.Texts.{ended, count_text}
use Rattle.srs_file.specs.declared.questions.Questions.{Questions}
use Rattle.srs_file.specs.declared.session_lines.Stage.{Stage}
use Rattle.srs_file.specs.declared.session_lines.Stage.TheVariants.{Nothing, Session, At}
use Rattle.srs_file.specs.Scripts.{SpellsAll, SpellsSegment, SpellsSession}
use Rattle.srs_file.specs.QuestionReading.{no_questions, TakesInSession}
use Rattle.srs_file.specs.SessionReading.{SessionsView, IsBegun, IsLater, segments_of, with_session, script_of, IsFree, closed, TakesSession}
use Rattle.srs_file.proofs.LineShapes.{IsPlainWord, high_plain, count_fits, clear_no_lf}
use Rattle.srs_file.proofs.Spelled.{Leads, leads_nowhere, leads_on, leads_inside}
use Rattle.srs_file.proofs.QuestionRuns.{after, session_asks_all}

-- behind these segments, a segment is open with questions so far
abbrev asking : List (List Segment) → List Segment → ℕ → Questions → SessionsView
asking script segments round questions =
    record { script = script; stage = At round; segments = segments; questions = questions }

at_plain : IsPlainWord (codes "at")
at_plain = high_plain (codes "at") (search rules)

-- the line of a round
round_line : (s : SessionsView) (round : ℕ) → IsFree s → IsBegun s.stage → IsLater s.stage round
    → round ≤ 99 → Leads TakesSession s (count_text (codes "at") round)
    (asking s.script (segments_of s) round no_questions)
round_line s round free begun later few =
    let line = line_of (codes "at") (pos round ∷ []) in
    let fit = count_fits round (omega (arith, few)) in
    let says = says_line (codes "at") (pos round ∷ []) at_plain fit in
    record {
      lines = line ∷ [];
      spelled = append-nil (ended line);
      runs = (
        asking s.script (segments_of s) round no_questions,
        inr (inl (
          free,
          begun,
          says_word (codes "at") line (pos round ∷ []) says,
          (round, ((omega arith, few, says), later), refl),
        )),
        line_no_lf (codes "at") (pos round ∷ []) at_plain fit,
        refl,
      );
    }

-- the lines of a segment
segment_leads : (s : SessionsView) (text : List ℕ) (segment : Segment) → IsFree s → IsBegun s.stage
    → IsLater s.stage segment.at → SpellsSegment text segment
    → Leads TakesSession s text (asking s.script (segments_of s) segment.at (after segment.queries))
segment_leads s text segment free begun later p =
    let inside = asking s.script (segments_of s) segment.at in
    let head = round_line s segment.at free begun later p.shallow in
    let asked = leads_inside TakesInSession TakesSession inside
    (λ x u line q. inr (inr (tt, u, q, refl))) no_questions (after segment.queries) p.questions
    (session_asks_all [] p.questions segment.queries p.of_questions) in
    rw p.whole (leads_on TakesSession s (inside no_questions) (inside (after segment.queries))
    (count_text (codes "at") segment.at) p.questions head asked)

-- where some lines of a session lead: the segments are open behind those of the state
record Opens (s : SessionsView) (segments : List Segment) (t : SessionsView) : Type 0 where
  free : IsFree t
  begun : IsBegun t.stage
  script : t.script ≡ s.script
  segments_are : segments_of t ≡ segments_of s ++ segments

segments_lead : (s : SessionsView) (text : List ℕ) (segments : List Segment) → IsFree s
    → IsBegun s.stage → All (λ (x : Segment). IsLater s.stage x.at) segments → AreAscending segments
    → SpellsAll SpellsSegment text segments → (t : SessionsView) × Leads TakesSession s text t
    × Opens s segments t
segments_lead s text [] free begun later ascending e = (
  s,
  rw e (leads_nowhere TakesSession s),
  record {
    free = free;
    begun = begun;
    script = refl;
    segments_are = sym (append-nil (segments_of s));
  },
)
segments_lead s text (x ∷ segments) free begun later ascending (first, rest, whole, one, more) =
    let u = asking s.script (segments_of s) x.at (after x.queries) in
    let here = segment_leads s first x free begun
    (All-head (λ (y : Segment). IsLater s.stage y.at) x segments later) one in
    let next : All (λ (y : Segment). x.at < y.at) segments =
    λ k d lt. ascending 0 (suc k) d (omega arith) (omega arith) in
    let up : AreAscending segments =
    λ i j d lt within. ascending (suc i) (suc j) d (omega arith) (omega arith) in
    let then = segments_lead u rest segments refl tt next up more in
    let all : segments_of then.0 ≡ segments_of s ++ x ∷ segments = then.2.segments_are
    ∙ append_assoc (segments_of s) (x ∷ []) segments in (
      then.0,
      rw whole (leads_on TakesSession s u then.0 first rest here then.1),
      record {
        free = then.2.free;
        begun = then.2.begun;
        script = then.2.script;
        segments_are = all;
      },
    )

session_no_lf : HasNoLf (codes "session")
session_no_lf = clear_no_lf (codes "session") (search rules)

-- the line `session`
abbrev begun_at : SessionsView → SessionsView
begun_at s = record (closed s) { stage = Session }

session_line : (s : SessionsView) → IsFree s → length (script_of s) < 8
    → Leads TakesSession s (ended (codes "session")) (begun_at s)
session_line s free few =
    record {
      lines = codes "session" ∷ [];
      spelled = append-nil (ended (codes "session"));
      runs = (begun_at s, inl (free, refl, (few, refl)), session_no_lf, refl);
    }

-- a session that is open is the last one
last_open : (stage : Stage) (script : List (List Segment)) (segments : List Segment) → IsBegun stage
    → with_session stage script segments ≡ script ++ segments ∷ []
last_open Nothing script segments begun = absurd begun
last_open Session script segments begun = refl
last_open (At round) script segments begun = refl

-- the lines of a session
session_leads : (s : SessionsView) (text : List ℕ) (session : List Segment) → IsFree s
    → length (script_of s) < 8 → SpellsSession text session
    → (t : SessionsView) × Leads TakesSession s text t × IsFree t
    × (script_of t ≡ script_of s ++ session ∷ [])
session_leads s text session free few p =
    let head = session_line s free few in
    let then = segments_lead (begun_at s) p.segments session refl tt
    (λ k d lt. tt) p.ascending p.of_segments in
    let all : script_of then.0 ≡ script_of s ++ session ∷ [] =
    last_open then.0.stage then.0.script (segments_of then.0) then.2.begun
    ∙ rw (then.2.script, then.2.segments_are) refl in (
      then.0,
      rw p.whole
          (leads_on TakesSession s (begun_at s) then.0
          (ended (codes "session")) p.segments head then.1),
      then.2.free,
      all,
    )

pub sessions_lead : (s : SessionsView) (text : List ℕ) (sessions : List (List Segment)) → IsFree s
    → length (script_of s) + length sessions ≤ 8 → SpellsAll SpellsSession text sessions
    → (t : SessionsView) × Leads TakesSession s text t × IsFree t
    × (script_of t ≡ script_of s ++ sessions)
sessions_lead s text [] free few e =
    (s, rw e (leads_nowhere TakesSession s), free, sym (append-nil (script_of s)))
sessions_lead s text (x ∷ sessions) free few (first, rest, whole, one, more) =
    let (u, here, again, so) = session_leads s first x free (omega arith) one in
    let size : length (script_of u) + length sessions ≤ 8 =
    omega (arith, ap length so, length-append (script_of s) (x ∷ [])) in
    let (t, then, last, all) = sessions_lead u rest sessions again size more in (
      t,
      rw whole (leads_on TakesSession s u t first rest here then),
      last,
      all
          ∙ rw so (append_assoc (script_of s) (x ∷ []) sessions),
    )
