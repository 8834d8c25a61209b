-- What is read as sessions is their text.
use Rattle.std.proofs.Common.{◌≡◌, ◌<◌, ◌≤◌, ◌++◌, All, ℕ, pos, List, [], ◌∷◌, length, codes, refl, sym, ap, ◌∙◌, inl, inr, arith, append_assoc, append-nil, length-append}
use Rattle.std.proofs.lemmas.List.Elements.{All-nil, All-push}
use Rattle.srs_tree.specs.declared.sessions.Segment.{Segment}
use Rattle.srs_tree.specs.Sessions.{AreAscending}
use Rattle.srs_line.proofs.LineTexts.{said_is}
use Rattle.srs_cert.specs.Texts.{ended, count_text}
use Rattle.srs_file.specs.declared.questions.Questions.{Questions}
use Rattle.srs_file.specs.declared.session_lines.Stage.{Stage}
use Rattle.srs_file.specs.declared.session_lines.Stage.TheVariants.{Nothing, Session, At}
use Rattle.srs_file.specs.Questions.{IsSessionQuestion}
use Rattle.srs_file.specs.Scripts.{SpellsAll, SpellsSegment, SpellsSession}
use Rattle.srs_file.specs.QuestionReading.{TakesInSession}
use Rattle.srs_file.specs.SessionReading.{SessionsView, no_sessions, IsBegun, HasRound, IsLater, IsOpenFit, with_open, with_session, script_of, IsFree, TakesSession}
use Rattle.srs_file.proofs.Spelled.{spells_push, pairs_push}
use Rattle.srs_file.proofs.QuestionTexts.{IsAsked, none_asked, all_asked, session_asked}

-- the text of the open segment of a session
pub record IsSegmentText (round : ℕ) (segments : List Segment) (questions : Questions)
    (text : List ℕ) : Type 0 where
  pub shallow : round ≤ 99
  pub before : List ℕ
  pub of_before : SpellsAll SpellsSegment before segments
  pub asked : List ℕ
  pub of_asked : IsAsked IsSessionQuestion questions asked
  pub whole : text ≡ (ended (codes "session") ++ before) ++ (count_text (codes "at") round ++ asked)

-- the text of what is open
abbrev pub IsOpenText : Stage → List Segment → Questions → List ℕ → Type 0
IsOpenText Nothing segments questions text = text ≡ []
IsOpenText Session segments questions text = text ≡ ended (codes "session")
IsOpenText (At round) segments questions text = IsSegmentText round segments questions text

-- the text is that of the whole sessions, and of what is open
pub record IsScriptText (s : SessionsView) (text : List ℕ) : Type 0 where
  pub whole : List ℕ
  pub of_whole : SpellsAll SpellsSession whole s.script
  pub behind : List ℕ
  pub of_behind : IsOpenText s.stage s.segments s.questions behind
  pub few : length s.script ≤ 8
  pub fit : IsOpenFit s.stage s.script s.segments
  pub ascending : AreAscending s.segments
  pub text_is : text ≡ whole ++ behind

none_ascend : AreAscending []
none_ascend = λ i j d lt within. absurd (omega arith)

pub no_script : IsScriptText no_sessions []
no_script = record {
  whole = [];
  of_whole = refl;
  behind = [];
  of_behind = refl;
  few = omega arith;
  fit = tt;
  ascending = none_ascend;
  text_is = refl;
}

-- where no vertex is awaited, the text of an open session is that of a session
session_spelled : (stage : Stage) (script : List (List Segment)) (segments : List Segment)
    (questions : Questions) (text : List ℕ) → questions.ring.left ≡ 0 → IsBegun stage
    → IsOpenText stage segments questions text → IsOpenFit stage script segments
    → AreAscending segments → SpellsSession text (with_open stage segments questions)
session_spelled Nothing script segments questions text free begun t fit ascending = absurd begun
session_spelled Session script segments questions text free begun t fit ascending =
    rw fit.1 (record {
      ascending = none_ascend;
      segments = [];
      of_segments = refl;
      whole = t
          ∙ sym (append-nil (ended (codes "session")));
    })
session_spelled (At round) script segments questions text free begun t fit ascending =
    let last : Segment = record { at = round; queries = questions.queries } in
    let same = all_asked IsSessionQuestion questions t.asked free t.of_asked in
    let one : SpellsSegment (count_text (codes "at") round ++ t.asked) last =
    record {
      shallow = t.shallow;
      questions = t.of_asked.questions;
      of_questions = t.of_asked.asked;
      whole =
          ap (λ x. count_text (codes "at") round ++ x) same;
    } in
    record {
      ascending = pairs_push (λ (s u : Segment). s.at < u.at) segments last ascending fit.1;
      segments = t.before ++ (count_text (codes "at") round ++ t.asked);
      of_segments = spells_push SpellsSegment t.before
          (count_text (codes "at") round ++ t.asked) segments last t.of_before one;
      whole = t.whole ∙ append_assoc (ended (codes "session")) t.before
          (count_text (codes "at") round ++ t.asked);
    }

-- where no vertex is awaited, the text is that of all the sessions, of which there are at most
-- eight
closes : (stage : Stage) (script : List (List Segment)) (segments : List Segment)
    (questions : Questions) (whole behind : List ℕ) → questions.ring.left ≡ 0
    → IsOpenText stage segments questions behind → IsOpenFit stage script segments
    → AreAscending segments → SpellsAll SpellsSession whole script → length script ≤ 8
    → SpellsAll SpellsSession (whole ++ behind)
    (with_session stage script (with_open stage segments questions))
    × (length (with_session stage script (with_open stage segments questions)) ≤ 8)
closes Nothing script segments questions whole behind free t fit ascending spells few =
    (rw (t, append-nil whole) spells, few)
closes Session script segments questions whole behind free t fit ascending spells few = (
  spells_push SpellsSession whole behind script segments spells
      (session_spelled Session script segments questions behind free tt t fit
      ascending),
  omega (arith, length-append script (segments ∷ []), fit.0),
)
closes (At round) script segments questions whole behind free t fit ascending spells few =
    let all = with_open (At round) segments questions in (
      spells_push SpellsSession whole behind script all spells
          (session_spelled (At round) script segments questions behind free tt t fit
          ascending),
      omega (arith, length-append script (all ∷ []), fit.0),
    )

pub script_spelled : (s : SessionsView) (text : List ℕ) → IsFree s → IsScriptText s text
    → SpellsAll SpellsSession text (script_of s) × (length (script_of s) ≤ 8)
script_spelled s text free t =
    rw t.text_is (closes s.stage s.script s.segments s.questions t.whole t.behind free t.of_behind
    t.fit t.ascending t.of_whole t.few)

-- the segments with the open one fit a round that may follow
fits_next : (stage : Stage) (script : List (List Segment)) (segments : List Segment)
    (questions : Questions) (round : ℕ) → IsBegun stage → IsLater stage round
    → IsOpenFit stage script segments
    → IsOpenFit (At round) script (with_open stage segments questions)
fits_next Nothing script segments questions round begun later fit = absurd begun
fits_next Session script segments questions round begun later fit =
    (fit.0, rw fit.1 (All-nil (λ (s : Segment). s.at < round)))
fits_next (At last) script segments questions round begun later fit =
    let below : All (λ (s : Segment). s.at < round) segments = λ k d lt. let h = fit.1 k d lt in
    omega (arith, h, later) in (
      fit.0,
      All-push (λ (s : Segment). s.at < round) segments
          (record { at = last; queries = questions.queries }) below later,
    )

-- one line more of the questions of the open segment
asks_more : (stage : Stage) (segments : List Segment) (s t : Questions) (line text : List ℕ)
    → HasRound stage → TakesInSession s line t → IsOpenText stage segments s text
    → IsOpenText stage segments t (text ++ ended line)
asks_more Nothing segments s t line text round p was = absurd round
asks_more Session segments s t line text round p was = absurd round
asks_more (At n) segments s t line text round p was =
    let front = ended (codes "session") ++ was.before in
    let head = count_text (codes "at") n in
    let all : text ++ ended line ≡ front ++ (head ++ (was.asked ++ ended line)) =
    rw was.whole (append_assoc front (head ++ was.asked) (ended line)
    ∙ ap (λ x. front ++ x) (append_assoc head was.asked (ended line))) in
    record {
      shallow = was.shallow;
      before = was.before;
      of_before = was.of_before;
      asked = was.asked ++ ended line;
      of_asked = session_asked s t line was.asked p was.of_asked;
      whole = all;
    }

begun_after : (whole behind line : List ℕ) (text : List ℕ) → text ≡ whole ++ behind
    → text ++ ended line ≡ whole ++ (behind ++ ended line)
begun_after whole behind line text e = rw e (append_assoc whole behind (ended line))

pub session_grows : (s t : SessionsView) (line text : List ℕ) → TakesSession s line t
    → IsScriptText s text → IsScriptText t (text ++ ended line)
session_grows s t line text (inl (free, e, (few, f))) was =
    let all = script_spelled s text free was in
    rw (f, e) (record {
      whole = text;
      of_whole = all.0;
      behind = ended (codes "session");
      of_behind = refl;
      few = all.1;
      fit = (few, refl);
      ascending = none_ascend;
      text_is = refl;
    })
session_grows s t line text (inr (inl (free, begun, w, (round, says, f)))) was =
    let one = session_spelled s.stage s.script s.segments s.questions was.behind free begun was.of_behind was.fit was.ascending in
    let line_is : ended line ≡ count_text (codes "at") round =
    ap ended (said_is (codes "at") (pos round ∷ []) line says.0.2).0 in
    let here : was.behind ++ ended line ≡ (ended (codes "session") ++ one.segments) ++
    (count_text (codes "at") round ++ []) =
    ap (λ x. x ++ ended line) one.whole
    ∙ ap (λ x. (ended (codes "session") ++ one.segments) ++ x)
    (line_is ∙ sym (append-nil (count_text (codes "at") round))) in
    rw f (record {
      whole = was.whole;
      of_whole = was.of_whole;
      behind = was.behind ++ ended line;
      of_behind = record {
        shallow = says.0.1;
        before = one.segments;
        of_before = one.of_segments;
        asked = [];
        of_asked = none_asked IsSessionQuestion;
        whole = here;
      };
      few = was.few;
      fit = fits_next s.stage s.script s.segments s.questions round begun says.1 was.fit;
      ascending = one.ascending;
      text_is = begun_after was.whole was.behind line text was.text_is;
    })
session_grows s t line text (inr (inr (round, q, p, f))) was = rw f (record {
  whole = was.whole;
  of_whole = was.of_whole;
  behind = was.behind ++ ended line;
  of_behind = asks_more s.stage s.segments s.questions q line was.behind round p was.of_behind;
  few = was.few;
  fit = was.fit;
  ascending = was.ascending;
  text_is = begun_after was.whole was.behind line text was.text_is;
})
