-- What is read as questions is their text, for those of `ask` and those of a session.
use Rattle.std.proofs.Common.{◌≡◌, ◌<◌, ◌+◌, ◌++◌, ℕ, pos, List, [], ◌∷◌, length, codes, flat_map, refl, sym, ap, ◌∙◌, inl, inr, ◌⊎◌, arith, append_assoc, append-nil}
use Rattle.srs_plane.specs.Polygons.{region_of}
use Rattle.srs_tree.specs.declared.queries.Query.{Query}
use Rattle.srs_tree.specs.declared.queries.Query.TheVariants.{Fresh, Count, Point, Polygon, Orbit}
use Rattle.srs_line.specs.Machine.{lines_text, Runs}
use Rattle.srs_line.proofs.LineTexts.{said_is}
use Rattle.srs_file.specs.declared.questions.Questions.{Questions}
use Rattle.srs_cert.specs.Texts.{ended}
use Rattle.srs_cert.specs.Sayings.{place_numbers}
use Rattle.srs_file.specs.Questions.{orbit_numbers, IsQuestion, AreQuestions, IsSessionQuestion}
use Rattle.srs_file.specs.Scripts.{SpellsAll}
use Rattle.srs_file.specs.Ring.{RingView, no_ring}
use Rattle.srs_file.specs.QuestionReading.{no_questions, AddsQuery, TakesQuestion, AsksByWord, TakesInSession}
use Rattle.srs_file.proofs.Spelled.{spells_push}
use Rattle.srs_file.proofs.RingTexts.{so_far, opened_text, added}

-- the texts behind one another
abbrev pub flat : List (List ℕ) → List ℕ
flat texts = flat_map (λ text. text) texts

-- questions, one text each, and their text
pub texts_of : (text : List ℕ) (queries : List Query) → SpellsAll IsQuestion text queries
    → (texts : List (List ℕ)) × AreQuestions texts queries × (text ≡ flat texts)
texts_of text [] e = ([], tt, e)
texts_of text (q ∷ queries) (first, rest, whole, one, more) =
    let others = texts_of rest queries more in
    (first ∷ others.0, (one, others.1), whole ∙ ap (λ x. first ++ x) others.2)

pub text_of : (texts : List (List ℕ)) (queries : List Query) → AreQuestions texts queries
    → SpellsAll IsQuestion (flat texts) queries
text_of [] [] a = refl
text_of [] (q ∷ queries) a = absurd a
text_of (t ∷ texts) [] a = absurd a
text_of (t ∷ texts) (q ∷ queries) a = (t, flat texts, refl, a.0, text_of texts queries a.1)

-- the text of a ring that is open, and none of one that isn't
abbrev pub IsRingText : RingView → List ℕ → Type 0
IsRingText ring text = ((0 < ring.left) × (text ≡ so_far (codes "region") ring.vertices ring.left)) ⊎ ((ring.left ≡ 0) × (text ≡ []))

-- the text is that of the questions so far, and of the ring that is open
pub record IsAsked (Asks : List ℕ → Query → Type 0) (s : Questions) (text : List ℕ) : Type 0 where
  pub questions : List ℕ
  pub asked : SpellsAll Asks questions s.queries
  pub ring : List ℕ
  pub ring_is : IsRingText s.ring ring
  pub whole : text ≡ questions ++ ring

pub none_asked : (Asks : List ℕ → Query → Type 0) → IsAsked Asks no_questions []
none_asked Asks =
    record { questions = []; asked = refl; ring = []; ring_is = inr (refl, refl); whole = refl }

ring_opened : (ring : RingView) (text : List ℕ) → 0 < ring.left → IsRingText ring text → text ≡ so_far (codes "region") ring.vertices ring.left
ring_opened ring text more (inl (a, e)) = e
ring_opened ring text more (inr (a, e)) = absurd (omega arith)

ring_closed : (ring : RingView) (text : List ℕ) → ring.left ≡ 0 → IsRingText ring text → text ≡ []
ring_closed ring text zero (inl (a, e)) = absurd (omega arith)
ring_closed ring text zero (inr (a, e)) = e

-- the text where a line asks, and no ring is open
module _ (Asks : List ℕ → Query → Type 0) where
  -- where no vertex is awaited, the text is that of the questions
  pub all_asked : (s : Questions) (text : List ℕ) → s.ring.left ≡ 0 → (was : IsAsked Asks s text)
      → text ≡ was.questions
  all_asked s text zero was = was.whole
      ∙ ap (λ x. was.questions ++ x) (ring_closed s.ring was.ring zero was.ring_is)
      ∙ append-nil was.questions

  -- one question more, while no ring is open
  one_more : (ring : RingView) (queries : List Query) (questions text : List ℕ) (query : Query)
      → ring.left ≡ 0 → SpellsAll Asks questions queries → Asks text query
      → let t : Questions = record { ring = ring; queries = queries ++ query ∷ [] } in
      IsAsked Asks t (questions ++ text)
  one_more ring queries questions text query zero asked one = record {
    questions = questions ++ text;
    asked = spells_push Asks questions text queries query asked one;
    ring = [];
    ring_is = inr (zero, refl);
    whole = sym (append-nil (questions ++ text));
  }

  pub asks : (s t : Questions) (query : Query) (text line : List ℕ) → s.ring.left ≡ 0
      → AddsQuery s query t → Asks (ended line) query → IsAsked Asks s text
      → IsAsked Asks t (text ++ ended line)
  asks s t query text line zero e one was =
      rw (e, all_asked s text zero was)
      (one_more s.ring s.queries was.questions (ended line) query zero was.asked one)

  -- a ring is open
  ring_open : (ring : RingView) (queries : List Query) (questions : List ℕ) → 0 < ring.left
      → SpellsAll Asks questions queries
      → let t : Questions = record { ring = ring; queries = queries } in
      IsAsked Asks t (questions ++ so_far (codes "region") ring.vertices ring.left)
  ring_open ring queries questions more asked =
      record {
        questions = questions;
        asked = asked;
        ring = so_far (codes "region") ring.vertices ring.left;
        ring_is = inl (more, refl);
        whole =
            refl;
      }

  -- the text before a vertex's line, while its ring is open
  vertex_front : (s : Questions) (text line : List ℕ) → 0 < s.ring.left
      → (was : IsAsked Asks s text)
      → text ++ ended line ≡ was.questions ++
      (so_far (codes "region") s.ring.vertices s.ring.left ++ ended line)
  vertex_front s text line more was =
      ap (λ x. x ++ ended line)
      (was.whole ∙ ap (λ x. was.questions ++ x) (ring_opened s.ring was.ring more was.ring_is))
      ∙ append_assoc was.questions (so_far (codes "region") s.ring.vertices s.ring.left)
      (ended line)

  pub line_asked : ((text : List ℕ) (query : Query) → IsQuestion text query → Asks text query)
      → (s t : Questions) (line text : List ℕ) → TakesQuestion s line t → IsAsked Asks s text
      → IsAsked Asks t (text ++ ended line)
  line_asked holds s t line text (inl (a, (ring, (v, says, adds), inl (more, e)))) was =
      let grown = added (codes "region") s.ring ring v line a says adds in
      rw (e, vertex_front s text line a was, ← grown.0)
      (ring_open ring s.queries was.questions more was.asked)
  line_asked holds s t line text (inl (a, (ring, (v, says, adds), inr (zero, e)))) was =
      let grown = added (codes "region") s.ring ring v line a says adds in
      let size : length ring.vertices + ring.left ≡ length ring.vertices = omega (arith, zero) in
      let one : IsQuestion (so_far (codes "region") ring.vertices ring.left)
      (Polygon (region_of ring.vertices)) =
      rw size (ring.vertices, (grown.1 zero).0, refl, refl) in
      let is = holds (so_far (codes "region") ring.vertices ring.left)
      (Polygon (region_of ring.vertices)) one in
      rw (e, vertex_front s text line a was, ← grown.0)
      (one_more no_ring s.queries was.questions
      (so_far (codes "region") ring.vertices ring.left)
      (Polygon (region_of ring.vertices)) refl was.asked is)
  line_asked holds s t line text (inr (a, inl (word, (r, says, e)))) was =
      let one : IsQuestion (ended line) (Point r) =
      (says.1, ap ended (said_is (codes "point") (place_numbers r) line says.0).0) in
      asks s t (Point r) text line a e (holds (ended line) (Point r) one) was
  line_asked holds s t line text (inr (a, inr (inl (word, (ring, (n, says, f), e))))) was =
      let opens : so_far (codes "region") ring.vertices ring.left ≡ ended line =
      rw f (opened_text (codes "region") n line
      (said_is (codes "region") (pos n ∷ []) line says.2).0) in
      let more : 0 < ring.left = rw f (omega (arith, says.0)) in
      rw (e, all_asked s text a was, ← opens)
      (ring_open ring s.queries was.questions more was.asked)
  line_asked holds s t line text (inr (a, inr (inr (word, (r, z, n, says, e))))) was =
      let one : IsQuestion (ended line) (Orbit r z n) =
      (says.1, ap ended (said_is (codes "orbit") (orbit_numbers r z (pos n)) line says.0).0) in
      asks s t (Orbit r z n) text line a e (holds (ended line) (Orbit r z n) one) was

pub lines_asked : (s t : Questions) (lines : List (List ℕ)) (text : List ℕ)
    → Runs TakesQuestion s lines t → IsAsked IsQuestion s text
    → IsAsked IsQuestion t (text ++ lines_text lines)
lines_asked s t [] text e was = rw (← e, append-nil text) was
lines_asked s t (line ∷ lines) text (u, step, plain, runs) was =
    let more = lines_asked u t lines (text ++ ended line) runs
    (line_asked IsQuestion (λ x q one. one) s u line text step was) in
    rw (append_assoc text (ended line) (lines_text lines)) at more

-- a question is one of a session too
pub in_session : (text : List ℕ) (query : Query) → IsQuestion text query
    → IsSessionQuestion text query
in_session text Fresh q = absurd q
in_session text Count q = absurd q
in_session text (Point r) q = q
in_session text (Polygon area) q = q
in_session text (Orbit r z n) q = q

by_word : (line : List ℕ) (query : Query) → AsksByWord line query
    → IsSessionQuestion (ended line) query
by_word line query (inl (e, f)) = rw (e, f) refl
by_word line query (inr (e, f)) = rw (e, f) refl

pub session_asked : (s t : Questions) (line text : List ℕ) → TakesInSession s line t
    → IsAsked IsSessionQuestion s text → IsAsked IsSessionQuestion t (text ++ ended line)
session_asked s t line text (inl p) was =
    line_asked IsSessionQuestion in_session s t line text p was
session_asked s t line text (inr (zero, query, word, e)) was =
    asks IsSessionQuestion s t query text line zero e (by_word line query word) was
