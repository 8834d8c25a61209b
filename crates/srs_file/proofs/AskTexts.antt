-- What is read as a certificate with questions is its text, and its text is read.
use Rattle.std.proofs.Common.{◌≡◌, ◌++◌, Bool, true, false, ℕ, List, [], ◌∷◌, length, codes, refl, sym, ap, ◌∙◌, inl, inr, append_assoc, append-nil}
use Rattle.srs_tree.specs.declared.queries.Query.{Query}
use Rattle.srs_line.specs.Machine.{lines_text, Runs, IsRead}
use Rattle.srs_line.specs.declared.slip.FileErr.{FileErr}
use Rattle.srs_line.specs.declared.slip.FileErr.TheVariants.{At, NoMemory}
use Rattle.srs_line.proofs.MachineLaws.{never_both}
use Rattle.srs_line.proofs.MachineLemmas.{runs_append, runs_inside}
use Rattle.srs_file.specs.declared.cert_reader.CertReader.{CertReader}
use Rattle.srs_file.specs.declared.questions.Questions.{Questions}
use Rattle.srs_file.specs.declared.ask_reader.AskReader.{AskReader}
use Rattle.srs_cert.specs.Texts.{ended}
use Rattle.srs_cert.specs.Certificates.{CertView}
use Rattle.srs_file.specs.Questions.{IsQuestion}
use Rattle.srs_file.specs.Grammar.{SpellsAsk}
use Rattle.srs_file.specs.CertReading.{cert_start, CertSteps, CertEnds, read_view}
use Rattle.srs_file.specs.QuestionReading.{no_questions, TakesQuestion}
use Rattle.srs_file.specs.AskReading.{ask_start, AskSteps, AskSlips, AskEnds, ReadsAsAsk, IsAskRefusal, IsNoAsk}
use Rattle.srs_file.proofs.CertLaws.{cert_exact}
use Rattle.srs_file.proofs.CertTexts.{read_is_cert}
use Rattle.srs_file.proofs.CertRuns.{text_is_cert}
use Rattle.srs_file.proofs.LineShapes.{end_no_lf}
use Rattle.srs_file.proofs.QuestionTexts.{flat, texts_of, text_of, none_asked, all_asked, lines_asked}
use Rattle.srs_file.proofs.Spelled.{joined_append}
use Rattle.srs_file.proofs.QuestionRuns.{after, asks_all}
use Rattle.srs_file.proofs.AskLaws.{ask_exact}

-- a reader within its certificate, and one within its questions
abbrev with_cert : CertReader → AskReader
with_cert cert = record { cert = cert; questions = no_questions; ended = false }

abbrev with_questions : CertReader → Bool → Questions → AskReader
with_questions cert ended questions = record { cert = cert; questions = questions; ended = ended }

not_ended : (cert : CertReader) (questions : Questions) → ¬ (AskEnds (with_questions cert false questions))
not_ended cert questions e = cc

-- the lines are those of a certificate, and those behind it
record Parts (start last : AskReader) (lines : List (List ℕ)) : Type 0 where
  front : List (List ℕ)
  back : List (List ℕ)
  cert : CertReader
  lines_are : lines ≡ front ++ back
  read : Runs CertSteps start.cert front cert
  ends : CertEnds cert
  asked : Runs AskSteps (record start { cert = cert }) back last

parts : (start last : AskReader) (lines : List (List ℕ)) → Runs AskSteps start lines last → ¬ (AskEnds start) → AskEnds last → Parts start last lines
parts start last [] e open_still end = absurd (open_still (rw e end))
parts start last (line ∷ lines) (u, (a, inl (more, c, p, e)), plain, runs) open_still end =
    let rest = parts (record start { cert = c }) last lines (rw e at runs) open_still end in
    record {
      front = line ∷ rest.front;
      back = rest.back;
      cert = rest.cert;
      lines_are = ap (λ x. line ∷ x) rest.lines_are;
      read = (c, p, plain, rest.read);
      ends = rest.ends;
      asked = rest.asked;
    }
parts start last (line ∷ lines) (u, (a, inr (ends, p)), plain, runs) open_still end = record {
  front = [];
  back = line ∷ lines;
  cert = start.cert;
  lines_are = refl;
  read = refl;
  ends = ends;
  asked = (u, (a, inr (ends, p)), plain, runs);
}

-- the lines are those of questions, and `end`
record Asked (start last : AskReader) (lines : List (List ℕ)) : Type 0 where
  front : List (List ℕ)
  questions : Questions
  lines_are : lines ≡ front ++ codes "end" ∷ []
  read : Runs TakesQuestion start.questions front questions
  closed : questions.ring.left ≡ 0
  last_is : last ≡ record start { questions = questions; ended = true }

asked : (start last : AskReader) (lines : List (List ℕ)) → Runs AskSteps start lines last → CertEnds start.cert → ¬ (AskEnds start) → AskEnds last → Asked start last lines
asked start last [] e ends open_still end = absurd (open_still (rw e end))
asked start last (line ∷ lines) (u, (a, inl (more, c, p, e)), plain, runs) ends open_still end = absurd (more ends)
asked start last (line ∷ lines) (u, (a, inr (ends', inl (q, p, e))), plain, runs) ends open_still end =
    let rest = asked (record start { questions = q }) last lines (rw e at runs) ends open_still end in
    record {
      front = line ∷ rest.front;
      questions = rest.questions;
      lines_are = ap (λ x. line ∷ x) rest.lines_are;
      read = (q, p, plain, rest.read);
      closed = rest.closed;
      last_is = rest.last_is;
    }
asked start last (line ∷ []) (u, (a, inr (ends', inr (here, e))), plain, runs) ends open_still end = record {
  front = [];
  questions = start.questions;
  lines_are = ap (λ x. x ∷ []) here.1;
  read = refl;
  closed = here.0;
  last_is = sym runs ∙ e;
}
asked start last (line ∷ l ∷ lines) (u, (a, inr (ends', inr (here, e))), plain, runs) ends open_still end = absurd (runs.1.0 (rw e refl))

pub read_is_ask : (text : List ℕ) (last : AskReader) → IsRead AskSteps AskEnds ask_start text last → SpellsAsk text (read_view last.cert) last.questions.queries
read_is_ask text last (count, reaches, end) =
    let cut = parts ask_start last reaches.lines reaches.good (not_ended cert_start no_questions) end in
    let behind = asked (with_cert cut.cert) last cut.back cut.asked cut.ends (not_ended cut.cert no_questions) end in
    let certificate : IsRead CertSteps CertEnds cert_start (lines_text cut.front) cut.cert =
    (length cut.front, record { lines = cut.front; count_is = refl; whole = sym (append-nil (lines_text cut.front)); good = cut.read }, cut.ends) in
    let so = lines_asked no_questions behind.questions behind.front [] behind.read
    (none_asked IsQuestion) in
    let (texts, are, same) = texts_of so.questions behind.questions.queries so.asked in
    let questions : lines_text behind.front ≡ flat texts =
    all_asked IsQuestion behind.questions (lines_text behind.front) behind.closed so ∙ same in
    let back : lines_text cut.back ≡ flat texts ++ ended (codes "end") =
    ap lines_text behind.lines_are ∙ joined_append behind.front (codes "end" ∷ [])
    ∙ rw questions refl in
    let all : text ≡ (lines_text cut.front ++ flat texts) ++ ended (codes "end") =
    reaches.whole ∙ append-nil (lines_text reaches.lines) ∙ ap lines_text cut.lines_are
    ∙ joined_append cut.front cut.back ∙ ap (λ x. lines_text cut.front ++ x) back
    ∙ sym (append_assoc (lines_text cut.front) (flat texts) (ended (codes "end"))) in
    rw behind.last_is
    (record {
      certificate = lines_text cut.front;
      of_certificate = read_is_cert (lines_text cut.front) cut.cert certificate;
      questions =
          texts;
      of_questions = are;
      whole = all;
    })

pub ask_is_read : (text : List ℕ) (c : CertView) (queries : List Query) → SpellsAsk text c queries → ReadsAsAsk text c queries
ask_is_read text c queries s =
    let (cert, (count, reaches, ends), view) = text_is_cert s.certificate c s.of_certificate in
    let asking = asks_all [] (flat s.questions) queries
    (text_of s.questions queries s.of_questions) in
    let last = with_questions cert true (after queries) in
    let first = runs_inside CertSteps AskSteps with_cert (λ x u line p. (not_ended x no_questions, inl ((λ e. cert_exact.over x u line e p), u, p, refl))) cert_start cert reaches.lines reaches.good in
    let then = runs_inside TakesQuestion AskSteps (with_questions cert false) (λ x u line p. (not_ended cert x, inr (ends, inl (u, p, refl)))) no_questions (after queries) asking.lines asking.runs in
    let end : Runs AskSteps (with_questions cert false (after queries)) (codes "end" ∷ []) last = (last, (not_ended cert (after queries), inr (ends, inr ((refl, refl), refl))), end_no_lf, refl) in
    let behind = runs_append AskSteps (with_cert cert) (with_questions cert false (after queries)) last asking.lines (codes "end" ∷ []) then end in
    let lines = reaches.lines ++ (asking.lines ++ codes "end" ∷ []) in
    let certificate : lines_text reaches.lines ≡ s.certificate = sym (reaches.whole ∙ append-nil (lines_text reaches.lines)) in
    let parts : lines_text lines ≡ s.certificate ++ (flat s.questions ++ ended (codes "end")) =
    joined_append reaches.lines (asking.lines ++ codes "end" ∷ []) ∙ rw (certificate, joined_append asking.lines (codes "end" ∷ []), asking.spelled) refl in (
      last,
      (
        length lines,
        record {
          lines = lines;
          count_is = refl;
          whole = s.whole ∙ append_assoc s.certificate (flat s.questions) (ended (codes "end")) ∙ sym parts ∙ sym (append-nil (lines_text lines));
          good = runs_append AskSteps ask_start (with_cert cert) last reaches.lines (asking.lines ++ codes "end" ∷ []) first behind;
        },
        refl,
      ),
      view,
      refl,
    )

-- a text that is refused is no certificate with questions
pub no_ask : (text : List ℕ) (e : FileErr) → IsAskRefusal text e → IsNoAsk text e
no_ask text (At line slip) f = λ c queries s. let r = ask_is_read text c queries s in never_both AskSteps AskSlips AskEnds ask_exact ask_start r.0 text line slip r.1 f
no_ask text NoMemory f = tt
