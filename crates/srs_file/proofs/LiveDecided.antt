-- Each text is an input of `live`, or has a first slip.
use Rattle.std.proofs.Common.{◌≡◌, ◌⊎◌, ◌≤◌, ◌+◌, true, ℕ, List, [], ◌∷◌, codes, refl, inl, inr, arith, length}
use Rattle.srs_tree.specs.declared.queries.Query.{Query}
use Rattle.srs_tree.specs.declared.queries.Query.TheVariants.{Fresh, Count}
use Rattle.srs_line.specs.declared.slip.Slip.{Slip}
use Rattle.srs_line.specs.declared.slip.Slip.TheVariants as slips
use Rattle.srs_line.specs.Machine.{Runs, IsTotal}
use Rattle.srs_line.specs.Fields.{HasWord}
use Rattle.srs_line.proofs.Decided.{Decided, both_decided, le_decided, eq_decided, bytes_decided, word_decided, count_decided}
use Rattle.srs_file.specs.declared.questions.Questions.{Questions}
use Rattle.srs_file.specs.declared.session_lines.Stage.{Stage}
use Rattle.srs_file.specs.declared.session_lines.Stage.TheVariants.{Nothing, Session, At}
use Rattle.srs_file.specs.declared.live_reader.LiveReader.{LiveReader}
use Rattle.srs_file.specs.Ring.{IsGrowing}
use Rattle.srs_file.specs.QuestionReading.{no_questions, AsksByWord, TakesInSession, SlipsInSession}
use Rattle.srs_file.specs.SessionReading.{SessionsView, IsFree, IsBegun, HasRound, IsLater, script_of, segments_of, closed, SaysRound, IsRoundSlip, IsOpening, StepsBehind, SlipsBehind, TakesSession, SlipsSession}
use Rattle.srs_file.specs.LiveReading.{live_start, LiveSteps, LiveSlips, LiveEnds}
use Rattle.srs_file.proofs.OutlineDecided.{flag_decided, whole_decided, no_ring_grows, outline_decided, outline_keeps}
use Rattle.srs_file.proofs.TreeDecided.{Goes}
use Rattle.srs_file.proofs.AskDecided.{asks, takes_decided, question_keeps}

no_word : (line : List ℕ) → ¬ (line ≡ codes "fresh") → ¬ (line ≡ codes "count") → (query : Query)
    → AsksByWord line query → ⊥
no_word line fresh count query (inl (e, f)) = fresh e
no_word line fresh count query (inr (e, f)) = count e

-- a line that asks by one word, or none
word_asked : (line : List ℕ) → ((query : Query) × AsksByWord line query)
    ⊎ ((query : Query) → AsksByWord line query → ⊥)
word_asked line =
    elim (bytes_decided line (codes "fresh")) [
      | inl e ↦ inl (Fresh, inl (e, refl))
      | inr fresh ↦ elim (bytes_decided line (codes "count")) [
        | inl e ↦ inl (Count, inr (e, refl))
        | inr count ↦ inr (no_word line fresh count)
      ]
    ]

in_session_decided : (s : Questions) → IsGrowing s.ring.left s.ring.vertices → (line : List ℕ)
    → Goes (TakesInSession s line) (SlipsInSession s line)
in_session_decided s g line =
    elim (takes_decided s g line) [
      | inl t ↦ inl (t.0, inl t.1)
      | inr f ↦ elim (eq_decided s.ring.left 0) [
        | inl zero ↦ elim (word_asked line) [
          | inl q ↦ let t = asks s q.0 in inl (t.0, inr (zero, q.0, q.1, t.1))
          | inr none ↦ inr (f.0, f.1, ((λ z query e. none query e), f.2))
        ]
        | inr some ↦ inr (f.0, f.1, ((λ z query e. some z), f.2))
      ]
    ]

begun_decided : (stage : Stage) → Decided (IsBegun stage)
begun_decided Nothing = inr (λ b. b)
begun_decided Session = inl tt
begun_decided (At round) = inl tt

round_decided : (stage : Stage) → Decided (HasRound stage)
round_decided Nothing = inr (λ b. b)
round_decided Session = inr (λ b. b)
round_decided (At round) = inl tt

later_decided : (stage : Stage) (round : ℕ) → Decided (IsLater stage round)
later_decided Nothing round = inr (λ b. b)
later_decided Session round = inl tt
later_decided (At last) round =
    elim (le_decided (last + 1) round) [
      | inl h ↦ inl (omega (arith, h))
      | inr h ↦ inr
          (λ l. h (omega (arith, l)))
    ]

says_decided : (stage : Stage) (line : List ℕ) → ((round : ℕ) × SaysRound stage round line)
    ⊎ ((slip : Slip) × IsRoundSlip stage line slip)
says_decided stage line =
    elim (count_decided (codes "at") line 0 99 slips.Range) [
      | inl n ↦ elim (later_decided stage n.0) [
        | inl later ↦ inl (n.0, (n.1, later))
        | inr early ↦ inr (slips.Order, inr (n.0, n.1, early, refl))
      ]
      | inr f ↦ inr (f.0, inl f.1)
    ]

behind_decided : (s : SessionsView) → IsGrowing s.questions.ring.left s.questions.ring.vertices
    → (line : List ℕ) → Goes (StepsBehind s line) (SlipsBehind s line)
behind_decided s g line =
    elim (round_decided s.stage) [
      | inl round ↦ elim (in_session_decided s.questions g line) [
        | inl q ↦ inl (record s { questions = q.0 }, (round, q.0, q.1, refl))
        | inr f ↦ inr (f.0, f.1, inl (round, f.2))
      ]
      | inr bar ↦ inr (slips.Word, 0, inr (bar, refl, refl))
    ]

no_opening : (s : SessionsView) (line : List ℕ) → ¬ (line ≡ codes "session")
    → ¬ (IsBegun s.stage × HasWord (codes "at") line) → IsOpening s line → ⊥
no_opening s line other bar (free, inl e) = other e
no_opening s line other bar (free, inr w) = bar w

opening_decided : (s : SessionsView) (line : List ℕ) → Decided (IsOpening s line)
opening_decided s line =
    elim (eq_decided s.questions.ring.left 0) [
      | inl free ↦ elim (bytes_decided line (codes "session")) [
        | inl e ↦ inl (free, inl e)
        | inr other ↦ elim (both_decided (IsBegun s.stage) (HasWord (codes "at") line)
            (begun_decided s.stage) (word_decided (codes "at") line)) [
              | inl w ↦ inl (free, inr w)
              | inr bar ↦ inr (no_opening s line other bar)
            ]
      ]
      | inr some ↦ inr (λ o. some o.0)
    ]

more_than : (n : ℕ) → ¬ (n + 1 ≤ 8) → 8 ≤ n
more_than n h = omega (arith, h)

opens_session : (s : SessionsView) (line : List ℕ) → IsOpening s line
    → Goes (TakesSession s line) (SlipsSession s line)
opens_session s line (free, inl e) =
    elim (le_decided (length (script_of s) + 1) 8) [
      | inl few ↦ inl
          (record (closed s) { stage = Session }, inl (free, e, (omega (arith, few), refl)))
      | inr many ↦ inr
          (slips.Count, 0, inl (free, e, (more_than (length (script_of s)) many, refl, refl)))
    ]
opens_session s line (free, inr (begun, w)) =
    elim (says_decided s.stage line) [
      | inl n ↦ inl (
        record s { stage = At n.0; segments = segments_of s; questions = no_questions },
        inr (inl (free, begun, w, (n.0, n.1, refl))),
      )
      | inr f ↦ inr (f.0, 0, inr (inl (free, begun, w, f.1, refl)))
    ]

session_decided : (s : SessionsView) → IsGrowing s.questions.ring.left s.questions.ring.vertices
    → (line : List ℕ) → Goes (TakesSession s line) (SlipsSession s line)
session_decided s g line =
    elim (opening_decided s line) [
      | inl o ↦ opens_session s line o
      | inr none ↦ elim (behind_decided s g line) [
        | inl t ↦ inl (t.0, inr (inr t.1))
        | inr f ↦ inr (f.0, f.1, inr (inr (none, f.2)))
      ]
    ]

in_session_keeps : (s t : Questions) (line : List ℕ) → IsGrowing s.ring.left s.ring.vertices
    → TakesInSession s line t → IsGrowing t.ring.left t.ring.vertices
in_session_keeps s t line g (inl p) = question_keeps s t line g p
in_session_keeps s t line g (inr (zero, query, asks, e)) = rw e g

session_keeps : (s t : SessionsView) (line : List ℕ)
    → IsGrowing s.questions.ring.left s.questions.ring.vertices → TakesSession s line t
    → IsGrowing t.questions.ring.left t.questions.ring.vertices
session_keeps s t line g (inl (free, e, (few, f))) = rw f no_ring_grows
session_keeps s t line g (inr (inl (free, begun, w, (n, p, f)))) = rw f no_ring_grows
session_keeps s t line g (inr (inr (round, q, p, f))) =
    rw f (in_session_keeps s.questions q line g p)

-- both rings keep what a ring keeps
record KeepsRings (s : LiveReader) : Type 0 where
  outline : IsGrowing s.outline.ring.left s.outline.ring.vertices
  questions : IsGrowing s.sessions.questions.ring.left s.sessions.questions.ring.vertices

keeps_next : (s t : LiveReader) (line : List ℕ) → KeepsRings s → LiveSteps s line t → KeepsRings t
keeps_next s t line k (still, inl (more, o, p, e)) =
    rw e (record {
      outline = outline_keeps s.outline o line k.outline more p;
      questions = k.questions;
    })
keeps_next s t line k (still, inr (whole, inl (q, p, e))) =
    rw e (record { outline = k.outline; questions = session_keeps s.sessions q line k.questions p })
keeps_next s t line k (still, inr (whole, inr (here, e))) =
    rw e (record { outline = k.outline; questions = no_ring_grows })

keeps_all : (lines : List (List ℕ)) (s t : LiveReader) → Runs LiveSteps s lines t → KeepsRings s
    → KeepsRings t
keeps_all [] s t e k = rw (← e) k
keeps_all (line ∷ lines) s t (u, step, plain, runs) k =
    keeps_all lines u t runs (keeps_next s u line k step)

goes_on : (s : LiveReader) → KeepsRings s → ¬ (LiveEnds s) → (line : List ℕ)
    → Goes (LiveSteps s line) (LiveSlips s line)
goes_on s k still line =
    elim (whole_decided s.outline) [
      | inl whole ↦ elim (both_decided (IsFree s.sessions) (line ≡ codes "end")
          (eq_decided s.sessions.questions.ring.left 0) (bytes_decided line (codes "end"))) [
            | inl here ↦ inl (
              record s { sessions = closed s.sessions; ended = true },
              (still, inr (whole, inr (here, refl))),
            )
            | inr other ↦ elim (session_decided s.sessions k.questions line) [
              | inl q ↦ inl (record s { sessions = q.0 }, (still, inr (whole, inl (q.0, q.1, refl))))
              | inr f ↦ inr (f.0, f.1, inr (whole, other, f.2))
            ]
          ]
      | inr more ↦ elim (outline_decided s.outline k.outline more line) [
        | inl o ↦ inl (record s { outline = o.0 }, (still, inl (more, o.0, o.1, refl)))
        | inr f ↦ inr (f.0, f.1, inl (more, f.2))
      ]
    ]

pub live_total : IsTotal LiveSteps LiveSlips LiveEnds live_start
live_total = record {
  ends = λ s. flag_decided s.ended;
  goes_on = λ lines s runs still line plain. goes_on s
      (keeps_all lines live_start s runs
      (record { outline = no_ring_grows; questions = no_ring_grows })) still line;
}
