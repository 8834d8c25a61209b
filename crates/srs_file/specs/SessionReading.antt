-- The lines of sessions: `session`, the round of a segment, and the questions behind it.
use Rattle.std.specs.Prelude.{◌≡◌, ◌⊎◌, ⊤, ℕ, ◌<◌, ◌≤◌, List, [], ◌∷◌, ◌++◌, codes, length}
use Rattle.std.specs.List.{All}
use Rattle.srs_tree.specs.declared.sessions.Segment.{Segment}
use Rattle.srs_line.specs.declared.slip.Slip.{Slip}
use Rattle.srs_line.specs.declared.slip.Slip.TheVariants.{Word, Count, Range, Order}
use Rattle.srs_line.specs.Fields.{HasWord, SaysCount, IsCountSlip}
use Rattle.srs_file.specs.declared.questions.Questions.{Questions}
use Rattle.srs_file.specs.declared.session_lines.Stage.{Stage}
use Rattle.srs_file.specs.declared.session_lines.Stage.TheVariants.{Nothing, Session, At}
use Rattle.srs_file.specs.QuestionReading.{no_questions, TakesInSession, SlipsInSession}

-- what sessions are seen as while they are read: those that are whole, what is open, and of the
-- open session the whole segments and the questions of the open one
pub record SessionsView : Type 0 where
  pub script : List (List Segment)
  pub stage : Stage
  pub segments : List Segment
  pub questions : Questions

-- no session yet
abbrev pub no_sessions : SessionsView
no_sessions = record { script = []; stage = Nothing; segments = []; questions = no_questions }

-- a session is open
abbrev pub IsBegun : Stage → Type 0
IsBegun Nothing = ⊥
IsBegun Session = ⊤
IsBegun (At round) = ⊤

-- a segment is open
abbrev pub HasRound : Stage → Type 0
HasRound Nothing = ⊥
HasRound Session = ⊥
HasRound (At round) = ⊤

-- a session is open, and the round is above that of its open segment, if it has one
abbrev pub IsLater : Stage → ℕ → Type 0
IsLater Nothing round = ⊥
IsLater Session round = ⊤
IsLater (At last) round = last < round

-- what is open fits what is whole: there is room for the open session, and the open segment's
-- round is above those of the others
abbrev pub IsOpenFit : Stage → List (List Segment) → List Segment → Type 0
IsOpenFit Nothing script segments = ⊤
IsOpenFit Session script segments = (length script < 8) × (segments ≡ [])
IsOpenFit (At round) script segments =
    (length script < 8) × All (λ (s : Segment). s.at < round) segments

-- the segments, and the open one behind them
abbrev pub with_open : Stage → List Segment → Questions → List Segment
with_open Nothing segments questions = segments
with_open Session segments questions = segments
with_open (At round) segments questions =
    segments ++ record { at = round; queries = questions.queries } ∷ []

-- the segments of the open session
abbrev pub segments_of : SessionsView → List Segment
segments_of s = with_open s.stage s.segments s.questions

-- the sessions, and the open one behind them
abbrev pub with_session : Stage → List (List Segment) → List Segment → List (List Segment)
with_session Nothing script segments = script
with_session Session script segments = script ++ segments ∷ []
with_session (At round) script segments = script ++ segments ∷ []

-- all the sessions
abbrev pub script_of : SessionsView → List (List Segment)
script_of s = with_session s.stage s.script (segments_of s)

-- all the sessions are whole
abbrev pub closed : SessionsView → SessionsView
closed s = record { script = script_of s; stage = Nothing; segments = []; questions = no_questions }

-- no vertex is awaited
abbrev pub IsFree : SessionsView → Type 0
IsFree s = s.questions.ring.left ≡ 0

-- `session` begins a session, of which there are at most eight
abbrev pub StepsSession : SessionsView → SessionsView → Type 0
StepsSession old new =
    (length (script_of old) < 8) × (new ≡ record (closed old) { stage = Session })

-- a ninth session
abbrev pub SlipsNinth : SessionsView → Slip → ℕ → Type 0
SlipsNinth old slip back = (8 ≤ length (script_of old)) × (slip ≡ Count) × (back ≡ 0)

-- the line says a round that may follow
abbrev pub SaysRound : Stage → ℕ → List ℕ → Type 0
SaysRound stage round line = SaysCount (codes "at") 0 99 round line × IsLater stage round

-- what is wrong with a line that should say a round: it says none, or one that isn't above the last
abbrev pub IsRoundSlip : Stage → List ℕ → Slip → Type 0
IsRoundSlip stage line slip =
    IsCountSlip (codes "at") 0 99 Range line slip
    ⊎ ((round : ℕ) × SaysCount (codes "at") 0 99 round line × (¬ (IsLater stage round))
    × (slip ≡ Order))

-- the line begins a segment
abbrev pub StepsAt : SessionsView → List ℕ → SessionsView → Type 0
StepsAt old line new =
    (round : ℕ) × SaysRound old.stage round line
    × (new ≡ record old { stage = At round; segments = segments_of old; questions = no_questions })

-- the line begins a session or, in a session, a segment
abbrev pub IsOpening : SessionsView → List ℕ → Type 0
IsOpening old line =
    IsFree old × ((line ≡ codes "session") ⊎ (IsBegun old.stage × HasWord (codes "at") line))

-- a question, in a segment
abbrev pub StepsBehind : SessionsView → List ℕ → SessionsView → Type 0
StepsBehind old line new =
    HasRound old.stage × (questions : Questions) × TakesInSession old.questions line questions
    × (new ≡ record old { questions = questions })

-- what is wrong with a question, or there is no segment
abbrev pub SlipsBehind : SessionsView → List ℕ → Slip → ℕ → Type 0
SlipsBehind old line slip back =
    (HasRound old.stage × SlipsInSession old.questions line slip back)
    ⊎ ((¬ (HasRound old.stage)) × (slip ≡ Word) × (back ≡ 0))

-- a line of a session: one that begins it, the round of a segment, or a question
abbrev pub TakesSession : SessionsView → List ℕ → SessionsView → Type 0
TakesSession old line new =
    (IsFree old × (line ≡ codes "session") × StepsSession old new)
    ⊎ ((IsFree old × IsBegun old.stage × HasWord (codes "at") line × StepsAt old line new)
    ⊎ StepsBehind old line new)

-- what is wrong with a line of a session
abbrev pub SlipsSession : SessionsView → List ℕ → Slip → ℕ → Type 0
SlipsSession old line slip back =
    (IsFree old × (line ≡ codes "session") × SlipsNinth old slip back)
    ⊎ ((IsFree old × IsBegun old.stage × HasWord (codes "at") line
    × IsRoundSlip old.stage line slip × (back ≡ 0))
    ⊎ ((¬ (IsOpening old line)) × SlipsBehind old line slip back))
