-- Reading the input of `live`: a polygon, sessions, and `end`.
use Rattle.std.specs.Prelude.{◌≡◌, ◌⊎◌, ⊤, IsTrue, true, false, ℕ, List, codes}
use Rattle.srs_plane.specs.declared.polygons.Vertex.{Vertex}
use Rattle.srs_tree.specs.declared.sessions.Segment.{Segment}
use Rattle.srs_line.specs.declared.slip.Slip.{Slip}
use Rattle.srs_line.specs.declared.slip.FileErr.{FileErr}
use Rattle.srs_line.specs.declared.slip.FileErr.TheVariants.{At, NoMemory}
use Rattle.srs_line.specs.Machine.{IsRead, SlipsAt}
use Rattle.srs_line.specs.Refusal.{IsRefused}
use Rattle.srs_file.specs.declared.outline.Outline.{Outline}
use Rattle.srs_file.specs.declared.live_reader.LiveReader.{LiveReader}
use Rattle.srs_file.specs.Outline.{no_outline, IsWholeOutline, TakesOutline, SlipsOutline}
use Rattle.srs_file.specs.SessionReading.{SessionsView, no_sessions, IsFree, closed, TakesSession, SlipsSession}
use Rattle.srs_file.specs.Grammar.{SpellsLive}

-- a reader before the first line
abbrev pub live_start : LiveReader
live_start = record { outline = no_outline; sessions = no_sessions; ended = false }

-- the line that ends the sessions was read
abbrev pub LiveEnds : LiveReader → Type 0
LiveEnds reader = IsTrue reader.ended

-- the line ends the sessions: it is `end`, and no vertex is awaited
abbrev pub SessionsEnd : LiveReader → List ℕ → Type 0
SessionsEnd old line = IsFree old.sessions × (line ≡ codes "end")

-- a line of a session, or the one that ends them
abbrev pub StepsInSessions : LiveReader → List ℕ → LiveReader → Type 0
StepsInSessions old line new =
    ((sessions : SessionsView) × TakesSession old.sessions line sessions
    × (new ≡ record old { sessions = sessions }))
    ⊎ (SessionsEnd old line × (new ≡ record old { sessions = closed old.sessions; ended = true }))

-- a line of the polygon while it isn't whole, and then of the sessions
abbrev pub LiveSteps : LiveReader → List ℕ → LiveReader → Type 0
LiveSteps old line new =
    (¬ (LiveEnds old))
    × (((¬ (IsWholeOutline old.outline)) × (outline : Outline) × TakesOutline old.outline line outline
    × (new ≡ record old { outline = outline }))
    ⊎ (IsWholeOutline old.outline × StepsInSessions old line new))

-- what is wrong with a line of the polygon, or of the sessions
abbrev pub LiveSlips : LiveReader → List ℕ → Slip → ℕ → Type 0
LiveSlips old line slip back =
    ((¬ (IsWholeOutline old.outline)) × SlipsOutline old.outline line slip back)
    ⊎ (IsWholeOutline old.outline × (¬ (SessionsEnd old line))
    × SlipsSession old.sessions line slip back)

-- line by line, the text gives these vertices and these sessions
abbrev pub ReadsAsLive : List ℕ → List Vertex → List (List Segment) → Type 0
ReadsAsLive text vs script =
    (last : LiveReader) × IsRead LiveSteps LiveEnds live_start text last
    × (last.outline.ring.vertices ≡ vs) × (last.sessions.script ≡ script)

-- the first slip of the text, and its line
abbrev pub FirstLiveSlip : List ℕ → ℕ → Slip → Type 0
FirstLiveSlip text line slip = SlipsAt LiveSteps LiveSlips LiveEnds live_start text line slip

-- the text is an input of `live`, or has a first slip
abbrev pub IsLiveOrSlips : List ℕ → Type 0
IsLiveOrSlips text =
    ((vs : List Vertex) × (script : List (List Segment)) × SpellsLive text vs script)
    ⊎ ((line : ℕ) × (slip : Slip) × FirstLiveSlip text line slip)

-- the first slip of the text, or want of memory
abbrev pub IsLiveRefusal : List ℕ → FileErr → Type 0
IsLiveRefusal text error = IsRefused LiveSteps LiveSlips LiveEnds live_start text error

-- the text is no input of `live`, unless memory was wanting
abbrev pub IsNoLive : List ℕ → FileErr → Type 0
IsNoLive text (At line slip) =
    (vs : List Vertex) (script : List (List Segment)) → SpellsLive text vs script → ⊥
IsNoLive text NoMemory = ⊤
