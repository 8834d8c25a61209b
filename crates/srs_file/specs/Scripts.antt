-- The sessions of an input of `live`, and their lines.
use Rattle.std.specs.Prelude.{◌≡◌, ℕ, ◌≤◌, List, [], ◌∷◌, ◌++◌, codes}
use Rattle.srs_tree.specs.declared.sessions.Segment.{Segment}
use Rattle.srs_tree.specs.Sessions.{AreAscending}
use Rattle.srs_cert.specs.Texts.{ended, count_text}
use Rattle.srs_file.specs.Questions.{IsSessionQuestion}

-- the text is that of the items, one behind another
abbrev pub SpellsAll : {A : Type 0} → (List ℕ → A → Type 0) → List ℕ → List A → Type 0
SpellsAll Spells text [] = text ≡ []
SpellsAll Spells text (item ∷ items) =
    (first : List ℕ) × (rest : List ℕ) × (text ≡ first ++ rest) × Spells first item × SpellsAll Spells rest items

-- the text is that of the segment: its round, from 0 to 99, and its questions
pub record SpellsSegment (text : List ℕ) (s : Segment) : Type 0 where
  pub shallow : s.at ≤ 99
  pub questions : List ℕ
  pub of_questions : SpellsAll IsSessionQuestion questions s.queries
  pub whole : text ≡ count_text (codes "at") s.at ++ questions

-- the text is that of the session: its segments, whose rounds ascend
pub record SpellsSession (text : List ℕ) (session : List Segment) : Type 0 where
  pub ascending : AreAscending session
  pub segments : List ℕ
  pub of_segments : SpellsAll SpellsSegment segments session
  pub whole : text ≡ ended (codes "session") ++ segments
