-- The bytes between a source and its lines.
use Rattle.std.specs.Prelude.{◌≡◌, ℕ, ◌+◌, ◌≤◌, List, ◌++◌, length}
use Rattle.std.specs.List.{slice_range}
use Rattle.std.specs.declared.option.Option.{Option}
use Rattle.std.specs.Io.KnownBytes.{Consumes, IsAtEnd}
use Rattle.srs_text.specs.Line.{HasNoLf, IsLineOf}

-- what a window is seen as: the line given last, the bytes that were taken and not given, and how many more fit behind them
pub record WindowView : Type 0 where
  pub given : List ℕ
  pub held : List ℕ
  pub room : ℕ

-- where the parts of a window stand in its buffer
pub record IsWindow (buffer : List ℕ) (line line_end start searched end : ℕ) : Type 0 where
  pub line_is : line ≤ line_end
  pub given : line_end ≤ length buffer
  pub some : 1 ≤ length buffer
  pub begins : start ≤ searched
  pub goes_on : searched ≤ end
  pub filled : end ≤ length buffer
  pub no_lf : HasNoLf (slice_range buffer start searched)

-- so many bytes came from the source, behind those held; none came only at its end
abbrev pub Reads : Option (List ℕ) → Option (List ℕ) → List ℕ → List ℕ → ℕ → Type 0
Reads before after old new n =
    (bytes : List ℕ) × Consumes before after bytes × (new ≡ old ++ bytes) × (length bytes ≡ n) × (n ≡ 0 → IsAtEnd after)

-- The bytes that the source lost were counted, and came behind those held.
pub record TakesIn (before after : Option (List ℕ)) (taken : ℕ) (held : List ℕ) (taken_now : ℕ) (held_now : List ℕ) : Type 0 where
  pub bytes : List ℕ
  pub lost : Consumes before after bytes
  pub counted : taken_now ≡ taken + length bytes
  pub behind : held_now ≡ held ++ bytes

-- what was held and what came begins with the line given, and is held from there on
abbrev pub Cuts : Option (List ℕ) → Option (List ℕ) → ℕ → List ℕ → ℕ → WindowView → Type 0
Cuts before after taken held taken_now window =
    (all : List ℕ) × TakesIn before after taken held taken_now all × IsLineOf all window.given window.held

-- what was held and what came has no LF, and nothing more comes
abbrev pub Ends : Option (List ℕ) → Option (List ℕ) → ℕ → List ℕ → ℕ → WindowView → Type 0
Ends before after taken held taken_now window =
    TakesIn before after taken held taken_now window.held × HasNoLf window.held × IsAtEnd after
