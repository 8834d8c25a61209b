-- A source that is read line by line.
use Rattle.std.specs.Prelude.{◌≡◌, ℕ, ◌+◌, ◌≤◌, List, [], ◌++◌, length, MatchOption, Result, Ok, Err, None, Some}
use Rattle.std.specs.declared.option.Option.{Option}
use Rattle.std.specs.Io.KnownBytes.{Consumes, IsAtEnd}
use Rattle.srs_text.specs.Line.{HasNoLf, IsLineOf}
use Rattle.srs_text.specs.declared.transfer.ReadErr.{ReadErr}
use Rattle.srs_text.specs.declared.feeds.Fed.{Fed}
use Rattle.srs_text.specs.declared.feeds.Fed.TheVariants.{Line, End}

-- what a feed is seen as: how many bytes it may take in all, how many it took, those that it took and hasn't given, and
-- why it failed, if it did
pub record LineFeedView : Type 0 where
  pub limit : ℕ
  pub taken : ℕ
  pub held : List ℕ
  pub failed : Option ReadErr

-- a feed that has taken nothing
abbrev pub new_feed : ℕ → LineFeedView
new_feed limit = record { limit = limit; taken = 0; held = []; failed = None }

-- the feed took these bytes more, and they are within its limit
pub record Takes (old : LineFeedView) (bytes : List ℕ) (new : LineFeedView) : Type 0 where
  pub taken : new.taken ≡ old.taken + length bytes
  pub within : new.taken ≤ new.limit
  pub limit : new.limit ≡ old.limit
  pub failed : new.failed ≡ None

-- What was held and the bytes just taken is a line, its LF and what is held then; or it is the rest of a source that is at
-- its end, has no LF, and is held still.
abbrev pub Gives : LineFeedView → List ℕ → Option (List ℕ) → Fed → LineFeedView → Type 0
Gives old bytes left (Line line) new = IsLineOf (old.held ++ bytes) line.now new.held
Gives old bytes left (End rest) new = (old.held ++ bytes ≡ rest.now) × HasNoLf rest.now × (new.held ≡ rest.now) × IsAtEnd left

-- what is given has no LF
abbrev pub IsClear : Fed → Type 0
IsClear (Line line) = HasNoLf line.now
IsClear (End rest) = HasNoLf rest.now

-- what a feed that hasn't failed is after a call: the bytes that the source lost were taken, or it has failed
abbrev pub FeedsOn : LineFeedView → Option (List ℕ) → Option (List ℕ) → Result Fed ReadErr → LineFeedView → Type 0
FeedsOn old before after (Ok fed) new = (bytes : List ℕ) × Consumes before after bytes × Takes old bytes new × Gives old bytes after fed new
FeedsOn old before after (Err error) new = (new.failed ≡ Some error) × (new.limit ≡ old.limit)

-- what a feed is after a call: one that has failed stays as it is
abbrev pub Feeds : LineFeedView → Option (List ℕ) → Option (List ℕ) → Result Fed ReadErr → LineFeedView → Type 0
Feeds old before after result new = MatchOption old.failed (FeedsOn old before after result new) (λ _. new ≡ old)
