-- How a run ends, by what the source gave and what the sink took.
use Rattle.std.specs.Prelude.{◌≡◌, ◌⊎◌, ⊤, ◌+◌, ℕ, ◌≤◌, List, [], length}
use Rattle.std.specs.declared.option.Option.{Option}
use Rattle.std.specs.declared.option.Option.TheVariants.{Some}
use Rattle.std.specs.Io.KnownBytes.{Consumes, Appends, IsAtEnd}
use Rattle.srs_text.specs.Ends.{Rose, AppendsFront, TookJust, TookUpTo}
use Rattle.srs_tool.specs.declared.status.Status.{Status}
use Rattle.srs_tool.specs.declared.status.Status.TheVariants.{Done, Bad, Usage, NoMemory, ReadFault, WriteFault, Refused, TooLong}
use Rattle.srs_tool.specs.declared.commands.Command.{Command}
use Rattle.srs_tool.specs.declared.commands.Input.{Input}
use Rattle.srs_tool.specs.declared.commands.Input.TheVariants.{Nothing}
use Rattle.srs_tool.specs.Inputs.{input_of, longest, IsInput}
use Rattle.srs_tool.specs.Output.{Owes, refused_long}

-- the source was read to its end, and gave this text, no longer than such an input may be
pub record ReadsToEnd (input : Input) (left left_after : Option (List ℕ)) (text : List ℕ) : Type 0 where
  pub taken : Consumes left left_after text
  pub end : IsAtEnd left_after
  pub short : length text ≤ longest input

-- what was taken as such an input: nothing where nothing is read, else all that the source gave
abbrev pub Reads : Input → Option (List ℕ) → Option (List ℕ) → List ℕ → Type 0
Reads Nothing left left_after text = (text ≡ []) × (left_after ≡ left)
Reads input left left_after text = ReadsToEnd input left left_after text

-- one byte more was taken than such an input may have
abbrev pub IsOverlong : Input → Option (List ℕ) → Option (List ℕ) → Type 0
IsOverlong Nothing left left_after = ⊥
IsOverlong input left left_after = TookJust left left_after (longest input + 1)

-- no more was taken than such an input may have
abbrev pub IsCut : Input → Option (List ℕ) → Option (List ℕ) → Type 0
IsCut Nothing left left_after = ⊥
IsCut input left left_after = TookUpTo left left_after (longest input)

-- the input was read, and this is what the command owes for it at this status
pub record Brings (command : Command) (left left_after : Option (List ℕ)) (status : Status) (output : List ℕ) : Type 0 where
  pub text : List ℕ
  pub read : Reads (input_of command) left left_after text
  pub owed : Owes command text status output

-- the input was read, and what the command owes for it at this status was written
pub record EndsAs (command : Command) (status : Status) (left left_after got got_after : Option (List ℕ)) : Type 0 where
  pub text : List ℕ
  pub read : Reads (input_of command) left left_after text
  pub output : List ℕ
  pub owed : Owes command text status output
  pub written : Appends got got_after output

-- the input was read, and a front of what the command owes for it was written
pub record BreaksOff (command : Command) (left left_after got got_after : Option (List ℕ)) : Type 0 where
  pub text : List ℕ
  pub read : Reads (input_of command) left left_after text
  pub status : Status
  pub output : List ℕ
  pub owed : Owes command text status output
  pub written : AppendsFront got got_after output

-- How the command ends, by the status: what was taken from the source, what was written, and which end failed
abbrev pub EndsBy : Command → Status → Option (List ℕ) → Option (List ℕ) → ℕ → ℕ → Option (List ℕ) → Option (List ℕ) → ℕ → ℕ → Type 0
EndsBy c Done left left_after reads reads_after got got_after writes writes_after = EndsAs c Done left left_after got got_after
EndsBy c Bad left left_after reads reads_after got got_after writes writes_after = EndsAs c Bad left left_after got got_after
EndsBy c Refused left left_after reads reads_after got got_after writes writes_after = EndsAs c Refused left left_after got got_after
EndsBy c TooLong left left_after reads reads_after got got_after writes writes_after =
    IsOverlong (input_of c) left left_after × Appends got got_after refused_long
EndsBy c ReadFault left left_after reads reads_after got got_after writes writes_after =
    Rose reads reads_after × IsCut (input_of c) left left_after
EndsBy c WriteFault left left_after reads reads_after got got_after writes writes_after =
    Rose writes writes_after × (BreaksOff c left left_after got got_after ⊎ (IsOverlong (input_of c) left left_after × AppendsFront got got_after refused_long))
EndsBy c NoMemory left left_after reads reads_after got got_after writes writes_after = ⊤
EndsBy c Usage left left_after reads reads_after got got_after writes writes_after = ⊥

-- the words ask, in this sense, for a command, which ends so
pub record Ends (Asking : List (List ℕ) → Command → Type 0) (words : List (List ℕ)) (status : Status) (left left_after : Option (List ℕ))
    (reads reads_after : ℕ) (got got_after : Option (List ℕ)) (writes writes_after : ℕ) : Type 0 where
  pub command : Command
  pub asked : Asking words command
  pub end : EndsBy command status left left_after reads reads_after got got_after writes writes_after

-- the source holds such an input
pub record HoldsInput (input : Input) (left : Option (List ℕ)) : Type 0 where
  pub text : List ℕ
  pub held : left ≡ Some text
  pub short : length text ≤ longest input
  pub good : IsInput input text

-- the source serves where such an input is read: any source where nothing is read
abbrev pub Serves : Input → Option (List ℕ) → Type 0
Serves Nothing left = ⊤
Serves input left = HoldsInput input left

-- the words ask, in this sense, for a command, and the source holds an input that it takes
pub record IsGoodRun (Asking : List (List ℕ) → Command → Type 0) (words : List (List ℕ)) (left : Option (List ℕ)) : Type 0 where
  pub command : Command
  pub asked : Asking words command
  pub served : Serves (input_of command) left

-- either all of the text was written, or a write failed and a front of it was
abbrev pub Says : Status → Status → Option (List ℕ) → Option (List ℕ) → ℕ → ℕ → List ℕ → Type 0
Says status result got got_after writes writes_after text =
    ((result ≡ status) × Appends got got_after text)
    ⊎ ((result ≡ WriteFault) × Rose writes writes_after × AppendsFront got got_after text)

-- nothing was written
abbrev pub WritesNothing : Status → Type 0
WritesNothing status = (status ≡ Usage) ⊎ ((status ≡ NoMemory) ⊎ (status ≡ ReadFault))
