-- What a refusal says.
use Rattle.std.specs.Prelude.{ℕ, List, ⊤, codes}
use Rattle.srs_line.specs.Machine.{SlipsAt}
use Rattle.srs_line.specs.declared.slip.Slip.{Slip}
use Rattle.srs_line.specs.declared.slip.Slip.TheVariants.{Missing, Word, Number, Version, Count, Range, Order, Turn, Tail}
use Rattle.srs_line.specs.declared.slip.FileErr.{FileErr}
use Rattle.srs_line.specs.declared.slip.FileErr.TheVariants.{At, NoMemory}
use Rattle.srs_line.specs.declared.slip.LineErr.{LineErr}
use Rattle.srs_line.specs.declared.slip.LineErr.TheVariants as lines

-- the slip of the line and how many lines back it stands, or want of memory
abbrev pub IsSlip : (Slip → ℕ → Type 0) → LineErr → Type 0
IsSlip Slips (lines.Slip slip back) = Slips slip back
IsSlip Slips lines.NoMemory = ⊤

-- the first slip of the text, or want of memory
abbrev pub IsRefused : {S : Type 0} → (S → List ℕ → S → Type 0) → (S → List ℕ → Slip → ℕ → Type 0) → (S → Type 0) → S → List ℕ → FileErr → Type 0
IsRefused Steps Slips IsEnd start text (At line slip) = SlipsAt Steps Slips IsEnd start text line slip
IsRefused Steps Slips IsEnd start text NoMemory = ⊤

-- the word that a refusal prints
abbrev pub slip_word : Slip → List ℕ
slip_word Missing = codes "missing"
slip_word Word = codes "word"
slip_word Number = codes "number"
slip_word Version = codes "version"
slip_word Count = codes "count"
slip_word Range = codes "range"
slip_word Order = codes "order"
slip_word Turn = codes "turn"
slip_word Tail = codes "tail"
