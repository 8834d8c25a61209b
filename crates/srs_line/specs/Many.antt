-- A line as a word and any number of numbers.
use Rattle.std.specs.Prelude.{◌≡◌, ◌⊎◌, ℕ, ℤ, List, ◌∷◌}
use Rattle.srs_line.specs.Fields.{tokens, AreNumbers}
use Rattle.srs_line.specs.declared.slip.Slip.{Slip}
use Rattle.srs_line.specs.declared.slip.Slip.TheVariants.{Word, Number}

-- a token is no number
abbrev pub IsNumbersSlip : List (List ℕ) → Slip → ℕ → Type 0
IsNumbersSlip ts slip back = ((zs : List ℤ) → AreNumbers ts zs → ⊥) × (slip ≡ Number) × (back ≡ 0)

-- the line is the word and at least one field
pub record HasFields (word line : List ℕ) : Type 0 where
  pub first : List ℕ
  pub more : List (List ℕ)
  pub split : tokens line ≡ word ∷ first ∷ more

-- what is wrong with a line that should be the word and numbers, at least one
abbrev pub IsManySlip : List ℕ → List ℕ → Slip → ℕ → Type 0
IsManySlip word line slip back =
    ((¬ (HasFields word line)) × (slip ≡ Word) × (back ≡ 0)) ⊎ ((f : HasFields word line) × IsNumbersSlip (f.first ∷ f.more) slip back)
