-- A line as its tokens: the pieces between its spaces.
use Rattle.std.specs.Prelude.{◌≡◌, ◌≢◌, ◌==◌, ◌⊎◌, ◌≤◌, ◌++◌, ⊤, ℕ, ℤ, pos, List, [], ◌∷◌, length}
use Rattle.std.specs.List.{slice_split, flat_map}
use Rattle.std.specs.Fmt.{signed_decimal}
use Rattle.srs_text.specs.Spelling.{IsNumber}
use Rattle.srs_line.specs.declared.slip.Slip.{Slip}
use Rattle.srs_line.specs.declared.slip.Slip.TheVariants.{Word, Number}

-- the pieces between the spaces
abbrev pub tokens : List ℕ → List (List ℕ)
tokens line = slice_split (λ c. c == 32) line

-- the tokens spell the numbers, one each
abbrev pub AreNumbers : List (List ℕ) → List ℤ → Type 0
AreNumbers [] [] = ⊤
AreNumbers [] (z ∷ zs) = ⊥
AreNumbers (t ∷ ts) [] = ⊥
AreNumbers (t ∷ ts) (z ∷ zs) = IsNumber t z × AreNumbers ts zs

-- The line is the word and the numbers.
pub record Says (word : List ℕ) (zs : List ℤ) (line : List ℕ) : Type 0 where
  pub fields : List (List ℕ)
  pub split : tokens line ≡ word ∷ fields
  pub numbers : AreNumbers fields zs

-- The line is the word and so many fields.
pub record HasShape (word : List ℕ) (count : ℕ) (line : List ℕ) : Type 0 where
  pub fields : List (List ℕ)
  pub split : tokens line ≡ word ∷ fields
  pub count_is : length fields ≡ count

-- The line is the word and so many fields, and a field is no number.
pub record HasBadNumber (word : List ℕ) (count : ℕ) (line : List ℕ) : Type 0 where
  pub shape : HasShape word count line
  pub bad : (zs : List ℤ) → AreNumbers shape.fields zs → ⊥

-- What is wrong with a line that should be the word and so many numbers.
abbrev pub IsFieldSlip : List ℕ → ℕ → List ℕ → Slip → Type 0
IsFieldSlip word count line slip = ((¬ (HasShape word count line)) × (slip ≡ Word)) ⊎ (HasBadNumber word count line × (slip ≡ Number))

-- The first token is the word.
pub record HasWord (word line : List ℕ) : Type 0 where
  pub fields : List (List ℕ)
  pub split : tokens line ≡ word ∷ fields

-- The line is the word and a number of the range.
abbrev pub SaysCount : List ℕ → ℕ → ℕ → ℕ → List ℕ → Type 0
SaysCount word low high n line = (low ≤ n) × (n ≤ high) × Says word (pos n ∷ []) line

-- What is wrong with a line that should be the word and a number of the range; a number outside is `outside`.
abbrev pub IsCountSlip : List ℕ → ℕ → ℕ → Slip → List ℕ → Slip → Type 0
IsCountSlip word low high outside line slip =
    IsFieldSlip word 1 line slip ⊎ ((z : ℤ) × Says word (z ∷ []) line × ((n : ℕ) → low ≤ n → n ≤ high → z ≢ pos n) × (slip ≡ outside))

-- the text of a word and numbers
abbrev pub line_of : List ℕ → List ℤ → List ℕ
line_of word zs = word ++ flat_map (λ z. 32 ∷ signed_decimal z) zs
