-- A text that is read line by line, each line of which leads from one state to the next.
use Rattle.std.specs.Prelude.{◌+◌, ◌-◌, ◌≡◌, ◌≢◌, ◌⊎◌, ℕ, List, [], ◌∷◌, ◌++◌, length}
use Rattle.std.specs.List.{flat_map}
use Rattle.srs_text.specs.Line.{HasNoLf, IsLineOf}
use Rattle.srs_line.specs.declared.slip.Slip.{Slip}
use Rattle.srs_line.specs.declared.slip.Slip.TheVariants.{Missing, Tail}

-- the lines, each with its LF
abbrev pub lines_text : List (List ℕ) → List ℕ
lines_text lines = flat_map (λ line. line ++ 10 ∷ []) lines

-- the lines lead from one state to another, each being good where it stands
abbrev pub Runs : {S : Type 0} → (S → List ℕ → S → Type 0) → S → List (List ℕ) → S → Type 0
Runs Steps s [] t = s ≡ t
Runs {S} Steps s (line ∷ lines) t = (u : S) × Steps s line u × HasNoLf line × Runs Steps u lines t

-- The text begins with good lines, which lead to the state, and goes on with the rest.
pub record Reaches {S : Type 0} (Steps : S → List ℕ → S → Type 0) (start : S) (text : List ℕ) (count : ℕ) (state : S) (rest : List ℕ) : Type 0 where
  pub lines : List (List ℕ)
  pub count_is : count ≡ length lines
  pub whole : text ≡ lines_text lines ++ rest
  pub good : Runs Steps start lines state

-- The text is good: all of it is good lines, which lead to an end.
abbrev pub IsRead : {S : Type 0} → (S → List ℕ → S → Type 0) → (S → Type 0) → S → List ℕ → S → Type 0
IsRead Steps IsEnd start text last = (count : ℕ) × Reaches Steps start text count last [] × IsEnd last

-- What is wrong where the good lines end, and how many lines before the next one it stands: a byte follows the end
-- (Tail), a line is wanted and none is left (Missing), or the next line isn't as it should be.
abbrev pub IsWrong : {S : Type 0} → (S → List ℕ → Slip → ℕ → Type 0) → (S → Type 0) → S → List ℕ → Slip → ℕ → Type 0
IsWrong Slips IsEnd state rest slip back =
    (IsEnd state × (rest ≢ []) × (slip ≡ Tail) × (back ≡ 0))
    ⊎ ((¬ (IsEnd state) × HasNoLf rest × (slip ≡ Missing) × (back ≡ 0))
    ⊎ (¬ (IsEnd state) × (line more : List ℕ) × IsLineOf rest line more × Slips state line slip back))

-- The first slip of the text, and its line, the first line being 1.
pub record SlipsAt {S : Type 0} (Steps : S → List ℕ → S → Type 0) (Slips : S → List ℕ → Slip → ℕ → Type 0) (IsEnd : S → Type 0) (start : S) (text : List ℕ) (line : ℕ) (slip : Slip) : Type 0 where
  pub count : ℕ
  pub state : S
  pub rest : List ℕ
  pub back : ℕ
  pub good : Reaches Steps start text count state rest
  pub line_is : line ≡ count + 1 - back
  pub wrong : IsWrong Slips IsEnd state rest slip back

-- What a grammar owes: good steps agree, a good line has no slip, a line has one slip, and nothing follows an end.
pub record IsExact {S : Type 0} (Steps : S → List ℕ → S → Type 0) (Slips : S → List ℕ → Slip → ℕ → Type 0) (IsEnd : S → Type 0) : Type 0 where
  pub steps_once : (s t u : S) (line : List ℕ) → Steps s line t → Steps s line u → t ≡ u
  pub apart : (s t : S) (line : List ℕ) (slip : Slip) (back : ℕ) → Steps s line t → Slips s line slip back → ⊥
  pub slips_once : (s : S) (line : List ℕ) (d e : Slip) (m n : ℕ) → Slips s line d m → Slips s line e n → (d ≡ e) × (m ≡ n)
  pub over : (s t : S) (line : List ℕ) → IsEnd s → Steps s line t → ⊥

-- what a grammar owes so that each text is good or has a slip: ends are told from other states, and where good lines lead
-- that is no end, each line is good or slips
pub record IsTotal {S : Type 0} (Steps : S → List ℕ → S → Type 0) (Slips : S → List ℕ → Slip → ℕ → Type 0)
    (IsEnd : S → Type 0) (start : S) : Type 0 where
  pub ends : (s : S) → IsEnd s ⊎ (¬ (IsEnd s))
  pub goes_on : (lines : List (List ℕ)) (s : S) → Runs Steps start lines s → ¬ (IsEnd s) → (line : List ℕ) → HasNoLf line
      → ((t : S) × Steps s line t) ⊎ ((slip : Slip) × (back : ℕ) × Slips s line slip back)

-- the text is good, or has a first slip
abbrev pub IsReadOrSlips : {S : Type 0} → (S → List ℕ → S → Type 0) → (S → List ℕ → Slip → ℕ → Type 0) → (S → Type 0)
    → S → List ℕ → Type 0
IsReadOrSlips {S} Steps Slips IsEnd start text =
    ((last : S) × IsRead Steps IsEnd start text last) ⊎ ((line : ℕ) × (slip : Slip) × SlipsAt Steps Slips IsEnd start text line slip)
