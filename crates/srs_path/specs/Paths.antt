-- How a path keeps its sides: as the binary digits of a number, the last side lowest.
use Rattle.std.specs.Prelude.{◌≡◌, ℕ, zero, suc, ◌+◌, ◌*◌, ◌/◌, ◌%◌, ◌^◌, ◌<◌, ◌≤◌, List, [], ◌∷◌, ◌++◌, length}
use Rattle.srs_path.specs.declared.paths.Side.{Side}
use Rattle.srs_path.specs.declared.paths.Side.TheVariants.{Ge, Lt}

-- the digit of a side
abbrev pub digit_of : Side → ℕ
digit_of Ge = 0
digit_of Lt = 1

-- the side of a digit
abbrev pub side_of : ℕ → Side
side_of zero = Ge
side_of (suc n) = Lt

-- the last n digits of a number, as sides
abbrev pub sides_of : ℕ → ℕ → List Side
sides_of zero b = []
sides_of (suc n) b = sides_of n (b / 2) ++ side_of (b % 2) ∷ []

-- the number that has the digits of b, and behind them those of the sides
abbrev pub digits_then : ℕ → List Side → ℕ
digits_then b [] = b
digits_then b (s ∷ sides) = digits_then (b * 2 + digit_of s) sides

-- n digits, at most 48, are the number, and its sides give both back
pub record IsPacked (n b : ℕ) : Type 0 where
  pub short : n ≤ 48
  pub below : b < 2 ^ n
  pub count : length (sides_of n b) ≡ n
  pub digits : digits_then 0 (sides_of n b) ≡ b
