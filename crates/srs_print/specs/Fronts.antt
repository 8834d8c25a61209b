-- What a writer leaves that ran out of memory.
use Rattle.std.specs.Prelude.{◌≡◌, ℕ, List, ◌++◌}

-- the bytes grew by a front of the text
abbrev pub StopsIn : List ℕ → List ℕ → List ℕ → Type 0
StopsIn old text new = (front rest : List ℕ) × (new ≡ old ++ front) × (text ≡ front ++ rest)
