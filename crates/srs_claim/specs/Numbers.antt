-- How often numbers stand in lists.
use Rattle.std.specs.Prelude.{◌≡◌, ℕ, ◌+◌, ◌≤◌, ◌==◌, List, [], ◌∷◌, if◌then◌else◌}

-- how often the number stands in the list
abbrev pub times : ℕ → List ℕ → ℕ
times x [] = 0
times x (y ∷ ys) = (if y == x then 1 else 0) + times x ys

-- no number stands twice in the two lists together
abbrev pub AreDistinct : List ℕ → List ℕ → Type 0
AreDistinct xs ys = (x : ℕ) → times x xs + times x ys ≤ 1

-- each number of the list is below n
abbrev pub AreBelow : ℕ → List ℕ → Type 0
AreBelow n xs = (x : ℕ) → n ≤ x → times x xs ≡ 0
