-- Lists in blocks of 64.
use Rattle.std.specs.Prelude.{◌≡◌, ◌<◌, ◌≤◌, ◌/◌, ◌%◌, ⊤, ℕ, zero, suc, List, [], ◌∷◌, ◌++◌, ◌^◌, length, get_or}

-- the lists, one after another
abbrev pub joined : {X : Type 0} → List (List X) → List X
joined [] = []
joined (xs ∷ xss) = xs ++ joined xss

-- the list with x at the place i, or behind its last item
abbrev pub written : {X : Type 0} → List X → ℕ → X → List X
written [] i x = x ∷ []
written (y ∷ ys) zero x = x ∷ ys
written (y ∷ ys) (suc i) x = y ∷ written ys i x

-- the list at the place i, if there is one
abbrev pub block_at : {X : Type 0} → List (List X) → ℕ → List X
block_at xss i = get_or xss i []

-- the lists with x at the place i of the list at the place `block`, or as the first of a new one
abbrev pub written_below : {X : Type 0} → List (List X) → ℕ → ℕ → X → List (List X)
written_below xss block i x = written xss block (written (block_at xss block) i x)

-- the lists have 64 items each, and the last of them at most 64
abbrev pub AreEven : {X : Type 0} → List (List X) → Type 0
AreEven [] = ⊤
AreEven (xs ∷ xss) = (length xs ≤ 64) × (0 < length xss → length xs ≡ 64) × AreEven xss

-- the items of rows of blocks
abbrev pub items_of : {X : Type 0} → List (List (List X)) → List X
items_of rows = joined (joined rows)

-- the rows of a list of n items: its rows have 64 blocks each, and its blocks 64 items each; past the n items there may be
-- others, which don't belong to it
pub record AreRows {X : Type 0} (rows : List (List (List X))) (n : ℕ) : Type 0 where
  pub even_rows : AreEven rows
  pub even_blocks : AreEven (joined rows)
  pub within : n ≤ length (joined (joined rows))
  pub most : n ≤ 2 ^ 48

-- the rows with x at the place i of the items, or behind the last of them
abbrev pub written_in : {X : Type 0} → List (List (List X)) → ℕ → X → List (List (List X))
written_in rows i x = written rows (i / 64 / 64) (written_below (block_at rows (i / 64 / 64)) (i / 64 % 64) (i % 64) x)

-- the place i has a row, a block and a place in it, or may be the next
pub record IsWritable {X : Type 0} (rows : List (List (List X))) (i : ℕ) : Type 0 where
  pub row : i / 64 / 64 ≤ length rows
  pub block : i / 64 % 64 ≤ length (block_at rows (i / 64 / 64))
  pub place : i % 64 ≤ length (block_at (block_at rows (i / 64 / 64)) (i / 64 % 64))
