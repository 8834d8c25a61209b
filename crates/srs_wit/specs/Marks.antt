-- Numbers that are marked, each by one bit of a list of words.
use Rattle.std.specs.Prelude.{◌≡◌, ◌≢◌, ℕ, ◌/◌, ◌%◌, ◌==◌, Bool, true, List, length, slice_index}
use Rattle.std.specs.Int.{bit_at}

-- whether k is marked, where each word has the marks of 64 numbers
abbrev pub is_marked : List ℕ → ℕ → Bool
is_marked words k = bit_at (slice_index words (k / 64)) (k % 64) == 1

-- k is marked too
pub record Marks (old : List ℕ) (k : ℕ) (new : List ℕ) : Type 0 where
  pub size : length new ≡ length old
  pub here : is_marked new k ≡ true
  pub others : (j : ℕ) → j ≢ k → is_marked new j ≡ is_marked old j
