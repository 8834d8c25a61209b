-- What is seen of the ends in memory.
use Rattle.std.specs.Prelude.{◌+◌, ◌-◌, ◌^◌, min, ℕ, ℤ, List, Result, Ok, Err}

-- the bytes that are left, how many a read takes at most, the numbers of the reads that fail, the
-- number of the next read, and how many have failed
pub record Reading : Type 0 where
  pub left : List ℕ
  pub most : ℕ
  pub fail : List ℤ
  pub next : ℕ
  pub failed : ℕ

-- the bytes taken, how many fit, how many a write takes at most, the numbers of the writes that fail,
-- the number of the next write, and how many have failed
pub record Writing : Type 0 where
  pub got : List ℕ
  pub room : ℕ
  pub most : ℕ
  pub fail : List ℤ
  pub next : ℕ
  pub failed : ℕ

-- the number of the call after this one, as far as a list of numbers reaches
abbrev pub next_call : ℕ → ℕ
next_call call = min (call + 1) (2 ^ 63 - 1)

-- one more failure, as far as the count reaches
abbrev pub one_more : ℕ → ℕ
one_more failed = min (failed + 1) (2 ^ 64 - 1)

-- how many calls have failed after one with this result
abbrev pub failures_after : {T E : Type 0} → Result T E → ℕ → ℕ
failures_after (Ok taken) failed = failed
failures_after (Err error) failed = one_more failed
