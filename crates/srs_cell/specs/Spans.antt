-- The numbers of a span, and the pairs that end in them.
use Rattle.std.specs.Prelude.{ℕ, ◌<◌, ◌≤◌, ◌^◌, ℤ, pos, ◌+ℤ◌, ◌≤ℤ◌, ◌<ℤ◌}
use Rattle.srs_num.specs.declared.pairs.V2.{V2}
use Rattle.srs_map.specs.Step.{pair}

-- the n numbers from low on are those up to high
pub record IsCount (low high : ℤ) (n : ℕ) : Type 0 where
  pub past : high <ℤ (low +ℤ pos n)
  pub within : (k : ℕ) → k < n → (low +ℤ pos k) ≤ℤ high
  pub small : n ≤ 2 ^ 43

-- the pair that begins with the second entry of w and ends k above low
abbrev pub pair_from : V2 → ℤ → ℕ → V2
pair_from w low k = pair w.b (low +ℤ pos k)
