-- Floors and ceilings of quotients of whole numbers.
use Rattle.std.specs.Prelude.{ℤ, ◌+ℤ◌, ◌-ℤ◌, ◌*ℤ◌, ◌≤ℤ◌, ◌<ℤ◌}
use Rattle.std.specs.Int.{int_div_euclid}

-- k is the floor of n / d: the greatest whole number that isn't above
pub record IsFloor (n d k : ℤ) : Type 0 where
  pub not_above : (k *ℤ d) ≤ℤ n
  pub greatest : n <ℤ (k *ℤ d +ℤ d)

-- k is the ceiling of n / d: the least whole number that isn't below
pub record IsCeiling (n d k : ℤ) : Type 0 where
  pub not_below : n ≤ℤ (k *ℤ d)
  pub least : (k *ℤ d -ℤ d) <ℤ n

-- the floor of n / d, for a positive d
abbrev pub floor_quotient : ℤ → ℤ → ℤ
floor_quotient n d = int_div_euclid n d
