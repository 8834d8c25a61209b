-- Signs of whole numbers along an equation.
use Rattle.std.proofs.Common.{◌≡◌, ℤ, pos, ◌≤ℤ◌, ◌<ℤ◌, arith}
use Rattle.srs_num.proofs.Linear.{linear}

pub at_least_by : (a b : ℤ) → a ≡ b → pos 0 ≤ℤ a → pos 0 ≤ℤ b
at_least_by a b e h = omega (arith, linear)

pub at_most_by : (a b : ℤ) → a ≡ b → a ≤ℤ pos 0 → b ≤ℤ pos 0
at_most_by a b e h = omega (arith, linear)

pub above_by : (a b : ℤ) → a ≡ b → pos 0 <ℤ a → pos 0 <ℤ b
above_by a b e h = omega (arith, linear)

pub below_by : (a b : ℤ) → a ≡ b → a <ℤ pos 0 → b <ℤ pos 0
below_by a b e h = omega (arith, linear)

pub both_signs : (a : ℤ) → pos 0 ≤ℤ a → a <ℤ pos 0 → ⊥
both_signs a h k = omega (arith, linear)
