-- How many corners are on each side of a line.
use Rattle.std.specs.Prelude.{◌≡◌, ℕ, ◌≤◌, List, All, length, pos, ◌<ℤ◌}
use Rattle.std.specs.List.{Contains}
use Rattle.srs_num.specs.Points.{Point, LinearForm, value}
use Rattle.srs_cell.specs.declared.tallies.Tally.{Tally}

-- n tells whether one of the points cs has P
pub record TellsSome (P : Point → Type 0) (cs : List Point) (n : ℕ) : Type 0 where
  pub none : n ≡ 0 → All (λ c. P c → ⊥) cs
  pub some : 1 ≤ n → (c : Point) × Contains cs c × P c
  pub few : n ≤ length cs

-- the corners cs with g above 0, at 0 and below 0 are counted
pub record IsTally (g : LinearForm) (cs : List Point) (t : Tally) : Type 0 where
  pub above : TellsSome (λ c. pos 0 <ℤ value g c) cs t.above
  pub on : TellsSome (λ c. value g c ≡ pos 0) cs t.on
  pub below : TellsSome (λ c. value g c <ℤ pos 0) cs t.below
