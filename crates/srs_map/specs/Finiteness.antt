-- What it means that a parameter is finite, and that a pair recurs.
use Rattle.std.specs.Prelude.{◌≡◌, ◌≢◌, ℕ, ◌≤◌}
use Rattle.srs_num.specs.declared.pairs.V2.{V2}
use Rattle.srs_num.specs.Points.{Point}
use Rattle.srs_map.specs.Step.{after, origin}

-- each pair of whole numbers reaches (0, 0)
abbrev pub IsFinite : Point → Type 0
IsFinite r = (z : V2) → (n : ℕ) × (after n r z ≡ origin)

-- the pair z, which isn't (0, 0), comes back after n steps
pub record Recurs (r : Point) (z : V2) (n : ℕ) : Type 0 where
  pub not_zero : z ≢ origin
  pub some_step : 1 ≤ n
  pub returns : after n r z ≡ z
