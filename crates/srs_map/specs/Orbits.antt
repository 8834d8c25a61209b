-- The first event of an orbit: it reaches (0, 0), leaves the bound of its entries, or meets a pair
-- for the second time.
use Rattle.std.specs.Prelude.{◌≡◌, ◌≢◌, ℕ, ◌+◌, ◌<◌, ◌≤◌}
use Rattle.srs_num.specs.declared.pairs.V2.{V2}
use Rattle.srs_num.specs.Points.{Point}
use Rattle.srs_map.specs.Step.{after, origin, IsNarrow}
use Rattle.srs_map.specs.declared.orbits.OrbitEnd.{OrbitEnd}
use Rattle.srs_map.specs.declared.orbits.OrbitEnd.TheVariants.{Zero, Wide, Loop, Spent}

-- after i steps there is no event: the pair isn't (0, 0), its entries are within 2^37, and it
-- wasn't met before
pub record IsQuiet (r : Point) (z : V2) (i : ℕ) : Type 0 where
  pub not_zero : after i r z ≢ origin
  pub narrow : IsNarrow (after i r z)
  pub unmet : (j : ℕ) → j < i → after j r z ≢ after i r z

-- there is no event before k steps
abbrev pub IsQuietBefore : Point → V2 → ℕ → Type 0
IsQuietBefore r z k = (i : ℕ) → i < k → IsQuiet r z i

-- the first event of the first n steps
abbrev pub IsOrbitEnd : Point → V2 → ℕ → OrbitEnd → Type 0
IsOrbitEnd r z n (Zero k) = (k ≤ n) × IsQuietBefore r z k × (after k r z ≡ origin)
IsOrbitEnd r z n (Wide k) = (k ≤ n) × IsQuietBefore r z k × (IsNarrow (after k r z) → ⊥)
IsOrbitEnd r z n (Loop j l) = (0 < l) × (j + l ≤ n) × IsQuietBefore r z (j + l) ×
    (after (j + l) r z ≡ after j r z)
IsOrbitEnd r z n Spent = IsQuietBefore r z (n + 1)
