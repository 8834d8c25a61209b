-- Links between pairs, and sets of pairs that are closed under them.
use Rattle.std.specs.Prelude.{◌≡◌, ◌⊎◌, ℕ, pos, negsuc}
use Rattle.srs_num.specs.declared.pairs.V2.{V2}
use Rattle.srs_num.specs.Points.{Point}
use Rattle.srs_map.specs.Step.{pair, origin, minus, step_of, after}

-- (1, 0), (-1, 0), (0, 1) or (0, -1)
pub data IsUnit : V2 → Type 0 where
  right : IsUnit (pair (pos 1) (pos 0))
  left : IsUnit (pair (negsuc 0) (pos 0))
  up : IsUnit (pair (pos 0) (pos 1))
  down : IsUnit (pair (pos 0) (negsuc 0))

-- v is the step of w at r, or it is on the other side of the step of -w
abbrev pub IsLink : Point → V2 → V2 → Type 0
IsLink r w v = (v ≡ step_of r w) ⊎ (v ≡ minus (step_of r (minus w)))

-- V has the units and both links of each member, and each member reaches (0, 0)
pub record IsBrunotteSet (r : Point) (V : V2 → Type 0) : Type 0 where
  pub units : (w : V2) → IsUnit w → V w
  pub closed : (w v : V2) → V w → IsLink r w v → V v
  pub reaches : (w : V2) → V w → (n : ℕ) × (after n r w ≡ origin)
