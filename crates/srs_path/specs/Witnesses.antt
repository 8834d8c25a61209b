-- The witnesses of a region, its edges, and when it is small.
use Rattle.std.specs.Prelude.{◌≡◌, ◌≢◌, ℕ, ◌≤◌, ◌<◌, List, length, Contains, AllPairs}
use Rattle.srs_num.specs.declared.pairs.V2.{V2}
use Rattle.srs_num.specs.Points.{Point}
use Rattle.srs_map.specs.Step.{step_of, IsNarrow}
use Rattle.srs_map.specs.Links.{IsUnit, IsLink}
use Rattle.srs_plane.specs.Regions.{Area, IsIn}

-- the pairs reached from the units by finite chains, each link being one of some point of R
pub data IsWitness (R : Area) : V2 → Type 0 where
  unit : {w : V2} → IsUnit w → IsWitness R w
  link : {w v : V2} (r : Point) → IsIn R r → IsLink r w v → IsWitness R w → IsWitness R v

-- different pairs, all of them witnesses
pub record AreWitnesses (R : Area) (ws : List V2) : Type 0 where
  pub different : AllPairs ◌≢◌ ws
  pub each : (w : V2) → Contains ws w → IsWitness R w

-- there are at most W witnesses, and all their entries are within 2^37
pub record IsSmall (R : Area) (W : ℕ) : Type 0 where
  pub few : (ws : List V2) → AreWitnesses R ws → length ws ≤ W
  pub narrow : (w : V2) → IsWitness R w → IsNarrow w

-- more than W different witnesses, or one with an entry past 2^37
pub data IsLarge (R : Area) (W : ℕ) : Type 0 where
  many : (ws : List V2) → AreWitnesses R ws → W < length ws → IsLarge R W
  wide : (w : V2) → IsWitness R w → (IsNarrow w → ⊥) → IsLarge R W

-- the step of some point of R leads from w to v
abbrev pub HasEdge : Area → V2 → V2 → Type 0
HasEdge R w v = (r : Point) × IsIn R r × (step_of r w ≡ v)
