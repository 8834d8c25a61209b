-- Where the step of the points of a region leads.
use Rattle.std.specs.Prelude.{◌≡◌, ◌^◌, ℤ, ◌≤ℤ◌}
use Rattle.srs_num.specs.declared.pairs.V2.{V2}
use Rattle.srs_num.specs.Points.{Point, IsWithin}
use Rattle.srs_map.specs.Step.{pair, minus, step_of}
use Rattle.srs_map.specs.Links.{IsLink}
use Rattle.srs_plane.specs.Regions.{Area, IsIn}

-- the step of some point of R leads from w to v
abbrev pub LeadsTo : Area → V2 → V2 → Type 0
LeadsTo R w v = (r : Point) × IsIn R r × (step_of r w ≡ v)

-- the mirrored step of the mirrored w, at some point of R, is v
abbrev pub LeadsBackTo : Area → V2 → V2 → Type 0
LeadsBackTo R w v = (r : Point) × IsIn R r × (minus (step_of r (minus w)) ≡ v)

-- some point of R links w to v
abbrev pub LinksTo : Area → V2 → V2 → Type 0
LinksTo R w v = (r : Point) × IsIn R r × IsLink r w v

-- the numbers from low to high are exactly the second entries of the pairs that w is led to
pub record AreMoves (Leads : V2 → V2 → Type 0) (w : V2) (low high : ℤ) : Type 0 where
  pub each : (j : ℤ) → low ≤ℤ j → j ≤ℤ high → Leads w (pair w.b j)
  pub all : (j : ℤ) → Leads w (pair w.b j) → (low ≤ℤ j) × (j ≤ℤ high)
  pub low_range : IsWithin (2 ^ 41) low
  pub high_range : IsWithin (2 ^ 41) high
