-- The floors of a form over a region.
use Rattle.std.specs.Prelude.{◌^◌, ℤ, ◌≤ℤ◌}
use Rattle.srs_num.specs.Points.{Point, LinearForm, value, IsWithin}
use Rattle.srs_num.specs.Floor.{IsFloor}
use Rattle.srs_plane.specs.Regions.{Area, IsIn}
use Rattle.srs_grid.specs.declared.floor_ranges.FloorRange.{FloorRange}

-- the floors of f at the points of R are exactly the whole numbers of the range
pub record HasFloors (R : Area) (f : LinearForm) (s : FloorRange) : Type 0 where
  pub each : (k : ℤ) → s.low ≤ℤ k → k ≤ℤ s.high → (r : Point) × IsIn R r × IsFloor (value f r) r.d k
  pub all : (r : Point) (k : ℤ) → IsIn R r → IsFloor (value f r) r.d k → (s.low ≤ℤ k) ×
      (k ≤ℤ s.high)
  pub low_range : IsWithin (2 ^ 41) s.low
  pub high_range : IsWithin (2 ^ 41) s.high
