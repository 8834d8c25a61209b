-- What a `Region` keeps.
use Rattle.std.specs.Prelude.{◌≤◌, length}
use Rattle.srs_num.specs.Points.{Point, IsNear}
use Rattle.srs_plane.specs.Regions.{Area, IsIn}
use Rattle.srs_plane.specs.declared.regions.TheConstants.{MOST_HALVES}

-- three halves at least and not more than a region may have, and each point of them has |x| <= 4
-- and |y| <= 4
pub record IsBounded (R : Area) : Type 0 where
  pub low : 3 ≤ length R
  pub high : length R ≤ MOST_HALVES
  pub near : (r : Point) → IsIn R r → IsNear r
