-- On which side of a form a region is.
use Rattle.std.specs.Prelude.{pos, ◌≤ℤ◌, ◌<ℤ◌}
use Rattle.srs_num.specs.Points.{Point, LinearForm, value}
use Rattle.srs_plane.specs.Regions.{Area, IsIn}

-- each point of R has f at least 0
abbrev pub StaysAbove : Area → LinearForm → Type 0
StaysAbove R f = (r : Point) → IsIn R r → pos 0 ≤ℤ value f r

-- each point of R has f below 0
abbrev pub StaysBelow : Area → LinearForm → Type 0
StaysBelow R f = (r : Point) → IsIn R r → value f r <ℤ pos 0

-- a point of R has f at least 0
abbrev pub ReachesAbove : Area → LinearForm → Type 0
ReachesAbove R f = (r : Point) × IsIn R r × (pos 0 ≤ℤ value f r)

-- a point of R has f below 0
abbrev pub ReachesBelow : Area → LinearForm → Type 0
ReachesBelow R f = (r : Point) × IsIn R r × (value f r <ℤ pos 0)
