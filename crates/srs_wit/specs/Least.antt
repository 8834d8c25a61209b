-- Sets of pairs that are closed under the links of a region.
use Rattle.srs_num.specs.declared.pairs.V2.{V2}
use Rattle.srs_num.specs.Points.{Point}
use Rattle.srs_map.specs.Links.{IsUnit, IsLink}
use Rattle.srs_plane.specs.Regions.{Area, IsIn}

-- V has the units, and both links of each member at each point of R
pub record IsClosedUnder (R : Area) (V : V2 → Type 0) : Type 0 where
  pub units : (w : V2) → IsUnit w → V w
  pub links : (r : Point) → IsIn R r → (w v : V2) → V w → IsLink r w v → V v
