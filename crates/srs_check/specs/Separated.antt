-- Which points a certificate tells apart.
use Rattle.std.specs.Prelude.{◌≡◌, ℕ, ℤ, List, Some}
use Rattle.srs_num.specs.declared.pairs.V2.{V2}
use Rattle.srs_num.specs.Points.{Point}
use Rattle.srs_map.specs.Finiteness.{IsFinite}
use Rattle.srs_plane.specs.Polygons.{region_of}
use Rattle.srs_path.specs.declared.paths.Side.{Side}
use Rattle.srs_path.specs.declared.outcomes.Outcome.{Outcome}
use Rattle.srs_path.specs.declared.outcomes.Outcome.TheVariants.{Inside, Outside}
use Rattle.srs_tree.specs.Tree.{outcome_at, HoldsAt}
use Rattle.srs_cert.specs.Certificates.{CertView}

-- the point is in a leaf of the certificate that has this outcome
pub record IsInLeafOf (c : CertView) (o : Outcome) (r : Point) : Type 0 where
  pub path : List Side
  pub holds : HoldsAt (region_of c.vertices) (outcome_at c.events) r path
  pub has : outcome_at c.events path ≡ Some o

-- no point of a leaf that is outside is finite, and each point of a leaf that is inside is. So where a
-- set of points lies in leaves that are outside, it has no finite point
pub record Separates (c : CertView) : Type 0 where
  pub outside : (cycle : List ℤ) (r : Point) → IsInLeafOf c (Outside cycle) r → IsFinite r → ⊥
  pub inside : (ranks : List (V2 × ℕ)) (r : Point) → IsInLeafOf c (Inside ranks) r → IsFinite r
