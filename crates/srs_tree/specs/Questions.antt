-- What may be asked.
use Rattle.std.specs.Prelude.{⊤, ℕ, ◌≤◌, length}
use Rattle.srs_num.specs.declared.pairs.V2.{V2}
use Rattle.srs_num.specs.Points.{Point as Place, IsPtSized, IsNear}
use Rattle.srs_map.specs.Step.{IsNarrow}
use Rattle.srs_tree.specs.declared.queries.Query.{Query}
use Rattle.srs_tree.specs.declared.queries.Query.TheVariants.{Fresh, Count, Point, Polygon, Orbit}

-- of what orbits it may be asked: d is 1 to 2^40, both coordinates are within 4 and both entries within 2^37, and there
-- are at most 100000 steps
pub record IsOrbitAsked (r : Place) (z : V2) (n : ℕ) : Type 0 where
  pub sized : IsPtSized r
  pub near : IsNear r
  pub narrow : IsNarrow z
  pub few : n ≤ 100000

-- a polygon that is asked about has at most 16 halves, and an orbit is within its bounds
abbrev pub IsAskable : Query → Type 0
IsAskable Fresh = ⊤
IsAskable Count = ⊤
IsAskable (Point r) = ⊤
IsAskable (Polygon q) = length q ≤ 16
IsAskable (Orbit r z n) = IsOrbitAsked r z n
