-- What playing a segment tells.
use Rattle.std.specs.Prelude.{ℕ, List, length}
use Rattle.srs_plane.specs.Regions.{Area}
use Rattle.srs_tree.specs.Tree.{History}
use Rattle.srs_tree.specs.Legality.{IsLegal}
use Rattle.srs_tree.specs.Rounds.{AreRowsDone}
use Rattle.srs_tree.specs.Fits.{Heard, taken, TellsSegment, ComesAfterRows}
use Rattle.srs_tree.specs.declared.queries.Said.{Said}
use Rattle.srs_tree.specs.declared.sessions.Segment.{Segment}

-- The segment was told this while the history grew from `before` to `after`: no version or count
-- is older than `before`. Where each cell of `before` on a path shorter than the segment's round has
-- its event, each version holds all that `after` has on such paths.
pub record IsPlayed (Root : Area) (before after : History) (s : Segment) (told : List Said) : Type 0 where
  pub heard : Heard
  pub tells : TellsSegment Root after (taken (length before)) s told heard
  pub rows : (W : ℕ) → AreRowsDone before s.at → IsLegal Root W after → ComesAfterRows after s told
