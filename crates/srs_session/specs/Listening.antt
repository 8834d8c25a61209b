-- How far a segment has been played.
use Rattle.std.specs.Prelude.{◌≤◌, ℕ, List, length, take}
use Rattle.srs_plane.specs.Regions.{Area}
use Rattle.srs_tree.specs.Tree.{History}
use Rattle.srs_tree.specs.Snapshots.{Snapshot, StandsFor}
use Rattle.srs_tree.specs.Fits.{Heard, taken, Tells, TellsSegment}
use Rattle.srs_tree.specs.declared.queries.Query.{Query}
use Rattle.srs_tree.specs.declared.queries.Said.{Said}
use Rattle.srs_tree.specs.declared.sessions.Segment.{Segment}

-- no number that was heard is greater than the history
pub record IsHeardIn (H : History) (heard : Heard) : Type 0 where
  pub version : heard.version ≤ length H
  pub most : heard.most ≤ length H

-- v is the version that was taken last
pub record IsVersionHeard (Root : Area) (H : History) (heard : Heard) (v : Snapshot) : Type 0 where
  pub within : IsHeardIn H heard
  pub stands : StandsFor Root (take heard.version H) v

-- the question was answered while the history grew to H and another version may have been taken
pub record IsAnswered (Root : Area) (H : History) (heard : Heard) (query : Query) (said : Said)
    (v : Snapshot) : Type 0 where
  pub next : Heard
  pub tells : Tells Root H heard query said next
  pub held : IsVersionHeard Root H next v

-- the segment with its first i questions alone
abbrev pub first_queries : Segment → ℕ → Segment
first_queries s i = record { at = s.at; queries = take i s.queries }

-- the first i questions were answered while the history grew from `before` to `now`
pub record IsPlayedTo (Root : Area) (before now : History) (s : Segment) (i : ℕ)
    (told : List Said) (v : Snapshot) : Type 0 where
  pub heard : Heard
  pub tells : TellsSegment Root now (taken (length before)) (first_queries s i) told heard
  pub held : IsVersionHeard Root now heard v
