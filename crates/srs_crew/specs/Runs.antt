-- What a run makes.
use Rattle.std.specs.Prelude.{List}
use Rattle.srs_plane.specs.Regions.{Area}
use Rattle.srs_path.specs.Views.{Budget}
use Rattle.srs_tree.specs.Rounds.{IsWhole, IsInRounds}
use Rattle.srs_tree.specs.Fits.{Fits}
use Rattle.srs_tree.specs.Snapshots.{StandsFor}
use Rattle.srs_tree.specs.declared.sessions.Segment.{Segment}
use Rattle.srs_tree.specs.declared.sessions.Run.{Run}

-- the history is whole by the limits, and in rounds, the version stands for it, and what the
-- sessions were told fits it
pub record IsRun (Root : Area) (L : Budget) (script : List (List Segment)) (run : Run) : Type 0 where
  pub whole : IsWhole Root L run.journal
  pub in_rounds : IsInRounds run.journal
  pub stands : StandsFor Root run.journal run.version
  pub fits : Fits Root run.journal script run.transcripts
