-- What `live` decides, in which order, and what it writes before its certificate.
use Rattle.std.specs.Prelude.{ℕ, List, ◌++◌, take, Contains, codes}
use Rattle.srs_plane.specs.Regions.{Area}
use Rattle.srs_path.specs.Views.{Budget, Entry}
use Rattle.srs_path.specs.Soundness.{IsSound}
use Rattle.srs_tree.specs.Tree.{History, outcome_at, region_at, IsPartition}
use Rattle.srs_tree.specs.Rounds.{IsWhole, IsInRounds}
use Rattle.srs_tree.specs.declared.queries.Said.{Said}
use Rattle.srs_cert.specs.Texts.{ended, count_text}
use Rattle.srs_cert.specs.Lives.{journal_text, sessions_text}

-- H is whole within the limits, and in rounds. At each beginning of H its leaves partition the
-- region, and what each outcome claims holds of its cell: inside, each point is finite; outside, at
-- each point the printed pair recurs; cut, the form divides the cell
pub record DecidesInRounds (Root : Area) (b : Budget) (H : History) : Type 0 where
  pub whole : IsWhole Root b H
  pub in_rounds : IsInRounds H
  pub partitions : (k : ℕ) → IsPartition Root (outcome_at (take k H))
  pub sound : (e : Entry) → Contains H e
      → IsSound (region_at Root (outcome_at H) e.path) b.wits e.outcome

-- what stands before the certificate in the text of a live run: the journal, and what each session
-- was told
abbrev pub before_certificate : History → List (List Said) → List ℕ
before_certificate H told =
    count_text (codes "live") 1 ++ journal_text H ++ sessions_text told ++ ended (codes "end")
