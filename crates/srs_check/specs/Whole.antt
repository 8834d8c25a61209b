-- The certificates of whole histories.
use Rattle.std.specs.Prelude.{◌≡◌, ⊤}
use Rattle.srs_plane.specs.Polygons.{region_of}
use Rattle.srs_path.specs.Views.{IsBudget}
use Rattle.srs_tree.specs.Tree.{History}
use Rattle.srs_tree.specs.Rounds.{IsWhole}
use Rattle.srs_tree.specs.Snapshots.{Snapshot, StandsFor}
use Rattle.srs_tree.specs.Preorder.{preorder_of}
use Rattle.srs_cert.specs.Certificates.{CertView}
use Rattle.srs_check.specs.declared.faults.Checked.{Checked}
use Rattle.srs_check.specs.declared.faults.Checked.TheVariants.{Valid, Bad}
use Rattle.srs_check.specs.Proving.{IsProved}

-- the events are those of a whole history, in preorder
pub record IsOfWhole (c : CertView) : Type 0 where
  pub history : History
  pub whole : IsWhole (region_of c.vertices) c.limits history
  pub snapshot : Snapshot
  pub stands : StandsFor (region_of c.vertices) history snapshot
  pub events_are : c.events ≡ preorder_of snapshot

-- the statement that each node of the certificate of a whole history proves itself
abbrev pub WholeIsProved : Type 0
WholeIsProved = (c : CertView) → IsBudget c.limits → IsOfWhole c → IsProved c

-- the answer is that each node proves itself
abbrev pub IsValid : Checked → Type 0
IsValid (Valid counts) = ⊤
IsValid (Bad line fault) = ⊥
