-- The version that is built from a certificate.
use Rattle.std.specs.Prelude.{◌≡◌, List, None, Some}
use Rattle.std.specs.declared.option.Option.{Option}
use Rattle.srs_plane.specs.Polygons.{region_of}
use Rattle.srs_path.specs.declared.paths.Side.{Side}
use Rattle.srs_path.specs.declared.outcomes.Cause.TheVariants.{Memory}
use Rattle.srs_path.specs.declared.outcomes.Outcome.{Outcome}
use Rattle.srs_path.specs.declared.outcomes.Outcome.TheVariants.{Inside, Outside, Cut, Left}
use Rattle.srs_tree.specs.Tree.{outcome_at}
use Rattle.srs_tree.specs.Snapshots.{Snapshot, tree_of}
use Rattle.srs_cert.specs.Certificates.{CertView}
use Rattle.srs_check.specs.declared.faults.Checked.TheVariants.{Valid, Bad}
use Rattle.srs_check.specs.declared.builds.Built.{Built}
use Rattle.srs_check.specs.declared.builds.Built.TheVariants.{Valid as BuiltValid, Bad as BuiltBad}
use Rattle.srs_check.specs.Faults.{IsChecked}
use Rattle.srs_check.specs.Certified.{IsCertified}

-- the outcome that a node has in the version: the cause of a cell that is left isn't taken over
abbrev pub as_built : Outcome → Outcome
as_built (Inside ranks) = Inside ranks
as_built (Outside cycle) = Outside cycle
as_built (Cut h) = Cut h
as_built (Left cause) = Left Memory

-- the same of what a path has
abbrev pub built_in : Option Outcome → Option Outcome
built_in None = None
built_in (Some o) = Some (as_built o)

-- v has the region of the polygon, and at each path what the certificate has there
pub record IsBuilt (c : CertView) (v : Snapshot) : Type 0 where
  pub region : v.region ≡ region_of c.vertices
  pub entries : (path : List Side) → tree_of v path ≡ built_in (outcome_at c.events path)

-- each node proves itself, and what follows of that, with the version and the counts; or some node doesn't, with the line
-- and the first fault
abbrev pub IsBuiltFrom : CertView → Built → Type 0
IsBuiltFrom c (BuiltValid v counts) = IsBuilt c v × IsChecked c (Valid counts) × IsCertified c
IsBuiltFrom c (BuiltBad line fault) = IsChecked c (Bad line fault)
