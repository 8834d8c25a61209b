-- A version is one of spots.
use Rattle.std.proofs.Common.{subst}
use Rattle.srs_tree.specs.Growth.{IsVersion}
use Rattle.srs_tree.proofs.Regions.{is_version}
use Rattle.srs_tree.proofs.versions.Version.count.Goals as goal

pub returns-clause-version : goal.returns-clause-version
returns-clause-version c = subst IsVersion c.self.view_is (is_version c.self.inside.nodes c.self.invariant.spots)
