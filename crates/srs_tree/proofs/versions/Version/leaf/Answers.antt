-- The leaf that was found is the one that holds the point.
use Rattle.std.proofs.Common.{refl}
use Rattle.srs_tree.proofs.Ways.{descent}
use Rattle.srs_tree.proofs.versions.Version.leaf.Goals as goal

pub returns-in-Some-clause-at_most : goal.returns-in-Some-clause-at_most
returns-in-Some-clause-at_most g c =
    descent c.self.inside.nodes c.self.inside.nodes c.args.self.now c.args.r.now c.args.steps.now c.leaf_with.new.steps c.in-Some.leaf.now
    c.self.invariant.spots refl c.self.view_is c.in-Some.ensures.some c.in-Some.ensures.on_path
