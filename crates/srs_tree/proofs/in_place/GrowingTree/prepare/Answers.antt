-- The spot at the place is open, and of the finding's region.
use Rattle.std.proofs.Common.{subst}
use Rattle.srs_tree.specs.Growth.{MayEnter}
use Rattle.srs_tree.specs.Queue.{Growing}
use Rattle.srs_tree.proofs.Regions.{may_enter}
use Rattle.srs_tree.proofs.in_place.GrowingTree.prepare.Goals as goal

pub returns-in-Ok-clause-may : goal.returns-in-Ok-clause-may
returns-in-Ok-clause-may c =
    let at = c.in_ok-i.ensures.place in
    subst (λ (g : Growing). MayEnter g.version c.args.path c.args.f) c.self.view_is
    (may_enter c.self.inside.nodes c.self.invariant.spots c.in_ok-i.i at.spot c.args.path c.args.f at.is at.at_path at.fresh at.region)
