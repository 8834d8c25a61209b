-- The spot of the cell is open, and of the finding's region.
use Rattle.std.proofs.Common.{subst, sym}
use Rattle.srs_tree.specs.Growth.{MayEnter}
use Rattle.srs_tree.specs.Queue.{Growing}
use Rattle.srs_tree.proofs.Entering.{open_at}
use Rattle.srs_tree.proofs.in_place.GrowingTree.enter_prepared.Goals as goal

pub enter_parts-requires-clause-there : goal.enter_parts-requires-clause-there
enter_parts-requires-clause-there c =
    open_at c.self.inside.nodes c.args.path c.place_near-i.result c.args.prepared.finding c.self.invariant.spots c.place_near-i.ensures
    (subst (λ (g : Growing). MayEnter g.version c.args.path c.args.prepared.finding) (sym c.self.view_is) c.requires.may)
