-- The walk begins at the root's spot.
use Rattle.std.proofs.Common.{refl, ◌∙◌}
use Rattle.srs_tree.proofs.Below.{walked}
use Rattle.srs_tree.proofs.versions.Version.preorder.Goals as goal

pub returns : goal.returns
returns c =
    walked c.self.inside.nodes c.self.inside.nodes c.args.self.now c.of-events.result c.walk.new.journal
    c.self.invariant.spots refl c.self.view_is (c.of-events.ensures ∙ c.in_ok-with_capacity.ensures.items) c.in_ok-walk.ensures
