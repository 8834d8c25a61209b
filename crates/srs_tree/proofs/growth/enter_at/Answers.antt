-- A finding is sound, and the spot is the one at the place.
use Rattle.std.proofs.Common.{sym, ap, ◌∙◌, subst}
use Rattle.srs_tree.specs.Nodes.{MaySettle, spots_from, parts_from}
use Rattle.srs_tree.proofs.Entering.{may_settle, grown_for}
use Rattle.srs_tree.proofs.growth.enter_at.Goals as goal

pub parts_of-requires : goal.parts_of-requires
parts_of-requires c =
    subst (MaySettle c.get.result.now) (sym c.outcome.ensures.outcome) (may_settle c.get.result.now c.args.f (c.requires.may c.get.result.now c.get.ensures.item) c.outcome.ensures.sound)

pub returns-in-Ok-settle-clause-grown : goal.returns-in-Ok-settle-clause-grown
returns-in-Ok-settle-clause-grown c = λ x e.
    grown_for c.args.nodes.now c.settle.new.nodes (spots_from c.in-Ok.parts) c.args.i c.in_ok-outcome.outcome.value c.args.f.outcome c.get.result.now x
    c.in_ok-outcome.ensures.owner c.get.ensures.item (c.in-Ok.ensures ∙ ap (parts_from c.get.result.now) c.outcome.ensures.outcome) c.in-Ok-settle.ensures.ok e
