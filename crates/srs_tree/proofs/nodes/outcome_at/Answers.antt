-- The spot at the path's place has the outcome of the path.
use Rattle.std.proofs.Common.{◌∙◌, ap, sym, Some}
use Rattle.srs_tree.proofs.Entering.{has_outcome, no_outcome}
use Rattle.srs_tree.proofs.nodes.outcome_at.Goals as goal

pub returns-in_default : goal.returns-in_default
returns-in_default c = no_outcome c.args.nodes.now c.args.path.now c.requires c.in_default.ensures.no_cell

pub returns-in-Some : goal.returns-in-Some
returns-in-Some c =
    has_outcome c.args.nodes.now c.args.path.now c.in-Ok.i c.get.result.now c.requires c.in-Ok.ensures.found c.get.ensures.item
    ∙ c.in-Some.ensures ∙ ap Some (sym c.deref.ensures)

pub returns-in-None : goal.returns-in-None
returns-in-None c =
    has_outcome c.args.nodes.now c.args.path.now c.in-Ok.i c.get.result.now c.requires c.in-Ok.ensures.found c.get.ensures.item
    ∙ c.in-None.ensures
