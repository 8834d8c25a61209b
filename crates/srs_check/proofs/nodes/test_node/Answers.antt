use Rattle.std.proofs.Common.{sym, subst}
use Rattle.srs_path.specs.declared.outcomes.Outcome.{Outcome}
use Rattle.srs_check.specs.Tested.{IsTested}
use Rattle.srs_check.proofs.nodes.test_node.Goals as goal

pub returns-in-Inside : goal.returns-in-Inside
returns-in-Inside c =
    subst (λ (o : Outcome). IsTested c.args.cell.now c.args.limits.now c.args.depth o c.test_inside.result) (sym c.in-Inside.is) (c.test_inside.ensures c.args.limits.now c.args.depth)

pub returns-in-Outside : goal.returns-in-Outside
returns-in-Outside c =
    subst (λ (o : Outcome). IsTested c.args.cell.now c.args.limits.now c.args.depth o c.test_outside.result) (sym c.in-Outside.is) (c.test_outside.ensures c.args.limits.now c.args.depth)
