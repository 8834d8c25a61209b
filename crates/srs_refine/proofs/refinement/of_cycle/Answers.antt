use Rattle.std.proofs.Common.{inl, Option, sym, subst}
use Rattle.srs_path.specs.declared.limits.Last.{Last}
use Rattle.srs_path.specs.Refinement.{Refines}
use Rattle.srs_refine.proofs.Uncovered.{cycle_fails, cycle_cuts, cycle_divides}
use Rattle.srs_refine.proofs.refinement.of_cycle.Goals as goal

pub returns-in-Some-default : goal.returns-in-Some-default
returns-in-Some-default c W s =
    subst (λ (last : Option Last). Refines c.args.cell.now last W c.left.result) (sym c.in-Some-default.is-0)
    (c.left.ensures c.args.cell.now W (c.args.cycle, cycle_fails c.args.cell.now c.args.cycle c.requires c.in-Fails.at c.in-Fails.ensures.0 W s))

pub returns-in-None-Some : goal.returns-in-None-Some
returns-in-None-Some c W s =
    (c.in-None-Some.is-0, inl (cycle_cuts c.args.cell.now c.args.cycle c.requires c.in-Fails.at c.in-Fails.ensures.0 W c.in-Fails.divides c.in-None-Some.form s c.in-Fails.ensures.1 c.in-None-Some.is-1))

pub unreachable-requires : goal.unreachable-requires
unreachable-requires c =
    cycle_divides c.args.cell.now c.args.cycle c.requires c.in-Fails.at c.in-Fails.ensures.0 c.in-Fails.divides c.in-Fails.ensures.1 c.in-None-None.is-1
