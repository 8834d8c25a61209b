use Rattle.std.proofs.Common.{arith}
use Rattle.srs_map.proofs.Races.{first_approach, first_plain, second_plain, next_approach, start_found, start_late, same_pair, other_pair}
use Rattle.srs_map.proofs.chase.start.Goals as goal

pub loop-steps-init : goal.loop-steps-init
loop-steps-init c = first_approach c.args.r.now c.args.z c.args.meeting c.requires.met

pub step-first-requires-clause-narrow : goal.step-first-requires-clause-narrow
step-first-requires-clause-narrow c =
    (first_plain c.args.r.now c.args.z c.args.meeting c.requires.met c.loop-steps.steps c.loop-steps.first c.loop-steps.second c.loop-steps.invariant c.loop-steps-test.true).narrow

pub step-second-requires-clause-narrow : goal.step-second-requires-clause-narrow
step-second-requires-clause-narrow c =
    (second_plain c.args.r.now c.args.z c.args.meeting c.requires.met c.loop-steps.steps c.loop-steps.first c.loop-steps.second c.loop-steps.invariant c.loop-steps-test.true).narrow

pub loop-steps-preserved : goal.loop-steps-preserved
loop-steps-preserved c =
    next_approach c.args.r.now c.args.z c.args.meeting c.requires.met c.loop-steps.steps c.loop-steps.first c.loop-steps.second c.loop-steps.invariant
    (other_pair _ _ c.eq.result c.eq.ensures c.if-eq.false)
    c.step-first.result c.step-second.result c.step-first.ensures c.step-second.ensures

pub returns-then-eq : goal.returns-then-eq
returns-then-eq c =
    start_found c.args.r.now c.args.z c.args.meeting c.requires.met c.loop-steps.steps c.loop-steps.first c.loop-steps.second c.loop-steps.invariant c.loop-steps-test.true
    (same_pair _ _ c.eq.result c.eq.ensures c.if-eq.true)

pub returns : goal.returns
returns c =
    start_late c.args.r.now c.args.z c.args.meeting c.requires.met c.loop-steps.steps c.loop-steps.first c.loop-steps.second c.loop-steps.invariant c.loop-steps-test.false (omega arith)
