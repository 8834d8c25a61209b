use Rattle.std.proofs.Common.{arith}
use Rattle.srs_map.proofs.Races.{first_round, round_plain, next_round, period_found, period_late, same_pair, other_pair}
use Rattle.srs_map.proofs.chase.period.Goals as goal

pub loop-l-init : goal.loop-l-init
loop-l-init c = first_round c.args.r.now c.args.w c.step-pair.result c.step-pair.ensures

pub returns-then-eq-clause-least : goal.returns-then-eq-clause-least
returns-then-eq-clause-least c =
    period_found c.args.r.now c.args.w c.loop-l.l c.loop-l.pair c.loop-l.invariant c.loop-l.auto.l
    (same_pair _ _ c.eq.result c.eq.ensures c.if-eq.true)

pub step-pair-requires-in-loop-l-clause-narrow : goal.step-pair-requires-in-loop-l-clause-narrow
step-pair-requires-in-loop-l-clause-narrow c =
    (round_plain c.args.r.now c.args.w c.loop-l.l c.loop-l.pair c.loop-l.invariant c.args.i c.requires.plain c.loop-l-test.true).narrow

pub loop-l-preserved : goal.loop-l-preserved
loop-l-preserved c =
    next_round c.args.r.now c.args.w c.loop-l.l c.loop-l.pair c.loop-l.invariant
    (other_pair _ _ c.eq.result c.eq.ensures c.if-eq.false)
    c.step-pair-in-loop-l.result c.step-pair-in-loop-l.ensures

pub returns-clause-least : goal.returns-clause-least
returns-clause-least c =
    period_late c.args.r.now c.args.w c.loop-l.l c.loop-l.pair c.loop-l.invariant c.args.i c.requires.some c.loop-l-test.false (omega arith) c.requires.back
