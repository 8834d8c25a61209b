use Rattle.std.proofs.Common.{arith}
use Rattle.srs_map.proofs.Races.{first_lap, hare_plain, tortoise_plain, middle_ends, next_ends, next_meeting, next_lap, still_apart, same_pair, other_pair}
use Rattle.srs_map.proofs.chase.race.Goals as goal

pub loop-i-init : goal.loop-i-init
loop-i-init c = first_lap c.args.r.now c.args.z c.requires.plain

pub step-middle-requires-clause-narrow : goal.step-middle-requires-clause-narrow
step-middle-requires-clause-narrow c = (hare_plain c.args.r.now c.args.z c.loop-i.i c.loop-i.tortoise c.loop-i.hare c.loop-i.invariant).narrow

pub step-tortoise-requires-clause-narrow : goal.step-tortoise-requires-clause-narrow
step-tortoise-requires-clause-narrow c = (tortoise_plain c.args.r.now c.args.z c.loop-i.i c.loop-i.tortoise c.loop-i.hare c.loop-i.invariant).narrow

pub returns-in-Some : goal.returns-in-Some
returns-in-Some c =
    middle_ends c.args.r.now c.args.z c.loop-i.i c.loop-i.tortoise c.loop-i.hare c.loop-i.invariant c.step-middle.result c.step-middle.ensures c.args.n c.in-Some.seen c.loop-i-test.true c.in-Some.ensures.some

pub returns-in-Some-event : goal.returns-in-Some-event
returns-in-Some-event c =
    next_ends c.args.r.now c.args.z c.loop-i.i c.loop-i.tortoise c.loop-i.hare c.loop-i.invariant c.step-middle.result c.step-middle.ensures c.in_default.ensures.none c.step-hare.result c.step-hare.ensures c.args.n c.in-Some-event.seen c.loop-i-test.true c.in-Some-event.ensures.some

pub returns-then-eq : goal.returns-then-eq
returns-then-eq c = (
  omega arith,
  next_meeting c.args.r.now c.args.z c.loop-i.i c.loop-i.tortoise c.loop-i.hare c.loop-i.invariant c.step-middle.result c.step-middle.ensures c.in_default.ensures.none c.step-hare.result c.step-hare.ensures c.in_default-event.ensures.none c.step-tortoise.result c.step-tortoise.ensures
      (same_pair _ _ c.eq.result c.eq.ensures c.if-eq.true),
)

pub loop-i-preserved : goal.loop-i-preserved
loop-i-preserved c =
    next_lap c.args.r.now c.args.z c.loop-i.i c.loop-i.tortoise c.loop-i.hare c.loop-i.invariant c.step-middle.result c.step-middle.ensures c.in_default.ensures.none c.step-hare.result c.step-hare.ensures c.in_default-event.ensures.none c.step-tortoise.result c.step-tortoise.ensures
    (other_pair _ _ c.eq.result c.eq.ensures c.if-eq.false)

pub returns : goal.returns
returns c = still_apart c.args.r.now c.args.z c.loop-i.i c.args.n c.loop-i.tortoise c.loop-i.hare c.loop-i.invariant (omega arith) c.loop-i-test.false
