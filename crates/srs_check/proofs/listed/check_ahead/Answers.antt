use Rattle.std.proofs.Common.{◌≢◌, ◌<◌, refl, sym, arith, true≢false}
use Rattle.std.proofs.Math.Decide.{dec_lt}
use Rattle.srs_map.specs.Step.{origin}
use Rattle.srs_cell.specs.Moves.{LeadsTo}
use Rattle.srs_check.specs.Listed.{IsBelow}
use Rattle.srs_check.proofs.Spans.{walk_goes, walked_all, ahead_begins}
use Rattle.srs_check.proofs.Entries.{is_below, missing_ahead, no_fall as fault_no_fall}
use Rattle.srs_check.proofs.listed.check_ahead.Goals as goal

pub returns-in_default-clause-err : goal.returns-in_default-clause-err
returns-in_default-clause-err c =
    missing_ahead c.args.cell.now c.args.ranks.now c.args.w c.args.rank c.steps_from-span.result.low c.steps_from-span.result.high c.count-k-end.result c.steps_from-span.ensures c.count-k-end.ensures
    c.loop-k.k c.loop-k.place c.loop-k.invariant (omega arith) c.pair-v.result c.pair-v.ensures c.in_default.ensures.none c.not_closed.result c.not_closed.ensures

pub returns-then-stays_up-clause-err : goal.returns-then-stays_up-clause-err
returns-then-stays_up-clause-err c =
    let up = c.if-stays_up.ensures.0 refl in
    fault_no_fall c.args.cell.now c.args.ranks.now c.args.w c.args.rank c.steps_from-span.result.low c.steps_from-span.result.high c.count-k-end.result c.steps_from-span.ensures c.count-k-end.ensures
    c.loop-k.k c.loop-k.place c.loop-k.invariant (omega arith) c.pair-v.result c.pair-v.ensures up.0 c.in-Some.reached c.in-Some.ensures.some up.1 c.no_fall.result c.no_fall.ensures

pub loop-k-preserved : goal.loop-k-preserved
loop-k-preserved c =
    let lower : c.args.w ≢ origin → c.in-Some.reached < c.args.rank =
    λ z. elim (dec_lt c.in-Some.reached c.args.rank) as (λ _. c.in-Some.reached < c.args.rank) [
      | yes l ↦ l
      | no l ↦ absurd (true≢false (sym (c.if-stays_up.ensures.1 (z, omega arith))))
    ] in
    walk_goes c.args.ranks.now (IsBelow c.args.ranks.now (c.args.w, c.args.rank)) c.args.w c.steps_from-span.result.low c.loop-k.k c.loop-k.place c.pair-v.result c.loop-k.invariant c.pair-v.ensures
    (is_below c.args.ranks.now c.place_for-place.ensures.list (c.args.w, c.args.rank) c.pair-v.result c.in-Some.reached c.in-Some.ensures.some lower) (c.in-Some.ensures.next refl)

pub returns-clause-ok : goal.returns-clause-ok
returns-clause-ok c =
    walked_all c.args.ranks.now (LeadsTo c.args.cell.now) (IsBelow c.args.ranks.now (c.args.w, c.args.rank)) c.args.w c.steps_from-span.result.low c.steps_from-span.result.high c.count-k-end.result
    (ahead_begins c.args.cell.now c.args.w) c.steps_from-span.ensures c.count-k-end.ensures c.loop-k.k c.loop-k.place c.loop-k.invariant (omega arith)
