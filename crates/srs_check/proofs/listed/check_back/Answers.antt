use Rattle.std.proofs.Common.{refl, arith}
use Rattle.srs_cell.specs.Moves.{LeadsBackTo}
use Rattle.srs_check.specs.Listed.{IsListed}
use Rattle.srs_check.proofs.Spans.{walk_goes, walked_all, back_begins}
use Rattle.srs_check.proofs.Entries.{missing_back}
use Rattle.srs_check.proofs.listed.check_back.Goals as goal

pub returns-in_default-clause-err : goal.returns-in_default-clause-err
returns-in_default-clause-err c =
    missing_back c.args.cell.now c.args.ranks.now c.args.w c.mirrored_steps_from-span.result.low c.mirrored_steps_from-span.result.high c.count-k-end.result c.mirrored_steps_from-span.ensures c.count-k-end.ensures
    c.loop-k.k c.loop-k.place c.loop-k.invariant (omega arith) c.pair-v.result c.pair-v.ensures c.in_default.ensures.none c.not_closed.result c.not_closed.ensures

pub loop-k-preserved : goal.loop-k-preserved
loop-k-preserved c =
    walk_goes c.args.ranks.now (IsListed c.args.ranks.now) c.args.w c.mirrored_steps_from-span.result.low c.loop-k.k c.loop-k.place c.pair-v.result c.loop-k.invariant c.pair-v.ensures
    (c.in-Some.field-0, c.in-Some.ensures.some) (c.in-Some.ensures.next refl)

pub returns-clause-ok : goal.returns-clause-ok
returns-clause-ok c =
    walked_all c.args.ranks.now (LeadsBackTo c.args.cell.now) (IsListed c.args.ranks.now) c.args.w c.mirrored_steps_from-span.result.low c.mirrored_steps_from-span.result.high c.count-k-end.result
    (back_begins c.args.cell.now c.args.w) c.mirrored_steps_from-span.ensures c.count-k-end.ensures c.loop-k.k c.loop-k.place c.loop-k.invariant (omega arith)
