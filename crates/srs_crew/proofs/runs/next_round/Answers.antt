-- The counts are those of the plan, and fit.
use Rattle.std.proofs.Common.{◌+◌, sym, subst, arith}
use Rattle.srs_crew.specs.Telling.{AreToldBelow}
use Rattle.srs_crew.proofs.Telling.{rows_stay, rounds_next, rounds_later}
use Rattle.srs_crew.proofs.Running.{counts_fit, plan_round, rows_next, none_now, all_rows}
use Rattle.srs_crew.proofs.runs.next_round.Goals as goal

pub last-last-requires-clause-cells : goal.last-last-requires-clause-cells
last-last-requires-clause-cells g c =
    let t = counts_fit c.args.atlas.now.fixed c.args.limits.now c.requires.plan c.wits.ensures.budget c.counts-counts.new.pass.seen c.args.round c.counts-counts.result c.counts-counts.ensures.lawful c.counts-counts.ensures.counts in
    omega (arith, t.0)

pub last-last-requires-clause-pending : goal.last-last-requires-clause-pending
last-last-requires-clause-pending g c =
    let t = counts_fit c.args.atlas.now.fixed c.args.limits.now c.requires.plan c.wits.ensures.budget c.counts-counts.new.pass.seen c.args.round c.counts-counts.result c.counts-counts.ensures.lawful c.counts-counts.ensures.counts in
    omega (arith, t.1)

pub level-requires-clause-plan : goal.level-requires-clause-plan
level-requires-clause-plan g c κs within =
    plan_round c.args.atlas.now.fixed c.args.limits.now c.requires.plan c.wits.ensures.budget c.args.pass.now.seen c.counts-counts.new.pass.seen c.args.round c.counts-counts.result c.last-last.result
    c.requires.rows c.counts-counts.ensures.seen c.counts-counts.ensures.lawful c.counts-counts.ensures.counts c.last-last.ensures

pub returns-clause-rows : goal.returns-clause-rows
returns-clause-rows g c =
    let t = c.args.atlas.now.fixed in
    rows_next t c.args.limits.now c.requires.plan c.wits.ensures.budget c.args.pass.now.seen c.counts-counts.new.pass.seen c.level.new.pass.seen c.args.round c.requires.rows c.counts-counts.ensures.seen c.level.ensures.seen
    c.in_ok-more.ensures.done

pub returns-clause-told : goal.returns-clause-told
returns-clause-told g c =
    let t = c.args.atlas.now.fixed in
    let rows = rows_stay t.root t.w c.args.round c.args.pass.now.seen c.counts-counts.new.pass.seen c.counts-counts.ensures.seen c.counts-counts.ensures.lawful.legal c.requires.rows in
    subst (AreToldBelow t.root c.level.new.pass.seen (c.args.round + 1) c.args.script.now) (sym c.in_ok-add_round.ensures)
    (rounds_next t.root c.args.pass.now.seen c.counts-counts.new.pass.seen c.level.new.pass.seen c.args.round c.args.script.now c.args.told.now c.in_ok-more.more c.requires.told c.counts-counts.ensures.seen c.level.ensures.seen rows
    c.in_ok-more.ensures.told)

pub returns-then-counts-eq0-clause-told : goal.returns-then-counts-eq0-clause-told
returns-then-counts-eq0-clause-told g c =
    rounds_later c.args.atlas.now.fixed.root c.args.pass.now.seen c.counts-counts.new.pass.seen c.args.round c.args.script.now c.args.told.now c.counts-counts.ensures.seen c.requires.told

pub returns-then-counts-eq0-clause-rows : goal.returns-then-counts-eq0-clause-rows
returns-then-counts-eq0-clause-rows g c =
    all_rows c.counts-counts.new.pass.seen (c.args.round + 1)
    (none_now c.args.atlas.now.fixed c.args.pass.now.seen c.counts-counts.new.pass.seen c.args.round c.counts-counts.result c.requires.rows c.counts-counts.ensures.seen c.counts-counts.ensures.lawful c.counts-counts.ensures.counts c.if-counts-eq0.true)

pub returns-then-counts-eq0-clause-all : goal.returns-then-counts-eq0-clause-all
returns-then-counts-eq0-clause-all g c _ =
    none_now c.args.atlas.now.fixed c.args.pass.now.seen c.counts-counts.new.pass.seen c.args.round c.counts-counts.result c.requires.rows c.counts-counts.ensures.seen c.counts-counts.ensures.lawful c.counts-counts.ensures.counts c.if-counts-eq0.true
