-- The first round has the root; past the last one the tree is whole.
use Rattle.std.proofs.Common.{arith}
use Rattle.srs_rounds.proofs.RoundSteps.{starts, finished, root_alone, none_left}
use Rattle.srs_rounds.proofs.refining.rounds.Goals as goal

pub loop-number-init : goal.loop-number-init
loop-number-init c =
    starts c.args.cell c.args.limits.now c.in_ok-tree.tree c.push.new.self.items c.depth-number-end.ensures.budget c.in_ok-tree.ensures
    (root_alone c.args.cell c.in_ok-tree.tree c.in_ok-root.field-0 c.new-waiting.result.items c.push.new.self.items
    c.in_ok-tree.ensures c.new-waiting.ensures.items c.in_ok-root.ensures c.in_ok-push.ensures.items)

pub returns-then-is_empty : goal.returns-then-is_empty
returns-then-is_empty c =
    finished c.args.cell c.args.limits.now c.loop-number.number c.loop-number.cells c.loop-number.tree c.finish.result c.loop-number.waiting.items
    (none_left c.loop-number.waiting.items _ c.is_empty.result c.is_empty.ensures c.if-is_empty.true (omega arith)) c.finish.ensures c.loop-number.invariant

pub returns : goal.returns
returns c =
    let depth = c.depth-number-end.ensures.depth in
    let over = c.loop-number-test.false in
    let s = c.loop-number.invariant in
    finished c.args.cell c.args.limits.now c.loop-number.number c.loop-number.cells c.loop-number.tree c.finish-2.result c.loop-number.waiting.items
    (s.past (omega (arith, depth, over))) c.finish-2.ensures s
