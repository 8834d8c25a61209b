-- The round goes on, one cell at a time.
use Rattle.std.proofs.Common.{List, length, sym, subst}
use Rattle.srs_tree.specs.Queue.{WaitingCell}
use Rattle.srs_rounds.specs.Refined.{IsInRound}
use Rattle.srs_rounds.proofs.RoundSteps.{begins, cell_open, next_cell}
use Rattle.srs_rounds.proofs.refining.refine_round.Goals as goal

pub loop-pending-init : goal.loop-pending-init
loop-pending-init c =
    subst (λ (later : List WaitingCell). IsInRound c.args.tree.now.region c.args.limits.now c.args.number c.args.cells (length c.args.waiting.now) c.args.tree.now c.args.waiting.now later) (sym c.new-next.ensures.items)
    (begins c.args.tree.now.region c.args.limits.now c.args.number c.args.cells c.args.tree.now c.args.waiting.now c.requires.start)

pub refine_cell-requires-clause-waits : goal.refine_cell-requires-clause-waits
refine_cell-requires-clause-waits c =
    (cell_open c.args.tree.now.region c.args.limits.now c.args.number c.args.cells c.args.waiting.now c.loop-pending.tree c.loop-pending.next.items
    c.loop-pending.pending-index c.pending-item.result c.loop-pending-test.true c.pending-item.is c.loop-pending.invariant).0

pub refine_cell-requires-clause-region : goal.refine_cell-requires-clause-region
refine_cell-requires-clause-region c =
    (cell_open c.args.tree.now.region c.args.limits.now c.args.number c.args.cells c.args.waiting.now c.loop-pending.tree c.loop-pending.next.items
    c.loop-pending.pending-index c.pending-item.result c.loop-pending-test.true c.pending-item.is c.loop-pending.invariant).1

pub loop-pending-preserved : goal.loop-pending-preserved
loop-pending-preserved c =
    next_cell c.args.tree.now.region c.args.limits.now c.args.number c.args.cells c.args.waiting.now c.loop-pending.tree c.loop-pending.next.items
    c.loop-pending.pending-index c.pending-item.result c.loop-pending-test.true c.pending-item.is c.loop-pending.invariant
    c.refine_cell.new.tree c.refine_cell.new.next.items c.last-last.result c.wits-wits.result c.last-last.ensures c.wits-wits.ensures.wits c.in_ok-refine_cell.ensures
