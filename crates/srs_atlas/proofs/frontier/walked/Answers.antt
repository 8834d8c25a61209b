-- The next cell.
use Rattle.std.proofs.Common.{◌∙◌, ap, sym, subst, Some}
use Rattle.std.specs.declared.option.Option.{Option}
use Rattle.std.proofs.Common.{ℕ}
use Rattle.srs_tree.specs.Queue.{WaitingCell}
use Rattle.srs_atlas.proofs.Walking.{IsWalk, walk_has, walk_step}
use Rattle.srs_atlas.proofs.frontier.walked.Goals as goal

pub get-requires : goal.get-requires
get-requires c =
    let cells = c.args.cells.now in
    walk_has cells c.loop-slot.list.items c.in-Some.at (subst (IsWalk cells c.loop-slot.list.items) c.in-Some.is c.loop-slot.invariant)

pub loop-slot-preserved : goal.loop-slot-preserved
loop-slot-preserved c =
    let cells = c.args.cells.now in
    walk_step cells c.loop-slot.list.items c.in-Some.at c.in_ok-shared_cell.field-0 c.push.new.self.items c.next-slot.result
    (subst (IsWalk cells c.loop-slot.list.items) c.in-Some.is c.loop-slot.invariant) c.get.ensures.differ
    (c.get.ensures.item ∙ ap (λ (x : WaitingCell). Some x) (sym c.in_ok-shared_cell.ensures)) c.next-slot.ensures.slot c.in_ok-push.ensures.items
