use Rattle.std.proofs.Common.{◌≡◌, length, sym, ap, ◌∙◌, arith}
use Rattle.srs_path.specs.Views.{Entry}
use Rattle.srs_check.proofs.Answering.{same_get}
use Rattle.srs_check.proofs.Walking.{room}
use Rattle.srs_check.proofs.tally.tally_of.Goals as goal

pub loop-i-init : goal.loop-i-init
loop-i-init c = c.new-tally.ensures c.args.c.now.events

pub add-requires : goal.add-requires
add-requires c =
    let there = same_get c.events.result.now c.args.c.now.events c.loop-i.i c.get-event.result.now c.events.ensures.events c.get-event.ensures in
    record { few = room c.args.c.now c.loop-i.i c.len.result c.get-event.result.now c.loop-i.tally c.node_count-i-end.ensures.certificate there (omega (arith, c.len.ensures.short)) c.loop-i.invariant }

pub loop-i-preserved : goal.loop-i-preserved
loop-i-preserved c =
    let there = same_get c.events.result.now c.args.c.now.events c.loop-i.i c.get-event.result.now c.events.ensures.events c.get-event.ensures in
    let depth : length c.get-event.result.now.path ≡ c.len.result = ap (λ (x : Entry). length x.path) (sym c.event.view_is) ∙ sym c.len.ensures.len in
    c.add.ensures c.args.c.now.events c.loop-i.i
    (record { entry = c.get-event.result.now; there = there; depth_is = depth; outcome_is = ap (λ (x : Entry). x.outcome) (sym c.event.view_is) ∙ sym c.as_ref.ensures })
    c.loop-i.invariant
