use Rattle.std.proofs.Common.{◌≡◌, ℕ, length, sym, ap, subst, ◌∙◌, arith}
use Rattle.srs_path.specs.Views.{Entry}
use Rattle.srs_check.specs.Walks.{HasCome}
use Rattle.srs_check.proofs.Answering.{same_get}
use Rattle.srs_check.proofs.Walking.{comes_to}
use Rattle.srs_check.proofs.WholeProved.{whole_valid}
use Rattle.srs_check.proofs.checks.check.Goals as goal

pub node-requires : goal.node-requires
node-requires c =
    let there = same_get c.events.result.now c.args.c.now.events c.loop-i.i c.get-event.result.now c.events.ensures.events c.get-event.ensures in
    let depth : length c.get-event.result.now.path ≡ c.len-depth.result = ap (λ (x : Entry). length x.path) (sym c.event.view_is) ∙ sym c.len-depth.ensures.len in
    let outcome : c.get-event.result.now.outcome ≡ c.as_ref.result.now = ap (λ (x : Entry). x.outcome) (sym c.event.view_is) ∙ sym c.as_ref.ensures in (
      c.args.c.now,
      c.loop-i.i,
      comes_to c.args.c.now c.loop-i.i c.limits-limits.result c.line.result c.len-depth.result c.as_ref.result.now c.loop-i.walk c.node_count-i-end.ensures.certificate (sym c.limits-limits.ensures)
          c.line.ensures c.get-event.result.now there depth outcome c.loop-i.invariant,
    )

pub loop-i-preserved : goal.loop-i-preserved
loop-i-preserved c =
    let there = same_get c.events.result.now c.args.c.now.events c.loop-i.i c.get-event.result.now c.events.ensures.events c.get-event.ensures in
    let depth : length c.get-event.result.now.path ≡ c.len-depth.result = ap (λ (x : Entry). length x.path) (sym c.event.view_is) ∙ sym c.len-depth.ensures.len in
    let outcome : c.get-event.result.now.outcome ≡ c.as_ref.result.now = ap (λ (x : Entry). x.outcome) (sym c.event.view_is) ∙ sym c.as_ref.ensures in
    c.in_ok-node.ensures c.args.c.now c.loop-i.i (comes_to c.args.c.now c.loop-i.i c.limits-limits.result c.line.result c.len-depth.result c.as_ref.result.now c.loop-i.walk c.node_count-i-end.ensures.certificate (sym c.limits-limits.ensures)
    c.line.ensures c.get-event.result.now there depth outcome c.loop-i.invariant)

pub returns-clause-whole : goal.returns-clause-whole
returns-clause-whole c w =
    let last : c.loop-i.i ≡ length c.args.c.now.events = omega arith in
    let come = subst (λ (n : ℕ). HasCome c.args.c.now n c.loop-i.walk) last c.loop-i.invariant in
    whole_valid c.args.c.now c.end.result c.node_count-i-end.ensures.budget w (c.end.ensures.checked c.args.c.now c.node_count-i-end.ensures.certificate (sym c.limits-limits.ensures) come).0
