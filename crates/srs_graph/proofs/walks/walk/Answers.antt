use Rattle.std.proofs.Common.{List, Some, None, ℕ, ◌++◌, ◌∷◌, [], subst, sym, arith, ◌<◌, length, ◌≡◌}
use Rattle.std.specs.Prelude.{slice_set}
use Rattle.srs_graph.specs.Marks.{mark_at}
use Rattle.srs_graph.specs.Walks.{Walk}
use Rattle.srs_graph.proofs.Picking.{mark_read}
use Rattle.srs_graph.proofs.Walking.{walk_none, walk_more}
use Rattle.srs_graph.proofs.walks.walk.Goals as goal

pub loop-from-init : goal.loop-from-init
loop-from-init c =
    subst (λ (p : List ℕ). Walk c.args.rows.now c.args.marks.now p c.args.first c.in_ok-met.met.items) (sym c.new-path.ensures.items)
    (walk_none c.args.rows.now c.args.marks.now c.in_ok-met.met.items c.args.first c.requires.first c.in_ok-met.ensures)

pub loop-from-preserved : goal.loop-from-preserved
loop-from-preserved c =
    let i : c.next_open-at.result < length c.args.marks.now = omega (arith, c.next_open-at.ensures.below, c.requires.rows.within c.loop-from.at c.loop-from.invariant.inside) in
    let e : mark_at c.loop-from.met.items c.loop-from.at ≡ None =
    mark_read c.loop-from.met.items c.loop-from.at c.index.result.now None (omega (arith, c.loop-from.invariant.inside, c.loop-from.invariant.len)) c.index.ensures c.in_default.is in
    let l : length c.loop-from.path.items ≡ c.len.result = omega (arith, c.loop-from.path.ok) in
    subst (λ (p : List ℕ). Walk c.args.rows.now c.args.marks.now p c.next_open-at.result (slice_set c.loop-from.met.items c.loop-from.at (Some c.len.result))) (sym c.in_ok-push.ensures.items)
    (subst (λ (n : ℕ). Walk c.args.rows.now c.args.marks.now (c.loop-from.path.items ++ c.loop-from.at ∷ []) c.next_open-at.result (slice_set c.loop-from.met.items c.loop-from.at (Some n))) l
    (walk_more c.args.rows.now c.args.marks.now c.loop-from.path.items c.loop-from.at c.loop-from.met.items c.next_open-at.result c.loop-from.invariant e c.next_open-at.ensures i))
