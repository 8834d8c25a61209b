use Rattle.std.proofs.Common.{◌≡◌, ◌+◌, ◌∷◌, ◌++◌, ℕ, List, length, slice_get, Some, refl, sym, ap, subst, ◌∙◌, arith, lit<}
use Rattle.std.specs.FinMap as finite
use Rattle.std.specs.declared.option.Option.{Option}
use Rattle.srs_plane.specs.Regions.{Area}
use Rattle.srs_plane.specs.Polygons.{region_of}
use Rattle.srs_plane.proofs.Ring_of_vertices.{few_halves}
use Rattle.srs_tree.specs.Growth.{IsProvedOf}
use Rattle.srs_tree.specs.Queue.{WaitingCell, cells_from}
use Rattle.srs_tree.specs.Snapshots.{Snapshot}
use Rattle.srs_check.specs.Builds.{IsBuilt}
use Rattle.srs_check.specs.Proving.{Proves}
use Rattle.srs_check.specs.Faults.{Fails}
use Rattle.srs_path.specs.declared.outcomes.Outcome.{Outcome}
use Rattle.srs_path.specs.Views.{Budget}
use Rattle.srs_check.proofs.Answering.{same_get, seen_node}
use Rattle.srs_check.proofs.Excluded.{first_fault}
use Rattle.srs_check.specs.Walks.{Awaits}
use Rattle.srs_check.proofs.WalkStates.{some_cell, walk_fault, walk_proves, walk_certifies}
use Rattle.srs_check.proofs.Building.{GrownTo, regions_of, grown_first, grown_next, grown_last, cell_is_open, few_behind, same_region, cut_is_short}
use Rattle.srs_check.proofs.builds.build.Goals as goal
use Rattle.srs_check.proofs.builds.build.Goals.{in-Some-2, in_default-2}

pub start-requires : goal.start-requires
start-requires c =
    let few = few_halves c.args.c.now.vertices (region_of c.args.c.now.vertices) c.node_count-nodes.ensures.certificate.polygon.counted refl in
    omega (arith, few, ap length c.in_ok-root_of.ensures)

pub loop-i-init : goal.loop-i-init
loop-i-init c =
    let v = c.in_ok-tree.ensures ∙ ap (λ (R : Area). let w : Snapshot = record { region = R; entries = finite.empty } in w) c.in_ok-root_of.ensures in
    let region = ap (λ (w : WaitingCell). w.region) c.in_ok-root.ensures ∙ ap (λ (w : Snapshot). w.region) v in
    subst (λ (xs : List WaitingCell). GrownTo c.args.c.now 0 xs c.in_ok-tree.tree) (sym c.of-waiting.ensures) (grown_first c.args.c.now c.in_ok-root.field-0 c.in_ok-tree.tree c.node_count-nodes.ensures.certificate region v)

pub unreachable-requires : goal.unreachable-requires
unreachable-requires c =
    some_cell c.args.c.now c.loop-i.i (omega arith) (subst (λ (xs : List WaitingCell). Awaits c.args.c.now c.loop-i.i (regions_of xs)) c.in_default.ensures c.loop-i.invariant.walk.awaits)

pub returns-in-Err : goal.returns-in-Err
returns-in-Err c =
    let s : GrownTo c.args.c.now c.loop-i.i (c.in-Some.next ∷ c.take.new.self) c.loop-i.tree = subst (λ (xs : List WaitingCell). GrownTo c.args.c.now c.loop-i.i xs c.loop-i.tree) c.in-Some.ensures c.loop-i.invariant in
    let at : slice_get c.args.c.now.events c.loop-i.i ≡ Some c.get-event.result.now = same_get c.events.result.now c.args.c.now.events c.loop-i.i c.get-event.result.now c.events.ensures.events c.get-event.ensures in
    let wrong = seen_node (λ (R : Area) (L : Budget) (k : ℕ) (o : Outcome). Fails R L c.args.c.now.events k o c.in-Err.fault) c.deref.result.now c.in-Some.next.region c.limits-limits.result c.args.c.now.limits
    c.len-depth.result c.as_ref.result.now _ c.get-event.result.now (c.deref.ensures ∙ ap (λ (w : WaitingCell). w.region) c.next.view_is) c.limits-limits.ensures c.event.view_is c.len-depth.ensures.len c.as_ref.ensures
    (c.in-Err.ensures.err c.args.c.now.events c.tally_of-tally.ensures.rows) in
    first_fault c.args.c.now c.line.result c.loop-i.i c.in-Err.fault c.line.ensures
    (walk_fault c.args.c.now c.loop-i.i c.in-Some.next.region (regions_of c.take.new.self) s.walk c.get-event.result.now at c.in-Err.fault wrong)

pub enter-requires-clause-is_open : goal.enter-requires-clause-is_open
enter-requires-clause-is_open c =
    let s : GrownTo c.args.c.now c.loop-i.i (c.in-Some.next ∷ c.take.new.self) c.loop-i.tree = subst (λ (xs : List WaitingCell). GrownTo c.args.c.now c.loop-i.i xs c.loop-i.tree) c.in-Some.ensures c.loop-i.invariant in
    let at : slice_get c.args.c.now.events c.loop-i.i ≡ Some c.get-event.result.now = same_get c.events.result.now c.args.c.now.events c.loop-i.i c.get-event.result.now c.events.ensures.events c.get-event.ensures in
    cell_is_open c.args.c.now c.node_count-nodes.ensures.certificate c.loop-i.i c.in-Some.next c.take.new.self c.loop-i.tree s c.get-event.result.now at

pub enter-requires-clause-same : goal.enter-requires-clause-same
enter-requires-clause-same c =
    let s : GrownTo c.args.c.now c.loop-i.i (c.in-Some.next ∷ c.take.new.self) c.loop-i.tree = subst (λ (xs : List WaitingCell). GrownTo c.args.c.now c.loop-i.i xs c.loop-i.tree) c.in-Some.ensures c.loop-i.invariant in
    let at : slice_get c.args.c.now.events c.loop-i.i ≡ Some c.get-event.result.now = same_get c.events.result.now c.args.c.now.events c.loop-i.i c.get-event.result.now c.events.ensures.events c.get-event.ensures in
    let region : c.deref-in-loop-i.result.now ≡ c.in-Some.next.region = c.deref-in-loop-i.ensures ∙ ap (λ (w : WaitingCell). w.region) c.next.view_is in
    region ∙ same_region c.args.c.now c.node_count-nodes.ensures.certificate c.loop-i.i c.in-Some.next c.take.new.self c.loop-i.tree s c.get-event.result.now at

pub enter-requires-clause-short : goal.enter-requires-clause-short
enter-requires-clause-short c =
    let at : slice_get c.args.c.now.events c.loop-i.i ≡ Some c.get-event.result.now = same_get c.events.result.now c.args.c.now.events c.loop-i.i c.get-event.result.now c.events.ensures.events c.get-event.ensures in
    cut_is_short c.args.c.now c.loop-i.i c.get-event.result.now c.node_count-nodes.ensures.certificate at

pub divide-requires : goal.divide-requires
divide-requires c =
    let s : GrownTo c.args.c.now c.loop-i.i (c.in-Some.next ∷ c.take.new.self) c.loop-i.tree = subst (λ (xs : List WaitingCell). GrownTo c.args.c.now c.loop-i.i xs c.loop-i.tree) c.in-Some.ensures c.loop-i.invariant in
    let at : slice_get c.args.c.now.events c.loop-i.i ≡ Some c.get-event.result.now = same_get c.events.result.now c.args.c.now.events c.loop-i.i c.get-event.result.now c.events.ensures.events c.get-event.ensures in
    let parts = ap (λ (o : Option (WaitingCell × WaitingCell)). cells_from o) (sym c.in-Some-2.is) ∙ c.in_ok-ge.ensures.parts in
    (lit< tt, few_behind c.args.c.now c.node_count-nodes.ensures.certificate c.loop-i.i c.in-Some.next c.take.new.self c.loop-i.tree s c.get-event.result.now at c.in-Some-2.ge c.in-Some-2.lt c.enter.new.tree parts)

pub loop-i-preserved : goal.loop-i-preserved
loop-i-preserved c =
    let s : GrownTo c.args.c.now c.loop-i.i (c.in-Some.next ∷ c.take.new.self) c.loop-i.tree = subst (λ (xs : List WaitingCell). GrownTo c.args.c.now c.loop-i.i xs c.loop-i.tree) c.in-Some.ensures c.loop-i.invariant in
    let at : slice_get c.args.c.now.events c.loop-i.i ≡ Some c.get-event.result.now = same_get c.events.result.now c.args.c.now.events c.loop-i.i c.get-event.result.now c.events.ensures.events c.get-event.ensures in
    let told = seen_node (λ (R : Area) (L : Budget) (k : ℕ) (o : Outcome). Proves R L c.args.c.now.events k o × IsProvedOf R o) c.deref.result.now c.in-Some.next.region c.limits-limits.result c.args.c.now.limits
    c.len-depth.result c.as_ref.result.now _ c.get-event.result.now (c.deref.ensures ∙ ap (λ (w : WaitingCell). w.region) c.next.view_is) c.limits-limits.ensures c.event.view_is c.len-depth.ensures.len c.as_ref.ensures
    (c.in_default-check_node.ensures.ok c.args.c.now.events c.tally_of-tally.ensures.rows, c.in_default-check_node.ensures.sound) in
    let grown : GrownTo c.args.c.now (c.loop-i.i + 1) (cells_from c.in_ok-ge.field-0 ++ c.take.new.self) c.enter.new.tree
    = grown_next c.args.c.now c.node_count-nodes.ensures.certificate c.loop-i.i c.in-Some.next c.take.new.self c.loop-i.tree s c.get-event.result.now at told.0 told.1
    c.enter.new.tree c.in_ok-ge.ensures.entered (cells_from c.in_ok-ge.field-0) c.in_ok-ge.ensures.parts in
    elim c.match-branch-6.branch [
      | in-Some-2 w ↦
          subst (λ (xs : List WaitingCell). GrownTo c.args.c.now (c.loop-i.i + 1) xs c.enter.new.tree)
          (ap (λ (o : Option (WaitingCell × WaitingCell)). cells_from o ++ c.take.new.self) w.in-Some-2.is ∙ sym (w.waiting-is ∙ w.divide.ensures)) grown
      | in_default-2 w ↦
          subst (λ (xs : List WaitingCell). GrownTo c.args.c.now (c.loop-i.i + 1) xs c.enter.new.tree)
          (ap (λ (o : Option (WaitingCell × WaitingCell)). cells_from o ++ c.take.new.self) w.in_default-2.is ∙ sym w.waiting-is) grown
    ]

pub returns : goal.returns
returns c =
    let walk = c.loop-i.invariant.walk in (
      subst (IsBuilt c.args.c.now) (sym c.finish.ensures) (grown_last c.args.c.now c.loop-i.i c.loop-i.waiting c.loop-i.tree c.loop-i.invariant (omega arith)),
      (walk_proves c.args.c.now c.loop-i.i walk.good (omega arith), c.tally_of-tally.ensures.counts),
      walk_certifies c.args.c.now c.loop-i.i walk.good (omega arith) c.node_count-nodes.ensures.certificate,
    )
