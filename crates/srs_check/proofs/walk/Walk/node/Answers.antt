use Rattle.std.proofs.Common.{◌≡◌, ◌+◌, Some, sym, subst, refl, lit<}
use Rattle.srs_check.specs.declared.walk.Walk.{Walk}
use Rattle.srs_check.specs.declared.nodes.Tested.{Tested}
use Rattle.srs_check.specs.Tested.{IsTested}
use Rattle.srs_check.specs.Walks.{HasCome}
use Rattle.srs_check.proofs.Walking.{room, shallow, no_failure, no_cell, few_sides, few_behind, after_leaf, after_cut, after_unsettled, after_fault}
use Rattle.srs_check.proofs.walk.Walk.node.Goals as goal
use Rattle.srs_check.proofs.walk.Walk.node.Goals.{in-Leaf, in-Divided, in-Unsettled, in-Wrong}

pub add-requires : goal.add-requires
add-requires c =
    let r = c.requires in
    let m = r.2 in
    record { few = room r.0 r.1 c.args.depth m.node.entry c.args.self.now.tally m.certificate m.node.there (shallow r.0 r.1 c.args.limits.now c.args.line c.args.depth c.args.outcome.now c.args.self.now m) m.come.tallied }

pub unreachable-requires : goal.unreachable-requires
unreachable-requires c =
    let r = c.requires in
    no_cell r.0 r.1 c.args.limits.now c.args.line c.args.depth c.args.outcome.now c.args.self.now r.2 (no_failure c.args.self.now.failed c.if-is_some.ensures) c.in_default.ensures

pub test_node-requires : goal.test_node-requires
test_node-requires c =
    let r = c.requires in
    record { few = few_sides r.0 r.1 c.args.limits.now c.args.line c.args.depth c.args.outcome.now c.args.self.now r.2 (no_failure c.args.self.now.failed c.if-is_some.ensures) c.in-Some.cell c.take.new.self c.in-Some.ensures }

pub divide-requires : goal.divide-requires
divide-requires c =
    let r = c.requires in
    let divided = subst (IsTested c.in-Some.cell c.args.limits.now c.args.depth c.args.outcome.now) c.in-Divided.is c.in_ok-test_node.ensures in (
      lit< tt,
      few_behind r.0 r.1 c.args.limits.now c.args.line c.args.depth c.args.outcome.now c.args.self.now r.2 (no_failure c.args.self.now.failed c.if-is_some.ensures) c.in-Some.cell c.take.new.self c.in-Some.ensures
          c.in-Divided.ge c.in-Divided.lt divided,
    )

pub note-requires : goal.note-requires
note-requires c = let r = c.requires in shallow r.0 r.1 c.args.limits.now c.args.line c.args.depth c.args.outcome.now c.args.self.now r.2

pub returns : goal.returns
returns c = λ d i m.
    let tallied = c.add.ensures d.events i m.node m.come.tallied in
    let none = no_failure c.args.self.now.failed c.if-is_some.ensures in
    let told = λ (t : Tested) (q : c.in_ok-test_node.field-0 ≡ t). subst (IsTested c.in-Some.cell c.args.limits.now c.args.depth c.args.outcome.now) q c.in_ok-test_node.ensures in
    elim c.match-branch-2.branch [
      | in-Leaf w ↦
          let u : Walk = record { waiting = c.take.new.self; tally = c.add.new.self; left = c.args.self.now.left; failed = c.args.self.now.failed } in
          subst (HasCome d (i + 1)) (sym w.self-is)
          (after_leaf d i c.args.limits.now c.args.line c.args.depth c.args.outcome.now c.args.self.now u m tallied c.in-Some.cell c.take.new.self c.in-Some.ensures none (told _ w.in-Leaf.is) refl refl none)
      | in-Divided w ↦
          let u : Walk = record { waiting = w.divide.new.self; tally = c.add.new.self; left = c.args.self.now.left; failed = c.args.self.now.failed } in
          subst (HasCome d (i + 1)) (sym w.self-is)
          (after_cut d i c.args.limits.now c.args.line c.args.depth c.args.outcome.now c.args.self.now u m tallied c.in-Some.cell c.take.new.self c.in-Some.ensures none w.in-Divided.ge w.in-Divided.lt (told _ w.in-Divided.is) w.divide.ensures refl none)
      | in-Unsettled w ↦
          let u : Walk = record { waiting = c.take.new.self; tally = c.add.new.self; left = w.note.new.left; failed = c.args.self.now.failed } in
          subst (HasCome d (i + 1)) (sym w.self-is)
          (after_unsettled d i c.args.limits.now c.args.line c.args.depth c.args.outcome.now c.args.self.now u m tallied c.in-Some.cell c.take.new.self c.in-Some.ensures none (told _ w.in-Unsettled.is) refl w.note.ensures none)
      | in-Wrong w ↦
          let u : Walk = record { waiting = c.take.new.self; tally = c.add.new.self; left = c.args.self.now.left; failed = Some (c.args.line, w.in-Wrong.fault) } in
          subst (HasCome d (i + 1)) (sym w.self-is)
          (after_fault d i c.args.limits.now c.args.line c.args.depth c.args.outcome.now c.args.self.now u m tallied c.in-Some.cell c.take.new.self c.in-Some.ensures none w.in-Wrong.fault (told _ w.in-Wrong.is) refl refl)
    ]
