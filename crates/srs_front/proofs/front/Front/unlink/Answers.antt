-- The slot comes out of its row, and is free.
use Rattle.std.proofs.Common.{◌∙◌, refl, sym, subst, None, arith}
use Rattle.std.specs.Prelude.{IsSome}
use Rattle.std.proofs.lemmas.List.{get_or_read}
use Rattle.srs_front.specs.Walks.{list_of}
use Rattle.srs_front.proofs.HeldLemmas.{few_items, held_lt, can_leave, held_item, held_found, held_differ, unlinked_as}
use Rattle.srs_front.proofs.front.Front.unlink.Goals as goal

pub splice_out-requires-clause-slot : goal.splice_out-requires-clause-slot
splice_out-requires-clause-slot g c =
    let f = c.self.inside in
    (can_leave f.links f.items.items f.free.items f.free.cap (few_items f.items) (list_of f.links f.items.items) c.self.invariant c.args.slot (rw c.self.view_is c.requires)).own

pub splice_out-requires-clause-a : goal.splice_out-requires-clause-a
splice_out-requires-clause-a g c =
    let f = c.self.inside in
    (can_leave f.links f.items.items f.free.items f.free.cap (few_items f.items) (list_of f.links f.items.items) c.self.invariant c.args.slot (rw c.self.view_is c.requires)).ahead_of

pub splice_out-requires-clause-b : goal.splice_out-requires-clause-b
splice_out-requires-clause-b g c =
    let f = c.self.inside in
    (can_leave f.links f.items.items f.free.items f.free.cap (few_items f.items) (list_of f.links f.items.items) c.self.invariant c.args.slot (rw c.self.view_is c.requires)).behind_of

pub index_mut-requires : goal.index_mut-requires
index_mut-requires g c =
    let f = c.self.inside in
    omega (arith, held_lt f.links f.items.items f.free.items f.free.cap (few_items f.items) (list_of f.links f.items.items) c.self.invariant c.args.slot (rw c.self.view_is c.requires), f.items.ok.0)

pub unwrap-item-requires : goal.unwrap-item-requires
unwrap-item-requires g c =
    let f = c.self.inside in
    let lt = held_lt f.links f.items.items f.free.items f.free.cap (few_items f.items) (list_of f.links f.items.items) c.self.invariant c.args.slot (rw c.self.view_is c.requires) in
    let is = held_item f.links f.items.items f.free.items f.free.cap (few_items f.items) (list_of f.links f.items.items) c.self.invariant c.args.slot (rw c.self.view_is c.requires) in
    subst IsSome (sym (c.take.ensures.value ∙ get_or_read f.items.items c.args.slot c.index_mut.result.now lt c.index_mut.ensures.value None ∙ is)) refl

pub invariant_of-self : goal.invariant_of-self
invariant_of-self g c =
    let f = c.self.inside in
    (unlinked_as f.links f.items.items f.free.items f.free.cap (few_items f.items) (list_of f.links f.items.items) c.args.slot c.self.invariant (rw c.self.view_is c.requires)
    c.splice_out.new.self c.take.new.self c.push_reserved.new.self.items c.push_reserved.new.self.cap c.splice_out.ensures.out c.take.ensures.after
    c.push_reserved.ensures.items c.push_reserved.ensures.capacity).0

pub returns-clause-item : goal.returns-clause-item
returns-clause-item g c =
    let f = c.self.inside in
    let lt = held_lt f.links f.items.items f.free.items f.free.cap (few_items f.items) (list_of f.links f.items.items) c.self.invariant c.args.slot (rw c.self.view_is c.requires) in
    let is = held_item f.links f.items.items f.free.items f.free.cap (few_items f.items) (list_of f.links f.items.items) c.self.invariant c.args.slot (rw c.self.view_is c.requires) in
    rw (← c.self.view_is)
    (held_found f.links f.items.items f.free.items f.free.cap (few_items f.items) (list_of f.links f.items.items) c.self.invariant c.args.slot (rw c.self.view_is c.requires)
    ∙ sym (c.take.ensures.value ∙ get_or_read f.items.items c.args.slot c.index_mut.result.now lt c.index_mut.ensures.value None ∙ is) ∙ c.unwrap-item.ensures)

pub returns-clause-others : goal.returns-clause-others
returns-clause-others g c =
    let f = c.self.inside in
    rw (← c.self.view_is)
    (unlinked_as f.links f.items.items f.free.items f.free.cap (few_items f.items) (list_of f.links f.items.items) c.args.slot c.self.invariant (rw c.self.view_is c.requires)
    c.splice_out.new.self c.take.new.self c.push_reserved.new.self.items c.push_reserved.new.self.cap c.splice_out.ensures.out c.take.ensures.after
    c.push_reserved.ensures.items c.push_reserved.ensures.capacity).1

pub returns-clause-differ : goal.returns-clause-differ
returns-clause-differ g c =
    let f = c.self.inside in
    rw (← c.self.view_is) (held_differ f.links f.items.items f.free.items f.free.cap (few_items f.items) (list_of f.links f.items.items) c.self.invariant c.args.slot (rw c.self.view_is c.requires))
