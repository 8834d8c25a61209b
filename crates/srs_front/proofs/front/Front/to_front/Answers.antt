-- The slot comes out of its row, and to its head.
use Rattle.std.proofs.Common.{◌∙◌, sym}
use Rattle.srs_front.specs.Walks.{list_of}
use Rattle.srs_front.proofs.HeldLemmas.{few_items, can_leave, held_out, held_first_out, held_found, moved_as, same_head}
use Rattle.srs_front.proofs.front.Front.to_front.Goals as goal

pub splice_out-requires-clause-slot : goal.splice_out-requires-clause-slot
splice_out-requires-clause-slot g c =
    let f = c.self.inside in
    (can_leave f.links f.items.items f.free.items f.free.cap (few_items f.items) (list_of f.links f.items.items) c.self.invariant c.args.slot (rw c.self.view_is c.requires)).own

pub splice_out-requires-clause-a : goal.splice_out-requires-clause-a
splice_out-requires-clause-a g c =
    let f = c.self.inside in
    (can_leave f.links f.items.items f.free.items f.free.cap (few_items f.items) (list_of f.links f.items.items) c.self.invariant c.args.slot (rw c.self.view_is c.requires)).ahead_of

pub splice_out-requires-clause-b : goal.splice_out-requires-clause-b
splice_out-requires-clause-b g c =
    let f = c.self.inside in
    (can_leave f.links f.items.items f.free.items f.free.cap (few_items f.items) (list_of f.links f.items.items) c.self.invariant c.args.slot (rw c.self.view_is c.requires)).behind_of

pub splice_in-requires-clause-slot : goal.splice_in-requires-clause-slot
splice_in-requires-clause-slot g c =
    let f = c.self.inside in
    rw c.splice_out.ensures.out
    (held_out f.links f.items.items f.free.items f.free.cap (few_items f.items) (list_of f.links f.items.items) c.self.invariant c.args.slot (rw c.self.view_is c.requires))

pub splice_in-requires-clause-b : goal.splice_in-requires-clause-b
splice_in-requires-clause-b g c =
    let f = c.self.inside in
    rw c.behind-first.ensures (rw c.splice_out.ensures.out
    (held_first_out f.links f.items.items f.free.items f.free.cap (few_items f.items) (list_of f.links f.items.items) c.self.invariant c.args.slot (rw c.self.view_is c.requires)))

pub invariant_of-self : goal.invariant_of-self
invariant_of-self g c =
    let f = c.self.inside in
    (moved_as f.links f.items.items f.free.items f.free.cap (few_items f.items) (list_of f.links f.items.items) c.args.slot c.self.invariant (rw c.self.view_is c.requires)
    c.splice_out.new.self c.splice_in.new.self c.behind-first.result c.splice_in.ensures.within c.behind-first.ensures c.splice_out.ensures.out).0

pub returns-clause-moved : goal.returns-clause-moved
returns-clause-moved g c =
    let f = c.self.inside in
    rw (← c.self.view_is)
    (λ item found. (moved_as f.links f.items.items f.free.items f.free.cap (few_items f.items) (list_of f.links f.items.items) c.args.slot c.self.invariant (rw c.self.view_is c.requires)
    c.splice_out.new.self c.splice_in.new.self c.behind-first.result c.splice_in.ensures.within c.behind-first.ensures c.splice_out.ensures.out).1
    ∙ same_head c.args.slot _ item _ (sym (held_found f.links f.items.items f.free.items f.free.cap (few_items f.items) (list_of f.links f.items.items) c.self.invariant c.args.slot (rw c.self.view_is c.requires)) ∙ found))
