-- The slot ahead is behind it in the list reversed.
use Rattle.std.proofs.Common.{◌∙◌, ap}
use Rattle.srs_front.specs.Walks.{some_slot, list_of}
use Rattle.srs_front.proofs.HeldLemmas.{few_items, held_end, prev_seen}
use Rattle.srs_front.proofs.front.Front.prev.Goals as goal

pub ahead-requires : goal.ahead-requires
ahead-requires g c =
    let f = c.self.inside in
    (held_end f.links f.items.items f.free.items f.free.cap (few_items f.items) (list_of f.links f.items.items) c.self.invariant c.args.slot
    (rw c.self.view_is c.requires)).back

pub returns-clause-slot : goal.returns-clause-slot
returns-clause-slot g c =
    let f = c.self.inside in
    rw (← c.self.view_is) (prev_seen f.links f.items.items f.free.items f.free.cap (few_items f.items) (list_of f.links f.items.items) c.self.invariant c.args.slot (rw c.self.view_is c.requires) c.some_slot.result (c.some_slot.ensures ∙ ap some_slot c.ahead.ensures)).slot

pub returns-clause-held : goal.returns-clause-held
returns-clause-held g c =
    let f = c.self.inside in
    rw (← c.self.view_is) (prev_seen f.links f.items.items f.free.items f.free.cap (few_items f.items) (list_of f.links f.items.items) c.self.invariant c.args.slot (rw c.self.view_is c.requires) c.some_slot.result (c.some_slot.ensures ∙ ap some_slot c.ahead.ensures)).held
