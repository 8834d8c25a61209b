-- The last slot is the first of the list reversed.
use Rattle.std.proofs.Common.{◌∙◌, ap}
use Rattle.srs_front.specs.Walks.{some_slot, list_of}
use Rattle.srs_front.proofs.HeldLemmas.{few_items, last_seen}
use Rattle.srs_front.proofs.front.Front.last.Goals as goal

pub returns-clause-slot : goal.returns-clause-slot
returns-clause-slot g c =
    let f = c.self.inside in
    rw (← c.self.view_is) (last_seen f.links f.items.items f.free.items f.free.cap (few_items f.items) (list_of f.links f.items.items) c.some_slot.result c.self.invariant (c.some_slot.ensures ∙ ap some_slot c.ahead.ensures)).slot

pub returns-clause-held : goal.returns-clause-held
returns-clause-held g c =
    let f = c.self.inside in
    rw (← c.self.view_is) (last_seen f.links f.items.items f.free.items f.free.cap (few_items f.items) (list_of f.links f.items.items) c.some_slot.result c.self.invariant (c.some_slot.ensures ∙ ap some_slot c.ahead.ensures)).held
