-- The item stands in its slot.
use Rattle.std.proofs.Common.{◌∙◌, sym, None, arith}
use Rattle.std.proofs.lemmas.List.{get_or_read}
use Rattle.srs_front.specs.Walks.{list_of}
use Rattle.srs_front.proofs.HeldLemmas.{few_items, held_lt, held_item, held_found, held_differ}
use Rattle.srs_front.proofs.front.Front.get.Goals as goal

pub index-requires : goal.index-requires
index-requires g c =
    let f = c.self.inside in
    omega (
      arith,
      held_lt f.links f.items.items f.free.items f.free.cap (few_items f.items) (list_of f.links f.items.items) c.self.invariant c.args.slot
          (rw c.self.view_is c.requires),
      f.items.ok.0,
    )

pub unreachable-requires : goal.unreachable-requires
unreachable-requires g c =
    let f = c.self.inside in
    let list = list_of f.links f.items.items in
    let lt = held_lt f.links f.items.items f.free.items f.free.cap (few_items f.items) list c.self.invariant c.args.slot (rw c.self.view_is c.requires) in
    let read = get_or_read f.items.items c.args.slot c.index.result.now lt c.index.ensures None in
    let is = held_item f.links f.items.items f.free.items f.free.cap (few_items f.items) list c.self.invariant c.args.slot (rw c.self.view_is c.requires) in
    cc (sym c.in-None.is ∙ read ∙ is)

pub returns-clause-item : goal.returns-clause-item
returns-clause-item g c =
    let f = c.self.inside in
    let list = list_of f.links f.items.items in
    let lt = held_lt f.links f.items.items f.free.items f.free.cap (few_items f.items) list c.self.invariant c.args.slot (rw c.self.view_is c.requires) in
    let read = get_or_read f.items.items c.args.slot c.index.result.now lt c.index.ensures None in
    let is = held_item f.links f.items.items f.free.items f.free.cap (few_items f.items) list c.self.invariant c.args.slot (rw c.self.view_is c.requires) in
    rw (← c.self.view_is)
    (held_found f.links f.items.items f.free.items f.free.cap (few_items f.items) list c.self.invariant c.args.slot (rw c.self.view_is c.requires)
    ∙ sym is ∙ sym read ∙ c.in-Some.is)

pub returns-clause-differ : goal.returns-clause-differ
returns-clause-differ g c =
    let f = c.self.inside in
    rw (← c.self.view_is) (held_differ f.links f.items.items f.free.items f.free.cap (few_items f.items) (list_of f.links f.items.items) c.self.invariant c.args.slot
    (rw c.self.view_is c.requires))
