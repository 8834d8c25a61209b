-- The slot comes behind the last.
use Rattle.std.proofs.Common.{arith}
use Rattle.srs_front.specs.Walks.{list_of}
use Rattle.srs_front.proofs.ChangeLemmas.{free_lt, free_end, free_last, free_other}
use Rattle.srs_front.proofs.HeldLemmas.{few_items, pushed_as}
use Rattle.srs_front.proofs.front.Front.push_back.Goals as goal

pub index_mut-requires : goal.index_mut-requires
index_mut-requires g c =
    let f = c.self.inside in
    let m = c.free_slot.new in
    let list = list_of f.links f.items.items in
    omega (arith, free_lt m.links m.items.items m.free.items m.free.cap (few_items m.items) list c.in-Ok.slot c.args.item (c.in-Ok.ensures.ok list c.self.invariant), m.items.ok.0)

pub splice_in-requires-clause-slot : goal.splice_in-requires-clause-slot
splice_in-requires-clause-slot g c =
    let f = c.self.inside in
    let m = c.free_slot.new in
    let list = list_of f.links f.items.items in
    free_end m.links m.items.items m.free.items m.free.cap (few_items m.items) list c.in-Ok.slot c.args.item (c.in-Ok.ensures.ok list c.self.invariant)

pub splice_in-requires-clause-a : goal.splice_in-requires-clause-a
splice_in-requires-clause-a g c =
    let f = c.self.inside in
    let m = c.free_slot.new in
    let list = list_of f.links f.items.items in
    rw c.ahead-last.ensures (free_last m.links m.items.items m.free.items m.free.cap (few_items m.items) list c.in-Ok.slot c.args.item (c.in-Ok.ensures.ok list c.self.invariant))

pub invariant_of-self-2 : goal.invariant_of-self-2
invariant_of-self-2 g c =
    let f = c.self.inside in
    let m = c.free_slot.new in
    let list = list_of f.links f.items.items in
    (pushed_as m.links m.items.items m.free.items m.free.cap (few_items m.items) list c.in-Ok.slot c.args.item (c.in-Ok.ensures.ok list c.self.invariant)
    c.splice_in.new.self c.ahead-last.result c.splice_in.ensures.within c.ahead-last.ensures).0

pub returns-clause-last : goal.returns-clause-last
returns-clause-last g c =
    let f = c.self.inside in
    let m = c.free_slot.new in
    let list = list_of f.links f.items.items in
    rw (← c.self.view_is) (pushed_as m.links m.items.items m.free.items m.free.cap (few_items m.items) list c.in-Ok.slot c.args.item (c.in-Ok.ensures.ok list c.self.invariant)
    c.splice_in.new.self c.ahead-last.result c.splice_in.ensures.within c.ahead-last.ensures).1

pub returns-clause-other : goal.returns-clause-other
returns-clause-other g c =
    let f = c.self.inside in
    let m = c.free_slot.new in
    let list = list_of f.links f.items.items in
    rw (← c.self.view_is) (free_other m.links m.items.items m.free.items m.free.cap (few_items m.items) list c.in-Ok.slot c.args.item (c.in-Ok.ensures.ok list c.self.invariant))
