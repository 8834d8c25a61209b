-- A slot that was free, or one more.
use Rattle.std.proofs.Common.{◌≡◌, ◌∙◌, ap, List, [], ◌∷◌, ◌++◌, None, arith}
use Rattle.std.proofs.lemmas.List.{nil_from_length}
use Rattle.srs_front.proofs.ChangeLemmas.{free_one}
use Rattle.srs_front.proofs.HeldLemmas.{few_items}
use Rattle.srs_front.proofs.front.free_slot.Goals as goal

pub returns-clause-ok : goal.returns-clause-ok
returns-clause-ok g c =
    let items = c.args.items.now in
    let free = c.args.free.now in
    let none : free.items ≡ [] = nil_from_length free.items (omega (arith, c.in_default.ensures.cases.0, free.ok.0)) in
    let left : c.pop.new.self.items ≡ [] = nil_from_length c.pop.new.self.items (omega (arith, c.in_default.ensures.cases.1, c.pop.new.self.ok.0)) in
    λ list of. free_one c.args.links.now items.items (few_items items) c.grow.new.self c.push_reserved.new.self.items free.items c.reserve-2.new.self.items c.in_ok-slot.slot
    free.cap c.reserve-2.new.self.cap list of none c.in_ok-slot.ensures.grown (c.push_reserved.ensures.items ∙ ap (λ (xs : List _). xs ++ None ∷ []) c.reserve.ensures.items)
    (c.reserve-2.ensures.items ∙ left) c.in_ok-slot.ensures.place
    (omega (arith, c.in_ok-reserve-2.ensures.ok, c.len.ensures, c.reserve.ensures.len, items.ok.0))
