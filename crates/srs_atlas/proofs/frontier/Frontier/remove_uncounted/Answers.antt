-- The cell goes, with its entry.
use Rattle.std.proofs.Common.{◌∙◌, sym, ap}
use Rattle.std.specs.HashMap.{IsUnchanged}
use Rattle.srs_tree.specs.Queue.{without}
use Rattle.srs_atlas.proofs.FrontierLemmas.{found_slot}
use Rattle.srs_atlas.proofs.FrontierSteps.{gone, nothing, on_none}
use Rattle.srs_atlas.proofs.frontier.Frontier.remove_uncounted.Goals as goal

pub unlink-requires : goal.unlink-requires
unlink-requires g c =
    let f = c.self.inside in
    found_slot f.cells c.number.result c.in-Some.slot (sym (c.self.invariant.exactly c.number.result) ∙ sym c.in-Some.ensures.value)

pub invariant_of-self : goal.invariant_of-self
invariant_of-self g c =
    let f = c.self.inside in
    (gone f.slots c.remove.new.self f.cells c.self.invariant c.unlink.new.self c.in-Some.slot c.number.result c.args.path.now c.unlink.ensures.differ c.number.ensures
    (sym c.in-Some.ensures.value) c.remove.ensures.updates c.unlink.ensures.others).0

pub returns-in-Some : goal.returns-in-Some
returns-in-Some g c =
    let f = c.self.inside in
    (gone f.slots c.remove.new.self f.cells c.self.invariant c.unlink.new.self c.in-Some.slot c.number.result c.args.path.now c.unlink.ensures.differ c.number.ensures
    (sym c.in-Some.ensures.value) c.remove.ensures.updates c.unlink.ensures.others).1 ∙ ap (without c.args.path.now) c.self.view_is

pub returns : goal.returns
returns g c =
    let f = c.self.inside in
    (nothing f.slots c.remove.new.self f.cells c.self.invariant c.number.result c.args.path.now c.number.ensures (sym c.remove.ensures.value ∙ c.in_default.is)
    (on_none c.remove.result (IsUnchanged f.slots c.remove.new.self) c.remove.ensures.unchanged c.in_default.is)).1 ∙ ap (without c.args.path.now) c.self.view_is
