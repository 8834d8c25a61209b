use Rattle.std.proofs.Common.{sym, ◌∙◌}
use Rattle.srs_check.proofs.Stacked.{taken}
use Rattle.srs_check.proofs.waiting.Waiting.take.Goals as goal

pub returns-in_ok-pop-in-None : goal.returns-in_ok-pop-in-None
returns-in_ok-pop-in-None g c =
    taken c.self.inside.next c.take.new.self c.self.inside.later.items c.pop.new.self.items c.args.self.now c.in_ok-pop-in-None.field-0 c.self.view_is
    (sym c.take.ensures.value ∙ c.in-None.is) c.take.ensures.after c.in_ok-pop-in-None.ensures.items c.self.invariant.cells
