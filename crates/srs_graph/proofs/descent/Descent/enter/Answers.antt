use Rattle.std.proofs.Common.{subst, sym, List, Bool, ◌∙◌, true≢false}
use Rattle.srs_graph.specs.Descents.{IsDescent}
use Rattle.srs_graph.proofs.Descending.{enter_zero, enter_more}
use Rattle.srs_graph.proofs.descent.Descent.enter.Goals as goal

pub returns-then-is_origin-clause-descent : goal.returns-then-is_origin-clause-descent
returns-then-is_origin-clause-descent c =
    enter_zero c.args.pairs.now c.args.rows.now c.args.marks.now c.args.self.now.entered.items c.args.self.now.path.items c.args.place c.requires.descent c.requires.here c.requires.fresh (c.is_origin.ensures.0 c.if-is_origin.true)

pub returns-clause-descent : goal.returns-clause-descent
returns-clause-descent c =
    subst (λ (es : List Bool). IsDescent c.args.pairs.now c.args.rows.now c.args.marks.now es c.push.new.self.path.items) (sym c.push.ensures.entered)
    (subst (IsDescent c.args.pairs.now c.args.rows.now c.args.marks.now _) (sym c.in_ok-push.ensures.path)
    (enter_more c.args.pairs.now c.args.rows.now c.args.marks.now c.args.self.now.entered.items c.args.self.now.path.items c.args.place c.requires.descent c.requires.here c.requires.fresh (λ e. true≢false (sym (c.is_origin.ensures.1 e) ∙ c.if-is_origin.false)) c.requires.top))
