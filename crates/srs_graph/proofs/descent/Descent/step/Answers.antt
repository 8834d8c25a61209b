use Rattle.std.proofs.Common.{rules, subst, sym, List, [], Bool}
use Rattle.srs_graph.specs.Descents.{IsDescent}
use Rattle.srs_graph.proofs.Descending.{lowered, read_all, read_to_stuck, read_to_new}
use Rattle.srs_graph.proofs.descent.Descent.step.Goals as goal

pub read_on-visit-requires-clause-read : goal.read_on-visit-requires-clause-read
read_on-visit-requires-clause-read c = (lowered c.args.pairs.now c.args.rows.now c.args.marks.now c.args.self.now.entered.items c.args.self.now.path.items c.args.top c.requires.descent).visit.read

pub returns-then-visit-row-clause-descent : goal.returns-then-visit-row-clause-descent
returns-then-visit-row-clause-descent c =
    read_all c.args.pairs.now c.args.rows.now c.args.marks.now c.args.self.now.entered.items c.args.self.now.path.items c.args.top c.read_on-visit.result c.requires.descent c.read_on-visit.ensures.place c.read_on-visit.ensures.read c.requires.rows c.if-visit-row.true

pub returns-then-index-clause-descent : goal.returns-then-index-clause-descent
returns-then-index-clause-descent c =
    let d : IsDescent c.args.pairs.now c.args.rows.now c.args.marks.now c.args.self.now.entered.items [] =
    read_to_stuck c.args.pairs.now c.args.rows.now c.args.marks.now c.args.self.now.entered.items c.args.self.now.path.items c.args.top c.read_on-visit.result c.requires.descent c.read_on-visit.ensures.place c.read_on-visit.ensures.read
    c.requires.rows c.if-visit-row.false c.read_on-visit.ensures.stops c.index.result.now c.index.ensures c.if-index.true in
    search rules

pub enter-requires-clause-descent : goal.enter-requires-clause-descent
enter-requires-clause-descent c =
    subst (λ (es : List Bool). IsDescent c.args.pairs.now c.args.rows.now c.args.marks.now es c.push.new.self.path.items) (sym c.in_ok-push.ensures.entered)
    (subst (IsDescent c.args.pairs.now c.args.rows.now c.args.marks.now c.args.self.now.entered.items) (sym c.in_ok-push.ensures.path)
    (read_to_new c.args.pairs.now c.args.rows.now c.args.marks.now c.args.self.now.entered.items c.args.self.now.path.items c.args.top c.read_on-visit.result c.requires.descent c.read_on-visit.ensures.place c.read_on-visit.ensures.read))
