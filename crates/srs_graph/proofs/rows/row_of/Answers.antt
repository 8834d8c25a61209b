use Rattle.std.proofs.Common.{subst, sym, ◌∙◌}
use Rattle.std.specs.Prelude.{Contains}
use Rattle.srs_graph.proofs.Placing.{row_is, first_listed, some_number}
use Rattle.srs_graph.proofs.rows.row_of.Goals as goal

pub place-start-requires-clause-here : goal.place-start-requires-clause-here
place-start-requires-clause-here c =
    subst (Contains c.args.pairs.now) (sym c.first_of.ensures)
    (first_listed c.args.cell.now c.args.pairs.now c.args.w c.steps-span.result.low c.steps-span.result.high c.requires.all c.requires.witness c.steps-span.ensures c.region-region.ensures.has_point)

pub count-requires-clause-some : goal.count-requires-clause-some
count-requires-clause-some c = some_number c.args.cell.now c.args.w c.steps-span.result.low c.steps-span.result.high c.steps-span.ensures c.region-region.ensures.has_point

pub returns : goal.returns
returns c =
    row_is c.args.cell.now c.args.pairs.now c.args.w c.steps-span.result.low c.steps-span.result.high c.count.result c.requires.all c.requires.witness c.steps-span.ensures c.count.ensures
    c.place-start.result c.place-start.ensures.within (c.place-start.ensures.is ∙ c.first_of.ensures) c.region-region.ensures.has_point
