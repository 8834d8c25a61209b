use Rattle.std.proofs.Common.{refl}
use Rattle.srs_tree.specs.declared.queries.Query.TheVariants.{Polygon as AsksPolygon}
use Rattle.srs_tree.specs.declared.queries.Said.TheVariants.{Polygon}
use Rattle.srs_tool.proofs.Replying.{adds_said, met_by_events}
use Rattle.srs_tool.proofs.ask.put_polygon.Goals as goal

pub returns : goal.returns
returns c cert built =
    adds_said cert (AsksPolygon c.args.q.now) (Polygon c.in_ok-met.met) c.args.text.now c.put.new.text c.put.result
    (c.in_ok-met.met, refl, met_by_events cert c.args.version.now built c.args.q.now c.in_ok-met.met c.in_ok-met.ensures) c.put.ensures
