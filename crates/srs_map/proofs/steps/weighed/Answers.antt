use Rattle.srs_map.proofs.steps.weighed.Goals as goal
use Rattle.srs_map.proofs.StepBounds.{weighed_fits, weighed_reads}

pub overflow_add-result : goal.overflow_add-result
overflow_add-result c =
    weighed_fits c.args.p c.args.q c.args.z c.ranges.p c.ranges.q c.requires c.from.result c.from-2.result c.from-3.result c.from-4.result c.from.ensures c.from-2.ensures c.from-3.ensures c.from-4.ensures

pub returns : goal.returns
returns c =
    weighed_reads c.args.p c.args.q c.args.z c.ranges.p c.ranges.q c.requires c.from.result c.from-2.result c.from-3.result c.from-4.result c.from.ensures c.from-2.ensures c.from-3.ensures c.from-4.ensures
