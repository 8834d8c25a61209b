use Rattle.srs_map.proofs.steps.step.Goals as goal
use Rattle.srs_map.proofs.StepBounds.{floor_fits, minus_fits, step_is}

pub overflow_cast-result : goal.overflow_cast-result
overflow_cast-result c =
    floor_fits c.args.r.now c.args.z c.parts-p.ensures.sized c.requires.near c.requires.narrow c.parts-p.result.0 c.parts-p.result.1 c.parts-p.result.2 c.parts-p.ensures.p c.parts-p.ensures.q c.parts-p.ensures.d c.weighed.result c.weighed.ensures c.from.result c.from.ensures c.floor_div-floor.result c.floor_div-floor.ensures.value

pub overflow_sub-result : goal.overflow_sub-result
overflow_sub-result c =
    minus_fits c.args.r.now c.args.z c.parts-p.ensures.sized c.requires.near c.requires.narrow c.parts-p.result.0 c.parts-p.result.1 c.parts-p.result.2 c.parts-p.ensures.p c.parts-p.ensures.q c.parts-p.ensures.d c.weighed.result c.weighed.ensures c.from.result c.from.ensures c.floor_div-floor.result c.floor_div-floor.ensures.value

pub returns : goal.returns
returns c =
    step_is c.args.r.now c.args.z c.parts-p.ensures.sized c.requires.near c.requires.narrow c.parts-p.result.0 c.parts-p.result.1 c.parts-p.result.2 c.parts-p.ensures.p c.parts-p.ensures.q c.parts-p.ensures.d c.weighed.result c.weighed.ensures c.from.result c.from.ensures c.floor_div-floor.result c.floor_div-floor.ensures.value
