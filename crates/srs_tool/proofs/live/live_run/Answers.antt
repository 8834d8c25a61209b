use Rattle.std.proofs.Common.{subst}
use Rattle.srs_plane.specs.Regions.{Area, HasPoint}
use Rattle.srs_plane.proofs.Ring_of_vertices.{few_halves}
use Rattle.srs_crew.specs.Runs.{IsRun}
use Rattle.srs_tool.proofs.live.live_run.Goals as goal

pub run_levels-requires-clause-few : goal.run_levels-requires-clause-few
run_levels-requires-clause-few g c κs within = few_halves c.args.vertices.now c.args.cell c.requires.polygon.counted c.requires.region

pub text_of-requires-clause-point : goal.text_of-requires-clause-point
text_of-requires-clause-point g c = subst HasPoint c.requires.region c.region.ensures.has_point

pub text_of-requires-clause-run : goal.text_of-requires-clause-run
text_of-requires-clause-run g c = (c.args.script.now, subst (λ (R : Area). IsRun R c.args.limits.now c.args.script.now c.in_ok-run.run') c.requires.region c.in_ok-run.ensures)
