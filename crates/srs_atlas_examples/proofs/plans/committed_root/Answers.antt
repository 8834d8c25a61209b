-- The root is refined by the plan, and comes first.
use Rattle.std.proofs.Common.{rules}
use Rattle.srs_atlas_examples.proofs.Roots.{root_ready}
use Rattle.srs_atlas_examples.proofs.plans.committed_root.Goals as goal

pub commit-requires-clause-planned : goal.commit-requires-clause-planned
commit-requires-clause-planned g c =
    root_ready c.args.atlas.now.fixed c.args.limits.now c.args.root.now c.w.result c.in-Ok.finding.outcome c.args.pass.now.seen c.root.result
    c.w.ensures.terms c.requires.plan c.requires.root c.w.ensures.w c.root.ensures (rw c.last.ensures at c.in-Ok.ensures.outcome)
