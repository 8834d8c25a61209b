use Rattle.srs_map.proofs.Ends.{round_is_plain, round_comes_back, loop_end, loop_late}
use Rattle.srs_map.proofs.orbits.looped.Goals as goal

pub period-length-requires-clause-plain : goal.period-length-requires-clause-plain
period-length-requires-clause-plain c = round_is_plain c.args.r.now c.args.z c.args.n c.args.meeting c.start-first.result c.requires.met c.start-first.ensures

pub period-length-requires-clause-back : goal.period-length-requires-clause-back
period-length-requires-clause-back c = round_comes_back c.args.r.now c.args.z c.args.n c.args.meeting c.start-first.result c.requires.met c.start-first.ensures

pub returns-then-first-length : goal.returns-then-first-length
returns-then-first-length c =
    loop_end c.args.r.now c.args.z c.args.n c.args.meeting c.start-first.result c.requires.met c.start-first.ensures c.period-length.result c.period-length.ensures.least c.period-length.ensures.within c.if-first-length.true

pub returns-else-first-length : goal.returns-else-first-length
returns-else-first-length c =
    loop_late c.args.r.now c.args.z c.args.n c.args.meeting c.start-first.result c.requires.met c.start-first.ensures c.period-length.result c.period-length.ensures.least c.period-length.ensures.within c.if-first-length.false
