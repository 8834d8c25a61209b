-- One more was said.
use Rattle.srs_crew.proofs.Telling.{append_next}
use Rattle.srs_crew.proofs.transcripts.append.Goals as goal

pub loop-i-preserved : goal.loop-i-preserved
loop-i-preserved c =
    append_next c.args.told.now c.loop-i.told c.append_one.new.told c.args.more.now c.loop-i.i c.get.result.now c.loop-i.invariant c.get.ensures c.in_ok-append_one.ensures
