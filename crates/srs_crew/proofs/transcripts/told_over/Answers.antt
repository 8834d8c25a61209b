-- One round more.
use Rattle.srs_crew.proofs.Telling.{over_next}
use Rattle.srs_crew.proofs.transcripts.told_over.Goals as goal

pub loop-k-preserved : goal.loop-k-preserved
loop-k-preserved c =
    over_next c.args.place c.loop-k.k c.args.told.now c.get.result.now c.get-in-loop-k.result.now c.loop-k.one c.append.new.told c.loop-k.invariant c.get.ensures c.get-in-loop-k.ensures c.in_ok-append.ensures
