use Rattle.std.proofs.Common.{◌+◌}
use Rattle.srs_crew.proofs.workers.+crew+fn-crew-join+arg2.Given as goal

abbrev pub decreases-crew : goal.decreases-crew
decreases-crew g l = l.workers + l.workers + 1

abbrev pub decreases-join+arg2 : goal.decreases-join+arg2
decreases-join+arg2 g l = l.workers + l.workers
