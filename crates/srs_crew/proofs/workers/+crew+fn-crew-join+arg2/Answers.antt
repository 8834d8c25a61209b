-- What a worker's closure holds may cross threads, since what it shares may be shared. The lemma knows of nothing else, so that
-- the search stays short.
use Rattle.std.proofs.Crossing.{crosses}
use contract.Lifetimes.{Lfts}
use denote.Param.Send.{IsSend, IsSync, sendable, param_send}
use Rattle.srs_crew.proofs.Crossing.{held}
use Rattle.srs_crew.proofs.workers.+crew+fn-crew-join+arg2.Given as given
use Rattle.srs_crew.proofs.workers.+crew+fn-crew-join+arg2.Lts-crew as lts
use Rattle.srs_crew.proofs.workers.+crew+fn-crew-join+arg2.Goals as goal

worker_send : (g : given.Over) (κs : Lfts 14) → IsSync g.row.R → IsSync g.row.G → IsSend (lts.arg-3-1 g.row.R g.row.G g.R.laws g.G.laws g.R.Threads-dict g.R.Wait-dict g.G.Gate-dict κs)
worker_send g κs r s = search (sendable, crosses, held) depth 60

pub join-first-requires-send-F : goal.join-first-requires-send-F
join-first-requires-send-F g t c κs within = param_send 1 _ (worker_send g κs (search sendable) (search sendable))

pub join-first-requires-send-A : goal.join-first-requires-send-A
join-first-requires-send-A g t c κs = search (sendable, crosses, held) depth 20
