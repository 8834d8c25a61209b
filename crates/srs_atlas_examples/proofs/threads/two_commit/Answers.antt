-- What the closures of the threads hold may cross threads, and so may what they give. The lemmas know of nothing else, so that
-- the searches stay short.
use Rattle.std.proofs.Crossing.{crosses}
use contract.Lifetimes.{Lfts}
use denote.Param.Send.{IsSend, IsSync, sendable, param_send}
use Rattle.srs_atlas_examples.specs.contracts.commits.Told as told
use Rattle.srs_atlas_examples.proofs.Crossing.{held}
use Rattle.srs_atlas_examples.proofs.threads.two_commit.Given as given
use Rattle.srs_atlas_examples.proofs.threads.two_commit.Lts as lts
use Rattle.srs_atlas_examples.proofs.threads.two_commit.Goals as goal

told_send : IsSend told.the_row
told_send = search (sendable, crosses) depth 20

closure_send : (g : given.Over) (κs : Lfts 12) → IsSync g.row.R → IsSend (lts.arg-1-1 g.row.R g.R.laws g.R.Threads-dict g.R.Wait-dict κs)
closure_send g κs r = search (sendable, crosses, held) depth 60

result_send : (g : given.Over) (κs : Lfts 12) → IsSend (lts.arg-1-3 g.row.R g.R.laws g.R.Threads-dict g.R.Wait-dict κs)
result_send g κs = search (sendable, crosses, held, told_send) depth 20

pub join-one-requires-send-F : goal.join-one-requires-send-F
join-one-requires-send-F g c κs within = param_send 1 _ (closure_send g κs (search sendable))

pub join-one-requires-send-A : goal.join-one-requires-send-A
join-one-requires-send-A g c κs within = param_send 3 _ (result_send g κs)
