use Rattle.std.proofs.Common.{◌+◌}
use Rattle.srs_crew.proofs.sessions.+crew_and_sessions+fn-crew_and_sessions-join+arg2.Given as goal

abbrev pub decreases-crew_and_sessions : goal.decreases-crew_and_sessions
decreases-crew_and_sessions g l = l.n + l.n + 1

abbrev pub decreases-join+arg2 : goal.decreases-join+arg2
decreases-join+arg2 g l = l.n + l.n
