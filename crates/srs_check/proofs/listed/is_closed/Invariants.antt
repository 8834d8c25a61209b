use Rattle.srs_check.proofs.BothLinks.{Seen}
use Rattle.srs_check.proofs.listed.is_closed.Given as goal

abbrev pub invariant-loop-k : goal.invariant-loop-k
invariant-loop-k l = Seen l.ranks (l.w, l.rank) l.w l.span.low l.k l.place l.least_stays
