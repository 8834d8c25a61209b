use Rattle.srs_check.specs.Listed.{IsListed}
use Rattle.srs_check.proofs.Spans.{Walked}
use Rattle.srs_check.proofs.listed.check_back.Given as goal

abbrev pub invariant-loop-k : goal.invariant-loop-k
invariant-loop-k l = Walked l.ranks (IsListed l.ranks) l.w l.span.low l.k l.place
