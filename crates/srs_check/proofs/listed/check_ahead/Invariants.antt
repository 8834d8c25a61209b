use Rattle.srs_check.specs.Listed.{IsBelow}
use Rattle.srs_check.proofs.Spans.{Walked}
use Rattle.srs_check.proofs.listed.check_ahead.Given as goal

abbrev pub invariant-loop-k : goal.invariant-loop-k
invariant-loop-k l = Walked l.ranks (IsBelow l.ranks (l.w, l.rank)) l.w l.span.low l.k l.place
