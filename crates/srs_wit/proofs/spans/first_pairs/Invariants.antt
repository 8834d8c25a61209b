use Rattle.std.proofs.Common.{◌≡◌}
use Rattle.srs_wit.specs.Spans.{pairs_from}
use Rattle.srs_wit.proofs.spans.first_pairs.Given as goal

abbrev pub invariant-loop-k : goal.invariant-loop-k
invariant-loop-k l = l.pairs ≡ pairs_from l.w l.span.low l.k
