use Rattle.srs_wit.specs.Search.{AddsLinks}
use Rattle.srs_wit.specs.PairSets.{all_of}
use Rattle.srs_wit.proofs.closure.Search.add_center_row.Given as goal

abbrev pub invariant-loop-k : goal.invariant-loop-k
invariant-loop-k l =
    AddsLinks (all_of l.fn.self.found) l.fn.self.origin l.w l.span.low l.span.high l.k (all_of l.self.found) l.self.origin l.fn.self.found.waiting l.self.found.waiting
