use Rattle.srs_graph.specs.Listings.{AreNumbers}
use Rattle.srs_graph.proofs.listing.numbers.Given as goal

abbrev pub invariant-loop-i : goal.invariant-loop-i
invariant-loop-i l = AreNumbers l.marks l.i l.numbers
