use Rattle.srs_graph.specs.Listings.{AreOpenPairs}
use Rattle.srs_graph.proofs.listing.open_pairs.Given as goal

abbrev pub invariant-loop-i : goal.invariant-loop-i
invariant-loop-i l = AreOpenPairs l.pairs l.marks l.i l.found
