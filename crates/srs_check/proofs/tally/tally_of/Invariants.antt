use Rattle.srs_check.specs.Tallies.{IsTallied}
use Rattle.srs_check.proofs.tally.tally_of.Given as goal

abbrev pub invariant-loop-i : goal.invariant-loop-i
invariant-loop-i l = IsTallied l.c.events l.i l.tally
