use Rattle.srs_check.proofs.Building.{GrownTo}
use Rattle.srs_check.proofs.builds.build.Given as goal

abbrev pub invariant-loop-i : goal.invariant-loop-i
invariant-loop-i l = GrownTo l.c l.i l.waiting l.tree
