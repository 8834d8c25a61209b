use Rattle.srs_check.specs.Walks.{HasCome}
use Rattle.srs_check.proofs.checks.check.Given as goal

abbrev pub invariant-loop-i : goal.invariant-loop-i
invariant-loop-i l = HasCome l.c l.i l.walk
