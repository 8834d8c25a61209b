use Rattle.srs_cut.proofs.Divisions.{AreUndivided}
use Rattle.srs_cut.proofs.judgement.first_division.Given as goal

abbrev pub invariant-loop-i : goal.invariant-loop-i
invariant-loop-i l = AreUndivided l.cell l.c l.i
