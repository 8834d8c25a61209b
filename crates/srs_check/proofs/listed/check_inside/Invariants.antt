use Rattle.srs_check.proofs.Entries.{ClosedBefore}
use Rattle.srs_check.proofs.listed.check_inside.Given as goal

abbrev pub invariant-loop-i : goal.invariant-loop-i
invariant-loop-i l = ClosedBefore l.cell l.ranks l.i
