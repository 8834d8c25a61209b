use Rattle.srs_cert.proofs.LtParts.{PartsSoFar}
use Rattle.srs_cert.proofs.certificates.lt_parts_of.Given as goal

abbrev pub invariant-loop-i : goal.invariant-loop-i
invariant-loop-i l = PartsSoFar l.events l.places.items l.open.items l.i
