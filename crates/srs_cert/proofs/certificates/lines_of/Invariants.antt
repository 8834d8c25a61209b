use Rattle.srs_cert.proofs.NodeLines.{LinesSoFar}
use Rattle.srs_cert.proofs.certificates.lines_of.Given as goal

abbrev pub invariant-loop-i : goal.invariant-loop-i
invariant-loop-i l = LinesSoFar (record { vertices = l.vertices; limits = l.limits; events = l.events }) l.lines.items l.i l.line
