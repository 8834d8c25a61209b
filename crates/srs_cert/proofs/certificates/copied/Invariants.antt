use Rattle.std.proofs.Common.{◌≡◌, take}
use Rattle.srs_cert.proofs.certificates.copied.Given as goal

abbrev pub invariant-loop-vertex : goal.invariant-loop-vertex
invariant-loop-vertex l = l.copy ≡ take l.vertex-index l.vertices
