-- The descent has come to the event at the first sides of the path.
use Rattle.std.proofs.Common.{take}
use Rattle.srs_cert.specs.Certificates.{StandsAt}
use Rattle.srs_cert.proofs.certificates.Cert.outcome.Given as goal

abbrev pub invariant-loop-k : goal.invariant-loop-k
invariant-loop-k l = StandsAt l.self.events (take l.k l.path) l.place
