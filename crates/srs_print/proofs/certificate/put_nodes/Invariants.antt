use Rattle.std.proofs.Common.{◌≡◌, ◌++◌, take}
use Rattle.std.specs.List.{flat_map}
use Rattle.srs_cert.specs.Texts.{outcome_text}
use Rattle.srs_cert.specs.Certificates.{outcomes_of}
use Rattle.srs_print.proofs.certificate.put_nodes.Given as goal

abbrev pub invariant-loop-i : goal.invariant-loop-i
invariant-loop-i l = l.out ≡ l.fn.out ++ flat_map outcome_text (take l.i (outcomes_of l.events))
