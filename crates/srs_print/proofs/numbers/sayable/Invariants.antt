use Rattle.std.proofs.Common.{All, take}
use Rattle.srs_cert.specs.Sayings.{IsSayable}
use Rattle.srs_print.proofs.numbers.sayable.Given as goal

abbrev pub invariant-loop-i : goal.invariant-loop-i
invariant-loop-i l = All (All IsSayable) (take l.i l.told)
