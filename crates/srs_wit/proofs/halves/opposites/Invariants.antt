use Rattle.std.proofs.Common.{◌≡◌, drop}
use Rattle.srs_wit.specs.Halves.{opposites}
use Rattle.srs_wit.proofs.halves.opposites.Given as goal

abbrev pub invariant-loop-i : goal.invariant-loop-i
invariant-loop-i l = l.all.items ≡ opposites (drop l.i l.pairs)
