use Rattle.std.proofs.Common.{◌≡◌, ◌++◌, ◌∷◌, take}
use Rattle.std.specs.List.{flat_map}
use Rattle.std.specs.Fmt.{signed_decimal}
use Rattle.srs_print.proofs.line.put_fields.Given as goal

abbrev pub invariant-loop-z : goal.invariant-loop-z
invariant-loop-z l = l.out ≡ l.fn.out ++ flat_map (λ z. 32 ∷ signed_decimal z) (take l.z-index l.numbers)
