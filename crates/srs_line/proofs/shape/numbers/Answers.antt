use Rattle.std.proofs.Common.{◌<◌, ◌∷◌, [], ◌++◌, ℤ, take, length, arith, append_assoc, ◌∙◌, ap, to_z-of_z, length-set}
use Rattle.std.proofs.lemmas.List.{take_more_set}
use Rattle.srs_line.proofs.FieldLemmas.{numbers_push, no_numbers}
use Rattle.srs_line.proofs.shape.numbers.Goals as goal

pub returns-in_default-number-clause-no : goal.returns-in_default-number-clause-no
returns-in_default-number-clause-no c not same zs a =
    let was = c.loop-i.invariant.read in
    no_numbers was.0 c.in-Some.token.now c.next.new.self zs c.in_default-number.ensures.none (rw (was.1, c.in-Some.ensures.some) at a)

pub loop-i-preserved : goal.loop-i-preserved
loop-i-preserved c =
    let was = c.loop-i.invariant.read in
    let is = c.in-Some-number.ensures.some in
    let token = c.in-Some.token.now in
    let within : c.loop-i.i < length c.loop-i.into = omega arith in
    record {
      read = (
        was.0 ++ token ∷ [],
        rw append_assoc (was.1 ∙ ap (λ x. was.0 ++ x) c.in-Some.ensures.some),
        rw (to_z-of_z is.0, take_more_set c.loop-i.into c.loop-i.i c.in-Some-number.n within) (numbers_push was.0 (take c.loop-i.i c.loop-i.into) token c.in-Some-number.n was.2 is),
      );
      count = omega (arith, ap length c.in-Some.ensures.some, length-set {A = ℤ});
    }
