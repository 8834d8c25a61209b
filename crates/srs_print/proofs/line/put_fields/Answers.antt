use Rattle.std.proofs.Common.{◌∷◌, get_or, pos, FitsSigned, arith, rules}
use Rattle.std.specs.Int.{w64}
use Rattle.std.specs.Fmt.{signed_decimal}
use Rattle.std.proofs.lemmas.Int.{to_z-of_z}
use Rattle.std.proofs.lemmas.Option.{slice_get-get_or}
use Rattle.std.proofs.lemmas.Result.{err_from_is_err_and}
use Rattle.srs_print.specs.Fronts.{StopsIn}
use Rattle.srs_print.proofs.FrontLemmas.{in_item}
use Rattle.srs_print.proofs.line.put_fields.Goals as goal

pub returns-in_err-put_signed-clause-err : goal.returns-in_err-put_signed-clause-err
returns-in_err-put_signed-clause-err c =
    let p = err_from_is_err_and c.from_residual.result c.from_residual.ensures.1 in
    let i = c.loop-z.z-index in
    let numbers = c.args.numbers.now in
    let z = get_or numbers i (pos 0) in
    let fit : FitsSigned w64 z = search rules in
    let here : StopsIn c.loop-z.out (32 ∷ signed_decimal z) c.put_signed.new.out = simp to_z-of_z at c.in_err-put_signed.ensures.err in
    rw p.1 (in_item (λ z. 32 ∷ signed_decimal z) numbers i z c.args.out.now c.loop-z.out c.put_signed.new.out (slice_get-get_or numbers i (pos 0) (omega arith)) c.loop-z.invariant here)
