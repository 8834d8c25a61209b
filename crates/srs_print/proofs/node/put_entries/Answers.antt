use Rattle.std.proofs.Common.{◌≡◌, ◌++◌, ◌∷◌, FitsSigned, rules}
use Rattle.std.specs.Int.{w64}
use Rattle.std.specs.Fmt.{signed_decimal}
use Rattle.std.proofs.lemmas.Int.{to_z-of_z}
use Rattle.std.proofs.lemmas.Result.{err_from_is_err_and}
use Rattle.srs_print.specs.Fronts.{StopsIn}
use Rattle.srs_print.proofs.FrontLemmas.{in_item, one_more}
use Rattle.srs_print.proofs.node.put_entries.Goals as goal

pub returns-in_err-put_signed-clause-err : goal.returns-in_err-put_signed-clause-err
returns-in_err-put_signed-clause-err c =
    let p = err_from_is_err_and c.from_residual.result c.from_residual.ensures.1 in
    let fit : FitsSigned w64 c.entry.result = search rules in
    let here : StopsIn c.loop-i.out (32 ∷ signed_decimal c.entry.result) c.put_signed.new.out = simp to_z-of_z at c.in_err-put_signed.ensures.err in
    rw p.1 (in_item (λ z. 32 ∷ signed_decimal z) c.args.cycle.now c.loop-i.i c.entry.result c.args.out.now c.loop-i.out c.put_signed.new.out c.entry.ensures c.loop-i.invariant here)

pub loop-i-preserved : goal.loop-i-preserved
loop-i-preserved c =
    let fit : FitsSigned w64 c.entry.result = search rules in
    let here : c.put_signed.new.out ≡ c.loop-i.out ++ 32 ∷ signed_decimal c.entry.result = simp to_z-of_z at c.in_ok-put_signed.ensures.ok in
    one_more (λ z. 32 ∷ signed_decimal z) c.args.cycle.now c.loop-i.i c.entry.result c.args.out.now c.loop-i.out c.put_signed.new.out c.entry.ensures c.loop-i.invariant here
