use Rattle.std.proofs.Common.{◌≡◌, ◌++◌, ◌∷◌, [], pos, arith}
use Rattle.std.specs.Int.{w128}
use Rattle.std.proofs.Math.Facts.{to_z_pos}
use mir.Val.{to_z}
use Rattle.std.proofs.lemmas.Result.{err_from_is_err_and}
use Rattle.std.specs.Fmt.{signed_decimal}
use Rattle.srs_line.specs.Fields.{line_of}
use Rattle.srs_print.specs.Fronts.{StopsIn}
use Rattle.srs_print.proofs.FrontLemmas.{sooner, later}
use Rattle.srs_print.proofs.line.put_count.Goals as goal

pub returns-in_err-put_field-clause-err : goal.returns-in_err-put_field-clause-err
returns-in_err-put_field-clause-err c =
    let p = err_from_is_err_and c.from_residual-in_err-put_field.result c.from_residual-in_err-put_field.ensures.1 in
    let is : to_z w128 c.args.n ≡ pos c.args.n = to_z_pos w128 (omega arith) in
    let field : StopsIn c.extend.new.self (32 ∷ signed_decimal (pos c.args.n)) c.put_field.new.out = rw is at c.in_err-put_field.ensures.err in
    let numbers = sooner c.extend.new.self (32 ∷ signed_decimal (pos c.args.n)) [] c.put_field.new.out field in
    rw p.1 (sooner c.args.out.now (line_of c.args.word.now (pos c.args.n ∷ [])) (10 ∷ []) c.put_field.new.out
    (later c.args.out.now c.extend.new.self c.args.word.now ((32 ∷ signed_decimal (pos c.args.n)) ++ []) c.put_field.new.out c.in_ok-extend.ensures.ok numbers))
