use Rattle.std.proofs.Common.{◌≡◌, ◌++◌, ◌∷◌, pos, length, codes, flat_map, arith}
use Rattle.std.specs.Int.{w128}
use Rattle.std.specs.Fmt.{signed_decimal}
use Rattle.std.proofs.Math.Facts.{to_z_pos}
use Rattle.std.proofs.lemmas.Result.{err_from_is_err_and, on_err_weaker}
use Rattle.srs_print.specs.Fronts.{StopsIn}
use Rattle.srs_print.proofs.FrontLemmas.{sooner, later}
use Rattle.srs_print.proofs.node.put_cycle.Goals as goal
use mir.Val.{to_z}

pub returns-in_err-put_field-clause-err : goal.returns-in_err-put_field-clause-err
returns-in_err-put_field-clause-err c =
    let p = err_from_is_err_and c.from_residual-in_err-put_field.result c.from_residual-in_err-put_field.ensures.1 in
    let is : to_z w128 c.len.result ≡ pos c.len.result = to_z_pos w128 (omega arith) in
    let count = 32 ∷ signed_decimal (pos (length c.args.cycle.now)) in
    let field : StopsIn c.extend.new.self count c.put_field.new.out = rw (is, c.len.ensures.len) at c.in_err-put_field.ensures.err in
    let entries = flat_map (λ z. 32 ∷ signed_decimal z) c.args.cycle.now in
    rw p.1 (later c.args.out.now c.extend.new.self (codes "out") (count ++ entries) c.put_field.new.out c.in_ok-extend.ensures.ok (sooner c.extend.new.self count entries c.put_field.new.out field))

pub returns-clause-err : goal.returns-clause-err
returns-clause-err c =
    let is : to_z w128 c.len.result ≡ pos c.len.result = to_z_pos w128 (omega arith) in
    let count = 32 ∷ signed_decimal (pos (length c.args.cycle.now)) in
    let field : c.put_field.new.out ≡ c.extend.new.self ++ count = rw (is, c.len.ensures.len) at c.in_ok-put_field.ensures.ok in
    let entries = flat_map (λ z. 32 ∷ signed_decimal z) c.args.cycle.now in
    on_err_weaker c.put_entries.result (λ (s : StopsIn c.put_field.new.out entries c.put_entries.new.out).
    later c.args.out.now c.extend.new.self (codes "out") (count ++ entries) c.put_entries.new.out c.in_ok-extend.ensures.ok
    (later c.extend.new.self c.put_field.new.out count entries c.put_entries.new.out field s)) c.put_entries.ensures.err
