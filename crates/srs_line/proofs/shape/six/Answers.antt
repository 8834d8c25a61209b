use Rattle.std.proofs.Common.{rules, ◌≡◌, pos, length, get_or, FitsSigned, w64, to_z-of_z}
use Rattle.srs_line.specs.Fields.{Says}
use Rattle.srs_line.proofs.LineTexts.{six_is}
use Rattle.srs_line.proofs.shape.six.Goals as goal

pub returns-clause-ok : goal.returns-clause-ok
returns-clause-ok c =
    let xs = c.fields.new.into in
    let size : length xs ≡ 6 = search rules in
    let a : FitsSigned w64 (get_or xs 0 (pos 0)) = search rules in
    let b : FitsSigned w64 (get_or xs 1 (pos 0)) = search rules in
    let d : FitsSigned w64 (get_or xs 2 (pos 0)) = search rules in
    let e : FitsSigned w64 (get_or xs 3 (pos 0)) = search rules in
    let f : FitsSigned w64 (get_or xs 4 (pos 0)) = search rules in
    let g : FitsSigned w64 (get_or xs 5 (pos 0)) = search rules in
    let said : Says c.args.word.now xs c.args.line.now = c.in_ok-fields.ensures.ok in
    let parts = six_is xs (pos 0) size in
    rw (to_z-of_z a, to_z-of_z b, to_z-of_z d, to_z-of_z e, to_z-of_z f, to_z-of_z g) (rw parts at said)
