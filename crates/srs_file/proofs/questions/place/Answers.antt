use Rattle.std.proofs.Common.{inr, refl, rules, to_z-of_z, FitsSigned, w64}
use Rattle.srs_num.specs.Points.{Point, IsPtSized}
use Rattle.srs_file.proofs.questions.place.Goals as goal

pub returns-in-None-clause-err : goal.returns-in-None-clause-err
returns-in-None-clause-err c =
    let r : Point = record { p = c.in_ok-said.said.0; q = c.in_ok-said.said.1; d = c.in_ok-said.said.2 } in
    let p : FitsSigned w64 c.in_ok-said.said.0 = search rules in
    let q : FitsSigned w64 c.in_ok-said.said.1 = search rules in
    let d : FitsSigned w64 c.in_ok-said.said.2 = search rules in
    let out : ¬ (IsPtSized r) = rw (to_z-of_z p, to_z-of_z q, to_z-of_z d) at c.in-None.ensures.none in
    inr (r, c.in_ok-said.ensures.ok, out, refl)
