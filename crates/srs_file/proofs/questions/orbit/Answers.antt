use Rattle.std.proofs.Common.{◌≢◌, ℕ, ℤ, pos, inr, refl, ap}
use Rattle.srs_num.specs.declared.pairs.V2.{V2}
use Rattle.srs_num.specs.Points.{Point}
use Rattle.srs_file.specs.Questions.{orbit_numbers}
use Rattle.srs_tree.specs.Questions.{IsOrbitAsked}
use Rattle.srs_file.proofs.questions.orbit.Goals as goal

pub returns-in-None-clause-err : goal.returns-in-None-clause-err
returns-in-None-clause-err c =
    let said = c.in_ok-said.said in
    let r : Point = record { p = said.0; q = said.1; d = said.2 } in
    let z : V2 = record { a = said.3; b = said.4 } in
    let out : (n : ℕ) → IsOrbitAsked r z n → said.5 ≢ pos n = λ n asked e. c.in-None.ensures.none r z n asked (ap (λ (m : ℤ). orbit_numbers r z m) e) in
    inr (r, z, said.5, c.in_ok-said.ensures.ok, out, refl)
