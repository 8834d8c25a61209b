use Rattle.std.specs.Int.{w128}
use Rattle.std.proofs.Common.{FitsSigned, rules, ◌≡◌}
use Rattle.std.proofs.lemmas.Int.{to_z-of_z}
use Rattle.srs_num.specs.Floor.{floor_quotient}
use Rattle.srs_num.proofs.Floors.{floor_is}
use Rattle.srs_num.proofs.division.floor_div.Goals as goal

pub returns-clause-floor : goal.returns-clause-floor
returns-clause-floor c =
    let f : FitsSigned w128 c.div_euclid.result = search rules in
    let n : FitsSigned w128 c.args.n = c.ranges.n in
    let d : FitsSigned w128 c.args.d = c.ranges.d in
    let e : c.div_euclid.result ≡ floor_quotient c.args.n c.args.d = simp to_z-of_z at c.div_euclid.ensures in
    simp to_z-of_z (rw e (floor_is c.args.n c.args.d c.requires))
