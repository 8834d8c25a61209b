use Rattle.std.proofs.Common.{FitsSigned, ◌+ℤ◌, ◌≡◌, pos, rules}
use Rattle.std.specs.Int.{w128, int_div_euclid, int_rem_euclid}
use Rattle.std.proofs.lemmas.Int.{to_z-of_z}
use Rattle.srs_num.proofs.Floors.{ceiling_even, ceiling_odd, zero_bits, nonzero_bits, next_fits}
use Rattle.srs_num.proofs.division.ceil_div.Goals as goal

pub returns-then-rem_euclid-eq0 : goal.returns-then-rem_euclid-eq0
returns-then-rem_euclid-eq0 c =
    let fn : FitsSigned w128 c.args.n = c.ranges.n in
    let fd : FitsSigned w128 c.args.d = c.ranges.d in
    let q = c.div_euclid.result in
    let r = c.rem_euclid.result in
    let fq : FitsSigned w128 q = search rules in
    let eq : q ≡ int_div_euclid c.args.n c.args.d = simp to_z-of_z at c.div_euclid.ensures in
    let er : r ≡ int_rem_euclid c.args.n c.args.d = simp to_z-of_z at c.rem_euclid.ensures.value in
    simp to_z-of_z (ceiling_even c.args.n c.args.d q r c.requires eq er (zero_bits r (search rules) c.if-rem_euclid-eq0.true))

pub returns-else-rem_euclid-eq0 : goal.returns-else-rem_euclid-eq0
returns-else-rem_euclid-eq0 c =
    let fn : FitsSigned w128 c.args.n = c.ranges.n in
    let fd : FitsSigned w128 c.args.d = c.ranges.d in
    let q = c.div_euclid-else-rem_euclid-eq0.result in
    let r = c.rem_euclid.result in
    let fq : FitsSigned w128 q = search rules in
    let eq : q ≡ int_div_euclid c.args.n c.args.d = simp to_z-of_z at c.div_euclid-else-rem_euclid-eq0.ensures in
    let er : r ≡ int_rem_euclid c.args.n c.args.d = simp to_z-of_z at c.rem_euclid.ensures.value in
    let off = nonzero_bits r c.if-rem_euclid-eq0.false in
    let f1 : FitsSigned w128 (q +ℤ pos 1) = next_fits c.args.n c.args.d q r c.ranges.n c.requires eq er off fq in
    simp to_z-of_z (ceiling_odd c.args.n c.args.d q r c.requires eq er off)
