use Rattle.std.proofs.Common.{FitsSigned, ◌≡◌, ◌*ℤ◌, ◌<ℤ◌, rules, arith, refl, true}
use Rattle.std.specs.Int.{w128}
use Rattle.std.proofs.Math.Facts.{to_z-of_z}
use Rattle.std.proofs.lemmas.Int.{ints}
use Rattle.std.proofs.lemmas.Bool.{false≢true}
use Rattle.srs_num.proofs.Floors.{zero_bits, nonzero_bits}
use Rattle.srs_num.proofs.Quotients.{held_parts, below_not, gap_less, gap_more}
use Rattle.srs_num.proofs.division.+is_less_quotient.Goals as goal

pub returns-then-whole1-whole2 : goal.returns-then-whole1-whole2
returns-then-whole1-whole2 t c =
    let fq1 : FitsSigned w128 c.div_euclid-whole1.result = search rules in
    let fq2 : FitsSigned w128 c.div_euclid-whole2.result = search rules in
    let o = held_parts _ _ _ _ _ _ _ _ c.ranges.n1 c.ranges.d1 c.ranges.n2 c.ranges.d2 c.requires.first c.requires.second c.div_euclid-whole1.ensures refl c.div_euclid-whole2.ensures refl in
    (λ _. o.lower (omega (arith, ints)), λ _. refl)

pub returns-then-whole2-whole1 : goal.returns-then-whole2-whole1
returns-then-whole2-whole1 t c =
    let fq1 : FitsSigned w128 c.div_euclid-whole1.result = search rules in
    let fq2 : FitsSigned w128 c.div_euclid-whole2.result = search rules in
    let o = held_parts _ _ _ _ _ _ _ _ c.ranges.n1 c.ranges.d1 c.ranges.n2 c.ranges.d2 c.requires.first c.requires.second c.div_euclid-whole1.ensures refl c.div_euclid-whole2.ensures refl in
    (λ f. absurd (false≢true f), λ lt. absurd (below_not _ _ (o.higher (omega (arith, ints))) lt))

pub returns-then-rest2-eq0 : goal.returns-then-rest2-eq0
returns-then-rest2-eq0 t c =
    let fq1 : FitsSigned w128 c.div_euclid-whole1.result = search rules in
    let fq2 : FitsSigned w128 c.div_euclid-whole2.result = search rules in
    let fr2 : FitsSigned w128 c.rem_euclid-rest2.result = search rules in
    let o = held_parts _ _ _ _ _ _ _ _ c.ranges.n1 c.ranges.d1 c.ranges.n2 c.ranges.d2 c.requires.first c.requires.second c.div_euclid-whole1.ensures c.rem_euclid-rest1.ensures.value c.div_euclid-whole2.ensures c.rem_euclid-rest2.ensures.value in
    (λ f. absurd (false≢true f), λ lt. absurd (below_not _ _ (o.second_even (omega (arith, ints)) (zero_bits _ fr2 c.if-rest2-eq0.true)) lt))

pub returns-then-rest1-eq0 : goal.returns-then-rest1-eq0
returns-then-rest1-eq0 t c =
    let fq1 : FitsSigned w128 c.div_euclid-whole1.result = search rules in
    let fq2 : FitsSigned w128 c.div_euclid-whole2.result = search rules in
    let fr1 : FitsSigned w128 c.rem_euclid-rest1.result = search rules in
    let o = held_parts _ _ _ _ _ _ _ _ c.ranges.n1 c.ranges.d1 c.ranges.n2 c.ranges.d2 c.requires.first c.requires.second c.div_euclid-whole1.ensures c.rem_euclid-rest1.ensures.value c.div_euclid-whole2.ensures c.rem_euclid-rest2.ensures.value in
    (λ _. o.first_even (omega (arith, ints)) (zero_bits _ fr1 c.if-rest1-eq0.true) (nonzero_bits _ c.if-rest2-eq0.false), λ _. refl)

pub returns : goal.returns
returns t c =
    let fq1 : FitsSigned w128 c.div_euclid-whole1.result = search rules in
    let fq2 : FitsSigned w128 c.div_euclid-whole2.result = search rules in
    let fr1 : FitsSigned w128 c.rem_euclid-rest1.result = search rules in
    let fr2 : FitsSigned w128 c.rem_euclid-rest2.result = search rules in
    let o = held_parts _ _ _ _ _ _ _ _ c.ranges.n1 c.ranges.d1 c.ranges.n2 c.ranges.d2 c.requires.first c.requires.second c.div_euclid-whole1.ensures c.rem_euclid-rest1.ensures.value c.div_euclid-whole2.ensures c.rem_euclid-rest2.ensures.value in
    let r = c.is_less_quotient in
    let next : (r.result ≡ true → (c.args.d2 *ℤ c.rem_euclid-rest1.result) <ℤ (c.args.d1 *ℤ c.rem_euclid-rest2.result))
    × ((c.args.d2 *ℤ c.rem_euclid-rest1.result) <ℤ (c.args.d1 *ℤ c.rem_euclid-rest2.result) → r.result ≡ true)
    = simp (to_z-of_z c.ranges.d1, to_z-of_z c.ranges.d2, to_z-of_z fr1, to_z-of_z fr2) at r.ensures in
    let e = o.next (omega (arith, ints)) in
    (λ yes. gap_less _ _ _ _ e (next.0 yes), λ lt. next.1 (gap_more _ _ _ _ e lt))
