use Rattle.std.proofs.Common.{◌+◌, ◌*◌, ◌-◌, ◌^◌, rules, FitsSigned, arith, sym}
use Rattle.std.specs.Int.{w128}
use Rattle.std.proofs.lemmas.Int.{to_z-of_z}
use Rattle.srs_num.proofs.Crossings.{sized_more}
use Rattle.srs_num.proofs.Sums.{plus_sized}
use Rattle.std.proofs.lemmas.List.Elements.{All-contains}
use Rattle.srs_num.specs.Points.{IsPointWithin}
use Rattle.srs_cell.proofs.Infima.{are_short}
use Rattle.srs_cell.proofs.Least.{sum_stays, sum_grows, sized_at, no_test, lower_by, lower_to}
use Rattle.srs_cell.proofs.bounds.sum_at.Goals.{then-not-is_less, else-not-is_less}
use Rattle.srs_cell.proofs.bounds.sum_at.Goals as goal

pub plus-total-requires : goal.plus-total-requires
plus-total-requires c =
    let i = c.loop-corner.corner-index in
    let m = 2 ^ 77 * i + 2 ^ 77 in
    sized_more (m + 2 ^ 77) (2 ^ 84 - 1) _
    (plus_sized m (2 ^ 77) _ _ c.loop-corner.invariant.1 (sized_at c.args.corners.now i _ c.loop-corner-test.true c.corner-item.is c.requires.sized))
    (omega (arith, c.loop-corner-test.true, c.requires.few))

pub loop-corner-preserved : goal.loop-corner-preserved
loop-corner-preserved c =
    let f = c.args.form.now in
    let cs = c.args.corners.now in
    let i = c.loop-corner.corner-index in
    let m = 2 ^ 77 * i + 2 ^ 77 in
    let old = c.loop-corner.invariant in
    let lt = c.loop-corner-test.true in
    let fn : FitsSigned w128 c.at_corner-num.result = search rules in
    let fd : FitsSigned w128 c.denominator-den.result = search rules in
    let fv : FitsSigned w128 c.value_of.result = search rules in
    let fe : FitsSigned w128 c.denominator.result = search rules in
    let test = simp to_z-of_z at c.is_less.ensures in
    let x = c.corner-item.result in
    let least = c.args.least.now in
    elim c.if-not-is_less.branch [
      | then-not-is_less w ↦ rw (w.total-is, w.plus-total.ensures) (
        sum_grows f cs i _ _ _ lt c.corner-item.is old.0 c.requires.sized c.requires.least (no_test _ (λ h. test.1 (lower_to f least x _ _ _ _ c.at_corner-num.ensures c.denominator-den.ensures c.value_of.ensures c.denominator.ensures h)) w.if-not-is_less.true),
        sized_more (m + 2 ^ 77) (2 ^ 77 * (i + 1) + 2 ^ 77) _ (plus_sized m (2 ^ 77) _ _ old.1 (sized_at cs i _ lt c.corner-item.is c.requires.sized)) (omega arith),
      )
      | else-not-is_less w ↦ rw w.total-is (
        sum_stays f cs i _ _ _ lt c.corner-item.is old.0 (lower_by f least x _ _ _ _ c.at_corner-num.ensures c.denominator-den.ensures c.value_of.ensures c.denominator.ensures (test.0 w.if-not-is_less.false)),
        sized_more m (2 ^ 77 * (i + 1) + 2 ^ 77) _ old.1 (omega arith),
      )
    ]

pub is_less-requires-clause-short : goal.is_less-requires-clause-short
is_less-requires-clause-short c = λ short.
    let cs = c.args.corners.now in
    let x = c.corner-item.result in
    let fn : FitsSigned w128 c.at_corner-num.result = search rules in
    let fd : FitsSigned w128 c.denominator-den.result = search rules in
    let fv : FitsSigned w128 c.value_of.result = search rules in
    let fe : FitsSigned w128 c.denominator.result = search rules in
    let here = All-contains (IsPointWithin (2 ^ 38)) cs x (c.requires.short short) (c.loop-corner.corner-index, c.loop-corner-test.true, sym c.corner-item.is) in
    let there = All-contains (IsPointWithin (2 ^ 38)) cs c.args.least.now (c.requires.short short) c.requires.least.among in
    simp to_z-of_z (are_short c.args.form.now c.args.least.now x _ _ _ _ c.parts.ensures.sized there here c.at_corner-num.ensures c.denominator-den.ensures c.value_of.ensures c.denominator.ensures)
