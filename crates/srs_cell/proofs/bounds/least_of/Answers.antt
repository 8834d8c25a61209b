use Rattle.std.proofs.Common.{◌<◌, length, rules, sym, arith, FitsSigned, ◌^◌}
use Rattle.std.specs.Int.{w128}
use Rattle.std.proofs.lemmas.Int.{to_z-of_z}
use Rattle.std.proofs.lemmas.List.Elements.{All-contains}
use Rattle.srs_num.specs.Points.{IsPointWithin}
use Rattle.srs_cell.proofs.Infima.{are_short}
use Rattle.srs_cell.proofs.Least.{least_first, member, least_stays, least_moves, least_all, no_test, lower_by, lower_to}
use Rattle.srs_cell.proofs.bounds.least_of.Goals.{then-is_less, else-is_less}
use Rattle.srs_cell.proofs.bounds.least_of.Goals as goal

pub loop-i-init : goal.loop-i-init
loop-i-init c =
    let some : 0 < length c.args.corners.now = omega (arith, c.requires.some) in
    let fn : FitsSigned w128 c.value_of-num.result = search rules in
    let fd : FitsSigned w128 c.denominator-den.result = search rules in (
      (0, some, sym c.index-corners-0.is),
      least_first c.args.form.now c.args.corners.now c.index-corners-0.result some c.index-corners-0.is,
      simp to_z-of_z c.value_of-num.ensures,
      simp to_z-of_z c.denominator-den.ensures,
    )

pub loop-i-preserved : goal.loop-i-preserved
loop-i-preserved c =
    let f = c.args.form.now in
    let cs = c.args.corners.now in
    let i = c.loop-i.i in
    let old = c.loop-i.invariant in
    let x = c.index-corners-i.result in
    let lt : i < length cs = omega arith in
    let fn : FitsSigned w128 c.value_of-value.result = search rules in
    let fd : FitsSigned w128 c.denominator-denominator.result = search rules in
    let test = simp to_z-of_z at c.is_less.ensures in
    elim c.if-is_less.branch [
      | then-is_less w ↦
          let low = lower_by f x c.loop-i.least _ _ _ _ c.value_of-value.ensures c.denominator-denominator.ensures old.2 old.3 (test.0 w.if-is_less.true) in
          rw (w.least-is, w.num-is, w.den-is) (simp to_z-of_z (
            member f cs c.requires.sized i x lt c.index-corners-i.is,
            least_moves f cs c.requires.sized i x lt c.index-corners-i.is c.loop-i.least old.0 old.1 low,
            c.value_of-value.ensures,
            c.denominator-denominator.ensures,
          ))
      | else-is_less w ↦
          let to = lower_to f x c.loop-i.least _ _ _ _ c.value_of-value.ensures c.denominator-denominator.ensures old.2 old.3 in
          rw (w.least-is, w.num-is, w.den-is) (
            old.0,
            least_stays f cs c.requires.sized i x lt c.index-corners-i.is c.loop-i.least old.1 (no_test _ (λ h. test.1 (to h)) w.if-is_less.false),
            old.2,
            old.3,
          )
    ]

pub returns : goal.returns
returns c =
    least_all c.args.form.now c.args.corners.now c.loop-i.i _ (omega arith) c.loop-i.invariant.0 c.loop-i.invariant.1

pub is_less-requires-clause-short : goal.is_less-requires-clause-short
is_less-requires-clause-short c = λ short.
    let cs = c.args.corners.now in
    let old = c.loop-i.invariant in
    let x = c.index-corners-i.result in
    let fn : FitsSigned w128 c.value_of-value.result = search rules in
    let fd : FitsSigned w128 c.denominator-denominator.result = search rules in
    let lt : c.loop-i.i < length cs = omega arith in
    let here = All-contains (IsPointWithin (2 ^ 38)) cs x (c.requires.short short) (c.loop-i.i, lt, sym c.index-corners-i.is) in
    let there = All-contains (IsPointWithin (2 ^ 38)) cs c.loop-i.least (c.requires.short short) old.0 in
    simp to_z-of_z (are_short c.args.form.now x c.loop-i.least _ _ _ _ c.parts.ensures.sized here there c.value_of-value.ensures c.denominator-denominator.ensures old.2 old.3)
