use Rattle.std.proofs.Common.{FitsSigned, w64, ◌^◌, rules, sym, arith}
use Rattle.std.specs.List.{Contains}
use Rattle.std.proofs.lemmas.Int.{to_z-of_z}
use Rattle.std.proofs.lemmas.List.Elements.{All-contains}
use Rattle.srs_num.specs.Points.{IsPointWithin}
use Rattle.srs_cell.specs.Floors.{form_of, AreFloorsOf, AreLessened}
use Rattle.srs_cell.proofs.FloorsBelow.{corner_ratio, floors_first, floors_more}
use Rattle.srs_cell.proofs.floors.short_floors.Goals as goal

pub of-floors-requires-clause-near : goal.of-floors-requires-clause-near
of-floors-requires-clause-near c =
    let cs = c.args.corners.now in
    let among : Contains cs c.index-corners-0.result = search rules in
    let fn : FitsSigned w64 c.short_value.result = search rules in
    let fd : FitsSigned w64 c.short_denominator.result = search rules in
    simp to_z-of_z (corner_ratio (2 ^ 20) (2 ^ 38) cs c.args.w _ c.short_value.result c.short_denominator.result c.requires.near c.requires.short c.requires.a c.requires.b among c.short_value.ensures c.short_denominator.ensures).0

pub loop-i-init : goal.loop-i-init
loop-i-init c =
    let cs = c.args.corners.now in
    let n = c.short_value.result in
    let d = c.short_denominator.result in
    let among : Contains cs c.index-corners-0.result = search rules in
    let fn : FitsSigned w64 n = search rules in
    let fd : FitsSigned w64 d = search rules in
    let h : AreFloorsOf (2 ^ 23) n d c.of-floors.result = simp to_z-of_z at c.of-floors.ensures in
    floors_first (2 ^ 23) (form_of c.args.w) cs (2 ^ 38) c.requires.short c.index-corners-0.result (omega (arith, c.requires.some)) c.index-corners-0.is n d c.of-floors.result c.short_value.ensures c.short_denominator.ensures h

pub short_value-requires-in-loop-i-clause-corner : goal.short_value-requires-in-loop-i-clause-corner
short_value-requires-in-loop-i-clause-corner c =
    All-contains (IsPointWithin (2 ^ 38)) c.args.corners.now c.index-corners-i.result c.requires.short (c.loop-i.i, omega arith, sym c.index-corners-i.is)

pub short_denominator-requires-in-loop-i : goal.short_denominator-requires-in-loop-i
short_denominator-requires-in-loop-i c =
    All-contains (IsPointWithin (2 ^ 38)) c.args.corners.now c.index-corners-i.result c.requires.short (c.loop-i.i, omega arith, sym c.index-corners-i.is)

pub lessened-floors-requires-clause-near : goal.lessened-floors-requires-clause-near
lessened-floors-requires-clause-near c =
    let cs = c.args.corners.now in
    let n = c.short_value-in-loop-i.result in
    let d = c.short_denominator-in-loop-i.result in
    let among : Contains cs c.index-corners-i.result = (c.loop-i.i, omega arith, sym c.index-corners-i.is) in
    let fn : FitsSigned w64 n = search rules in
    let fd : FitsSigned w64 d = search rules in
    simp to_z-of_z (corner_ratio (2 ^ 20) (2 ^ 38) cs c.args.w _ n d c.requires.near c.requires.short c.requires.a c.requires.b among c.short_value-in-loop-i.ensures c.short_denominator-in-loop-i.ensures).0

pub loop-i-preserved : goal.loop-i-preserved
loop-i-preserved c =
    let cs = c.args.corners.now in
    let n = c.short_value-in-loop-i.result in
    let d = c.short_denominator-in-loop-i.result in
    let fn : FitsSigned w64 n = search rules in
    let fd : FitsSigned w64 d = search rules in
    let l : AreLessened (2 ^ 23) n d c.loop-i.floors c.lessened-floors.result = simp to_z-of_z at c.lessened-floors.ensures in
    floors_more (2 ^ 23) (form_of c.args.w) cs (2 ^ 38) c.requires.short c.loop-i.i _ (omega arith) c.index-corners-i.is
    n d c.loop-i.floors c.lessened-floors.result c.short_value-in-loop-i.ensures c.short_denominator-in-loop-i.ensures c.loop-i.invariant l
