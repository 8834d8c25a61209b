use Rattle.std.proofs.Common.{◌≡◌, FitsSigned, ◌^◌, rules, sym, ◌∙◌, ap, arith}
use Rattle.std.specs.Int.{w128}
use Rattle.std.specs.List.{Contains}
use Rattle.std.proofs.lemmas.Int.{to_z-of_z}
use Rattle.std.proofs.lemmas.List.Elements.{All-contains}
use Rattle.srs_num.specs.Points.{LinearForm, value, IsPointWithin}
use Rattle.srs_cell.specs.Floors.{form_of, AreFloorsOf, AreLessened}
use Rattle.srs_cell.proofs.FloorsBelow.{corner_ratio, floors_first, floors_more}
use Rattle.srs_cell.proofs.floors.wide_floors.Goals as goal

pub wide_floors_of-floors-requires-clause-near : goal.wide_floors_of-floors-requires-clause-near
wide_floors_of-floors-requires-clause-near c =
    let cs = c.args.corners.now in
    let n = c.value_of.result in
    let d = c.denominator.result in
    let among : Contains cs c.index-corners-0.result = search rules in
    let fn : FitsSigned w128 n = search rules in
    let fd : FitsSigned w128 d = search rules in
    let en : n ≡ value (form_of c.args.w) c.index-corners-0.result = c.value_of.ensures ∙ ap (λ (f : LinearForm). value f c.index-corners-0.result) c.step_form-form.ensures in
    simp to_z-of_z (corner_ratio (2 ^ 37) (2 ^ 77) cs c.args.w _ n d c.requires.near c.requires.sized c.requires.narrow.0 c.requires.narrow.1 among en c.denominator.ensures).0

pub loop-i-init : goal.loop-i-init
loop-i-init c =
    let cs = c.args.corners.now in
    let n = c.value_of.result in
    let d = c.denominator.result in
    let fn : FitsSigned w128 n = search rules in
    let fd : FitsSigned w128 d = search rules in
    let en : n ≡ value (form_of c.args.w) c.index-corners-0.result = c.value_of.ensures ∙ ap (λ (f : LinearForm). value f c.index-corners-0.result) c.step_form-form.ensures in
    let h : AreFloorsOf (2 ^ 40) n d c.wide_floors_of-floors.result = simp to_z-of_z at c.wide_floors_of-floors.ensures in
    floors_first (2 ^ 40) (form_of c.args.w) cs (2 ^ 77) c.requires.sized c.index-corners-0.result (omega (arith, c.requires.some)) c.index-corners-0.is n d c.wide_floors_of-floors.result en c.denominator.ensures h

pub value_of-requires-in-loop-i : goal.value_of-requires-in-loop-i
value_of-requires-in-loop-i c = λ short.
    All-contains (IsPointWithin (2 ^ 38)) c.args.corners.now c.index-corners-i.result (c.requires.short short) (c.loop-i.i, omega arith, sym c.index-corners-i.is)

pub wide_lessened-floors-requires-clause-size : goal.wide_lessened-floors-requires-clause-size
wide_lessened-floors-requires-clause-size c =
    let cs = c.args.corners.now in
    let n = c.value_of-in-loop-i.result in
    let d = c.denominator-in-loop-i.result in
    let among : Contains cs c.index-corners-i.result = (c.loop-i.i, omega arith, sym c.index-corners-i.is) in
    let fd : FitsSigned w128 d = search rules in
    let en : n ≡ value (form_of c.args.w) c.index-corners-i.result = c.value_of-in-loop-i.ensures ∙ ap (λ (f : LinearForm). value f c.index-corners-i.result) c.step_form-form.ensures in
    simp to_z-of_z (corner_ratio (2 ^ 37) (2 ^ 77) cs c.args.w _ n d c.requires.near c.requires.sized c.requires.narrow.0 c.requires.narrow.1 among en c.denominator-in-loop-i.ensures).1

pub wide_lessened-floors-requires-clause-near : goal.wide_lessened-floors-requires-clause-near
wide_lessened-floors-requires-clause-near c =
    let cs = c.args.corners.now in
    let n = c.value_of-in-loop-i.result in
    let d = c.denominator-in-loop-i.result in
    let among : Contains cs c.index-corners-i.result = (c.loop-i.i, omega arith, sym c.index-corners-i.is) in
    let fn : FitsSigned w128 n = search rules in
    let fd : FitsSigned w128 d = search rules in
    let en : n ≡ value (form_of c.args.w) c.index-corners-i.result = c.value_of-in-loop-i.ensures ∙ ap (λ (f : LinearForm). value f c.index-corners-i.result) c.step_form-form.ensures in
    simp to_z-of_z (corner_ratio (2 ^ 37) (2 ^ 77) cs c.args.w _ n d c.requires.near c.requires.sized c.requires.narrow.0 c.requires.narrow.1 among en c.denominator-in-loop-i.ensures).0

pub loop-i-preserved : goal.loop-i-preserved
loop-i-preserved c =
    let cs = c.args.corners.now in
    let n = c.value_of-in-loop-i.result in
    let d = c.denominator-in-loop-i.result in
    let fn : FitsSigned w128 n = search rules in
    let fd : FitsSigned w128 d = search rules in
    let en : n ≡ value (form_of c.args.w) c.index-corners-i.result = c.value_of-in-loop-i.ensures ∙ ap (λ (f : LinearForm). value f c.index-corners-i.result) c.step_form-form.ensures in
    let l : AreLessened (2 ^ 40) n d c.loop-i.floors c.wide_lessened-floors.result = simp to_z-of_z at c.wide_lessened-floors.ensures in
    floors_more (2 ^ 40) (form_of c.args.w) cs (2 ^ 77) c.requires.sized c.loop-i.i _ (omega arith) c.index-corners-i.is
    n d c.loop-i.floors c.wide_lessened-floors.result en c.denominator-in-loop-i.ensures c.loop-i.invariant l
