use Rattle.std.proofs.Common.{FitsSigned, w64, take_all, ◌≤◌, length, ◌*ℤ◌, ◌<ℤ◌, sym, ◌∙◌, arith}
use Rattle.std.proofs.lemmas.Bool.{false≢true}
use Rattle.std.proofs.lemmas.List.Elements.{All-more}
use Rattle.std.proofs.lemmas.Int.{to_z-of_z}
use Rattle.srs_num.specs.Points.{value}
use Rattle.srs_cell.proofs.Least.{not_up_to}
use Rattle.srs_cell.proofs.bounds.first_of.Goals as goal

pub loop-corner-preserved : goal.loop-corner-preserved
loop-corner-preserved c =
    let f = c.args.form.now in
    let cs = c.args.corners.now in
    let x = c.corner-item.result in
    let fm : FitsSigned w64 c.args.most = c.ranges.most in
    let old = simp to_z-of_z at c.loop-corner.invariant in
    let up = simp to_z-of_z at c.is_up_to.ensures in
    let here : (c.args.most *ℤ x.d) <ℤ value f x = not_up_to _ _ (λ h. false≢true (sym c.if-is_up_to.false ∙ up.1 h)) in
    simp to_z-of_z (All-more (λ e. (c.args.most *ℤ e.d) <ℤ value f e) cs c.loop-corner.corner-index x c.loop-corner-test.true old (rw (sym c.corner-item.is) here))

pub returns : goal.returns
returns c =
    let past : length c.args.corners.now ≤ c.loop-corner.corner-index = omega arith in
    let fm : FitsSigned w64 c.args.most = c.ranges.most in
    rw (take_all c.loop-corner.corner-index c.args.corners.now past) at (simp to_z-of_z at c.loop-corner.invariant)
