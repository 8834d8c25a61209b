use Rattle.std.proofs.Common.{rules, FitsSigned, w64, ◌^◌, ◌*◌, ◌*ℤ◌, ap, lit<}
use Rattle.std.specs.Int.{w128}
use Rattle.std.proofs.lemmas.Int.{to_z-of_z}
use Rattle.srs_num.proofs.Ranges.{small_fits, within_product}
use Rattle.srs_cell.proofs.OneSided.{le_test}
use Rattle.srs_cell.proofs.Least.{denominator_fits}
use Rattle.srs_cell.proofs.bounds.is_up_to.Goals as goal

pub returns : goal.returns
returns c =
    let corner = c.args.corner.now in
    let most = c.args.most in
    let d = c.denominator.result in
    let n = c.value_of.result in
    let m6 : FitsSigned w64 most = small_fits w64 most (2 ^ 40) c.requires.most (lit< tt) in
    let m1 : FitsSigned w128 most = small_fits w128 most (2 ^ 40) c.requires.most (lit< tt) in
    let fd : FitsSigned w128 d = denominator_fits d corner c.denominator.ensures c.requires.corner in
    let fn : FitsSigned w128 n = search rules in
    let product : FitsSigned w128 (most *ℤ d) = small_fits w128 _ (2 ^ 40 * 2 ^ 77)
    (within_product most d (2 ^ 40) (2 ^ 77) c.requires.most (rw c.denominator.ensures c.requires.corner.d_range)) (lit< tt) in
    simp to_z-of_z (le_test n (most *ℤ d) _ _ c.value_of.ensures (ap (λ x. most *ℤ x) c.denominator.ensures))
