use Rattle.std.proofs.Common.{FitsSigned, w64, ◌-ℤ◌, ◌^◌, lit<, pos}
use Rattle.std.proofs.lemmas.Int.{to_z-of_z}
use Rattle.srs_num.proofs.Ranges.{small_fits, within_turned}
use Rattle.srs_num.proofs.Identities.{opposite_is}
use Rattle.srs_num.proofs.forms.Form.opposite.Goals as goal

pub returns : goal.returns
returns c =
    let a = c.self.inside.a in
    let b = c.self.inside.b in
    let k = c.self.inside.c in
    let fa : FitsSigned w64 a = small_fits w64 a (2 ^ 38) c.self.invariant.a_range (lit< tt) in
    let fb : FitsSigned w64 b = small_fits w64 b (2 ^ 38) c.self.invariant.b_range (lit< tt) in
    let fk : FitsSigned w64 k = small_fits w64 k (2 ^ 38) c.self.invariant.c_range (lit< tt) in
    let ga : FitsSigned w64 (pos 0 -ℤ a) = small_fits w64 (pos 0 -ℤ a) (2 ^ 38) (within_turned (2 ^ 38) a c.self.invariant.a_range) (lit< tt) in
    let gb : FitsSigned w64 (pos 0 -ℤ b) = small_fits w64 (pos 0 -ℤ b) (2 ^ 38) (within_turned (2 ^ 38) b c.self.invariant.b_range) (lit< tt) in
    let gk : FitsSigned w64 (pos 0 -ℤ k) = small_fits w64 (pos 0 -ℤ k) (2 ^ 38) (within_turned (2 ^ 38) k c.self.invariant.c_range) (lit< tt) in
    rw (← c.self.view_is) (simp to_z-of_z (opposite_is a b k))
