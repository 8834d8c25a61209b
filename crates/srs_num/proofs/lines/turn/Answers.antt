use Rattle.std.proofs.Common.{FitsSigned, w64, ◌≡◌, ◌*ℤ◌, ◌-ℤ◌, ◌^◌, lit<}
use Rattle.std.specs.Int.{w128}
use Rattle.std.proofs.lemmas.Int.{to_z-of_z}
use Rattle.srs_num.proofs.Ranges.{small_fits}
use Rattle.srs_num.proofs.Crossings.{coefficient_fits, turn_is}
use Rattle.srs_num.proofs.lines.turn.Goals as goal

pub returns : goal.returns
returns c =
    let f = c.args.f.now in
    let g = c.args.g.now in
    let x = c.parts-a.ensures in
    let y = c.parts-c.ensures in
    let fa : FitsSigned w64 f.a = coefficient_fits _ x.sized.a_range in
    let fb : FitsSigned w64 f.b = coefficient_fits _ x.sized.b_range in
    let ga : FitsSigned w64 g.a = coefficient_fits _ y.sized.a_range in
    let gb : FitsSigned w64 g.b = coefficient_fits _ y.sized.b_range in
    let fd : FitsSigned w128 c.minor.result = small_fits w128 c.minor.result (2 ^ 77) c.minor.ensures.size (lit< tt) in
    let e : c.minor.result ≡ f.a *ℤ g.b -ℤ f.b *ℤ g.a = simp (x.a, x.b, y.a, y.b, to_z-of_z) at c.minor.ensures.value in
    simp to_z-of_z (turn_is f g c.minor.result e)
