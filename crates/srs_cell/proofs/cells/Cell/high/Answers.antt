use Rattle.std.proofs.Common.{FitsSigned, ◌^◌, pos, ◌-ℤ◌, lit<}
use Rattle.std.specs.Int.{w128}
use Rattle.std.proofs.lemmas.Int.{to_z-of_z}
use Rattle.srs_num.proofs.Ranges.{small_fits, within_turned}
use Rattle.srs_cell.proofs.Infima.{high_is}
use Rattle.srs_cell.proofs.cells.Cell.high.Goals as goal

pub returns-clause-high : goal.returns-clause-high
returns-clause-high c =
    let b = c.low-low.result in
    let n : FitsSigned w128 b.num = small_fits w128 b.num (2 ^ 117) c.low-low.ensures.sized.num_range (lit< tt) in
    let t : FitsSigned w128 (pos 0 -ℤ b.num) = small_fits w128 _ (2 ^ 117) (within_turned (2 ^ 117) b.num c.low-low.ensures.sized.num_range) (lit< tt) in
    let d : FitsSigned w128 b.den = small_fits w128 b.den (2 ^ 77) c.low-low.ensures.sized.den_range (lit< tt) in
    simp to_z-of_z (high_is c.args.self.now c.args.f.now b (rw c.opposite.ensures at c.low-low.ensures.low))
