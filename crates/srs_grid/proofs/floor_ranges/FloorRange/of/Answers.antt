use Rattle.std.proofs.Common.{FitsSigned, w64, ◌^◌, pos, ◌-ℤ◌, lit<}
use Rattle.std.proofs.lemmas.Int.{to_z-of_z}
use Rattle.srs_num.proofs.Ranges.{small_fits, within_turned}
use Rattle.srs_grid.proofs.Turning.{floors_of_moves}
use Rattle.srs_grid.proofs.floor_ranges.FloorRange.of.Goals as goal

pub returns : goal.returns
returns c =
    let m = c.moves-low.ensures in
    let low = c.moves-low.result.0 in
    let high = c.moves-low.result.1 in
    let fl : FitsSigned w64 low = small_fits w64 _ (2 ^ 41) m.low_range (lit< tt) in
    let fh : FitsSigned w64 high = small_fits w64 _ (2 ^ 41) m.high_range (lit< tt) in
    let tl : FitsSigned w64 (pos 0 -ℤ low) = small_fits w64 _ (2 ^ 41) (within_turned (2 ^ 41) low m.low_range) (lit< tt) in
    let th : FitsSigned w64 (pos 0 -ℤ high) = small_fits w64 _ (2 ^ 41) (within_turned (2 ^ 41) high m.high_range) (lit< tt) in
    simp to_z-of_z (floors_of_moves c.args.cell.now c.args.w low high m)
