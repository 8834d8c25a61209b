use Rattle.std.proofs.Common.{◌+◌, ◌^◌, ◌≤◌, FitsSigned, w64, pos, ◌+ℤ◌, ◌≤ℤ◌, ◌<ℤ◌, lit<, lit≤, arith}
use Rattle.std.specs.Int.Signed.{shr_z}
use Rattle.std.proofs.lemmas.Int.{to_z-of_z}
use Rattle.srs_num.specs.Points.{IsWithin}
use Rattle.srs_num.proofs.Ranges.{small_fits, within_sum}
use Rattle.srs_cell.proofs.Lessening.{read_lt, read_ge}
use Rattle.srs_grid.proofs.Powers.{power_within}
use Rattle.srs_grid.proofs.Shifts.{shift_floor, shift_within}
use Rattle.srs_grid.proofs.Passing.{first_passed, none_passed}
use Rattle.srs_grid.proofs.floor_ranges.FloorRange.first_level.Goals as goal

pub returns-then-below-self : goal.returns-then-below-self
returns-then-below-self c = λ R f g times floors.
    let s = c.args.self.now in
    let n = 2 ^ c.args.finer in
    let some : 1 ≤ n = power_within 0 c.args.finer (omega arith) in
    let below : IsWithin (2 ^ 41) (shr_z s.low n) = shift_within (2 ^ 41) s.low n c.requires.sized in
    let fl : FitsSigned w64 s.low = small_fits w64 _ (2 ^ 41) c.requires.sized (lit< tt) in
    let fh : FitsSigned w64 s.high = small_fits w64 _ (2 ^ 41) floors.high_range (lit< tt) in
    let fb : FitsSigned w64 (shr_z s.low n) = small_fits w64 _ (2 ^ 41) below (lit< tt) in
    let fa : FitsSigned w64 (shr_z s.high n) = small_fits w64 _ (2 ^ 41) (shift_within (2 ^ 41) s.high n floors.high_range) (lit< tt) in
    let fk : FitsSigned w64 (shr_z s.low n +ℤ pos 1) = small_fits w64 _ (2 ^ 41 + 1) (within_sum (shr_z s.low n) (pos 1) (2 ^ 41) 1 below (lit≤ tt)) (lit< tt) in
    let lt : shr_z s.low n <ℤ shr_z s.high n = read_lt _ _ (simp to_z-of_z at c.if-below-self.true) in
    simp to_z-of_z (first_passed R f g n some times s floors _ _ (shift_floor s.low n some) (shift_floor s.high n some) lt)

pub returns-else-below-self : goal.returns-else-below-self
returns-else-below-self c = λ R f g times floors.
    let s = c.args.self.now in
    let n = 2 ^ c.args.finer in
    let some : 1 ≤ n = power_within 0 c.args.finer (omega arith) in
    let fl : FitsSigned w64 s.low = small_fits w64 _ (2 ^ 41) c.requires.sized (lit< tt) in
    let fh : FitsSigned w64 s.high = small_fits w64 _ (2 ^ 41) floors.high_range (lit< tt) in
    let fb : FitsSigned w64 (shr_z s.low n) = small_fits w64 _ (2 ^ 41) (shift_within (2 ^ 41) s.low n c.requires.sized) (lit< tt) in
    let fa : FitsSigned w64 (shr_z s.high n) = small_fits w64 _ (2 ^ 41) (shift_within (2 ^ 41) s.high n floors.high_range) (lit< tt) in
    let le : shr_z s.high n ≤ℤ shr_z s.low n = read_ge _ _ (simp to_z-of_z at c.if-below-self.false) in
    none_passed R f g n some times s floors _ _ (shift_floor s.low n some) (shift_floor s.high n some) le
