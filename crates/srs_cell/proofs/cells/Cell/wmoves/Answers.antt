use Rattle.std.proofs.Common.{FitsSigned, w64, ◌^◌, pos, ◌-ℤ◌, subst, sym, lit<}
use Rattle.std.proofs.lemmas.Int.{to_z-of_z}
use Rattle.srs_num.proofs.Ranges.{small_fits, within_turned}
use Rattle.srs_cell.specs.Moves.{LeadsBackTo, AreMoves}
use Rattle.srs_cell.proofs.LeastFloors.{moves_back}
use Rattle.srs_cell.proofs.Lessening.{turned}
use Rattle.srs_cell.proofs.cells.Cell.wmoves.Goals as goal

pub returns : goal.returns
returns c =
    let R = c.args.self.now in
    let w = c.args.w in
    let m = c.steps-span.ensures in
    let low = c.steps-span.result.low in
    let high = c.steps-span.result.high in
    let fl : FitsSigned w64 low = small_fits w64 low (2 ^ 41) m.low_range (lit< tt) in
    let fh : FitsSigned w64 high = small_fits w64 high (2 ^ 41) m.high_range (lit< tt) in
    let tl : FitsSigned w64 (pos 0 -ℤ low) = small_fits w64 _ (2 ^ 41) (within_turned (2 ^ 41) low m.low_range) (lit< tt) in
    let th : FitsSigned w64 (pos 0 -ℤ high) = small_fits w64 _ (2 ^ 41) (within_turned (2 ^ 41) high m.high_range) (lit< tt) in
    let back = moves_back R w low high (rw c.minus.ensures.value at m) in
    let is : AreMoves (LeadsBackTo R) w (pos 0 -ℤ high) (pos 0 -ℤ low) =
    subst (λ x. AreMoves (LeadsBackTo R) w x (pos 0 -ℤ low)) (sym (turned high)) (subst (AreMoves (LeadsBackTo R) w _) (sym (turned low)) back) in
    simp to_z-of_z is
