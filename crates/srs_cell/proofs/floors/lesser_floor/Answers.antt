use Rattle.std.proofs.Common.{◌≡◌, FitsSigned, w64, ◌^◌, ◌*◌, ◌*ℤ◌, ◌<ℤ◌, ◌≤ℤ◌, lit<}
use Rattle.std.specs.Int.{int_div_euclid}
use Rattle.std.proofs.lemmas.Int.{to_z-of_z}
use Rattle.srs_num.proofs.Ranges.{small_fits, within_product}
use Rattle.srs_cell.proofs.Lessening.{read_lt, read_ge, lesser_divided, lesser_kept, quotient_floor, quotient_range}
use Rattle.srs_cell.proofs.floors.lesser_floor.Goals as goal

pub returns-then-n-least : goal.returns-then-n-least
returns-then-n-least c =
    let n = c.args.n in
    let d = c.args.d in
    let least = c.args.least in
    let k = c.div_euclid.result in
    let fn : FitsSigned w64 n = c.ranges.n in
    let fd : FitsSigned w64 d = c.ranges.d in
    let fl : FitsSigned w64 least = c.ranges.least in
    let e : k ≡ int_div_euclid n d = simp to_z-of_z at c.div_euclid.ensures in
    let fk : FitsSigned w64 k = small_fits w64 k (2 ^ 23) (quotient_range (2 ^ 23) n d c.requires.near k e) (lit< tt) in
    let product : FitsSigned w64 (least *ℤ d) = small_fits w64 _ (2 ^ 23 * 2 ^ 38) (within_product least d (2 ^ 23) (2 ^ 38) c.requires.least c.requires.size) (lit< tt) in
    let lt : n <ℤ (least *ℤ d) = read_lt _ _ (simp to_z-of_z at c.if-n-least.true) in
    simp to_z-of_z (lesser_divided (2 ^ 23) n d c.requires.near least k (quotient_floor (2 ^ 23) n d c.requires.near k e) lt)

pub returns-else-n-least : goal.returns-else-n-least
returns-else-n-least c =
    let n = c.args.n in
    let d = c.args.d in
    let least = c.args.least in
    let fn : FitsSigned w64 n = c.ranges.n in
    let fd : FitsSigned w64 d = c.ranges.d in
    let fl : FitsSigned w64 least = c.ranges.least in
    let product : FitsSigned w64 (least *ℤ d) = small_fits w64 _ (2 ^ 23 * 2 ^ 38) (within_product least d (2 ^ 23) (2 ^ 38) c.requires.least c.requires.size) (lit< tt) in
    let le : (least *ℤ d) ≤ℤ n = read_ge _ _ (simp to_z-of_z at c.if-n-least.false) in
    simp to_z-of_z (lesser_kept (2 ^ 23) n d c.requires.near least c.requires.least le)
