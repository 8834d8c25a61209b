use Rattle.std.proofs.Common.{FitsSigned, w64, ◌^◌, ◌*◌, ◌*ℤ◌, ◌<ℤ◌, ◌≤ℤ◌, lit<}
use Rattle.std.specs.Int.{w128}
use Rattle.std.proofs.lemmas.Int.{to_z-of_z}
use Rattle.srs_num.specs.Floor.{IsFloor}
use Rattle.srs_num.proofs.Ranges.{small_fits, within_product}
use Rattle.srs_cell.proofs.Lessening.{read_lt, read_ge, lesser_divided, lesser_kept}
use Rattle.srs_cell.proofs.floors.wide_lesser_floor.Goals as goal

pub returns-then-n-least : goal.returns-then-n-least
returns-then-n-least c =
    let n = c.args.n in
    let d = c.args.d in
    let least = c.args.least in
    let k = c.wide_floor.result in
    let fn : FitsSigned w128 n = c.ranges.n in
    let fd : FitsSigned w128 d = c.ranges.d in
    let fl : FitsSigned w64 least = c.ranges.least in
    let fw : FitsSigned w128 least = small_fits w128 least (2 ^ 40) c.requires.least (lit< tt) in
    let fk : FitsSigned w64 k = small_fits w64 k (2 ^ 40) c.wide_floor.ensures.range (lit< tt) in
    let floor : IsFloor n d k = simp to_z-of_z at c.wide_floor.ensures.floor in
    let product : FitsSigned w128 (least *ℤ d) = small_fits w128 _ (2 ^ 40 * 2 ^ 77) (within_product least d (2 ^ 40) (2 ^ 77) c.requires.least c.requires.size) (lit< tt) in
    let lt : n <ℤ (least *ℤ d) = read_lt _ _ (simp to_z-of_z at c.if-n-least.true) in
    simp to_z-of_z (lesser_divided (2 ^ 40) n d c.requires.near least k floor lt)

pub returns-else-n-least : goal.returns-else-n-least
returns-else-n-least c =
    let n = c.args.n in
    let d = c.args.d in
    let least = c.args.least in
    let fn : FitsSigned w128 n = c.ranges.n in
    let fd : FitsSigned w128 d = c.ranges.d in
    let fl : FitsSigned w64 least = c.ranges.least in
    let fw : FitsSigned w128 least = small_fits w128 least (2 ^ 40) c.requires.least (lit< tt) in
    let product : FitsSigned w128 (least *ℤ d) = small_fits w128 _ (2 ^ 40 * 2 ^ 77) (within_product least d (2 ^ 40) (2 ^ 77) c.requires.least c.requires.size) (lit< tt) in
    let le : (least *ℤ d) ≤ℤ n = read_ge _ _ (simp to_z-of_z at c.if-n-least.false) in
    simp to_z-of_z (lesser_kept (2 ^ 40) n d c.requires.near least c.requires.least le)
