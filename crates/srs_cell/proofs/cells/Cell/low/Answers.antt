use Rattle.std.proofs.Common.{FitsSigned, ◌^◌, lit<}
use Rattle.std.specs.Int.{w128}
use Rattle.std.proofs.lemmas.Int.{to_z-of_z}
use Rattle.srs_num.specs.Points.{IsPointWithin}
use Rattle.srs_num.proofs.Ranges.{small_fits}
use Rattle.srs_cell.proofs.Least.{sized_among, denominator_fits}
use Rattle.srs_cell.proofs.Infima.{low_is, bound_sized, least_in_halves}
use Rattle.srs_cell.proofs.cells.Cell.low.Goals as goal

pub returns-clause-low : goal.returns-clause-low
returns-clause-low c =
    let cell = c.corners-corners.ensures in
    let corner = c.least_corner-least.ensures in
    let least = c.least_corner-least.result in
    let sized : IsPointWithin (2 ^ 77) least = sized_among _ least cell.1.corners.sized corner.among in
    let n : FitsSigned w128 c.value_at.result = small_fits w128 _ (2 ^ 117) c.value_at.ensures.sized (lit< tt) in
    let d : FitsSigned w128 c.parts-den.result.2 = denominator_fits _ least c.parts-den.ensures.d sized in
    let inside = rw c.region.ensures.value at c.is_inside.ensures in
    simp to_z-of_z (low_is c.args.self.now _ cell.0 cell.1 c.args.f.now least corner _ c.least_sum-total.ensures
    c.value_at.result c.parts-den.result.2 c.is_inside.result c.value_at.ensures.value c.parts-den.ensures.d inside.0 inside.1)

pub returns-clause-sized : goal.returns-clause-sized
returns-clause-sized c =
    let cell = c.corners-corners.ensures in
    let least = c.least_corner-least.result in
    let sized : IsPointWithin (2 ^ 77) least = sized_among _ least cell.1.corners.sized c.least_corner-least.ensures.among in
    let n : FitsSigned w128 c.value_at.result = small_fits w128 _ (2 ^ 117) c.value_at.ensures.sized (lit< tt) in
    let d : FitsSigned w128 c.parts-den.result.2 = denominator_fits _ least c.parts-den.ensures.d sized in
    simp to_z-of_z (bound_sized c.value_at.result c.parts-den.result.2 c.is_inside.result least c.value_at.ensures.sized c.parts-den.ensures.d sized)

pub is_inside-requires : goal.is_inside-requires
is_inside-requires c =
    let cell = c.corners-corners.ensures in
    rw c.region.ensures.value (least_in_halves c.args.self.now _ cell.1.corners.hull.inside c.args.f.now c.least_corner-least.result _ c.least_sum-total.ensures)

pub value_at-requires : goal.value_at-requires
value_at-requires c = let cell = c.corners-corners.ensures in sized_among _ c.least_corner-least.result cell.1.corners.sized c.least_corner-least.ensures.among
