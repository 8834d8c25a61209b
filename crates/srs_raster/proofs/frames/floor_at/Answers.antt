-- A floor within 256 fits.
use Rattle.std.proofs.Common.{ℤ, subst}
use Rattle.std.proofs.Math.Facts.{to_z-of_z}
use Rattle.srs_num.specs.Floor.{IsFloor}
use Rattle.srs_raster.proofs.Extremes.{scaled_fits, floor_fits}
use Rattle.srs_raster.proofs.frames.floor_at.Goals as goal

pub returns-clause-floor : goal.returns-clause-floor
returns-clause-floor c =
    let s = scaled_fits c.args.v.now c.scaled.result c.requires c.scaled.ensures.sized.1 in
    let is : IsFloor c.scaled.result c.args.v.now.d c.floor_div.result = simp (to_z-of_z s.n128, to_z-of_z s.d64, to_z-of_z s.d128) at c.floor_div.ensures.floor in
    let k = floor_fits _ _ c.floor_div.result is c.scaled.ensures.sized.0 c.scaled.ensures.low c.scaled.ensures.high in
    simp (to_z-of_z k.in64, to_z-of_z k.in128) (subst (λ (m : ℤ). IsFloor m c.args.v.now.d c.floor_div.result) c.scaled.ensures.value is)

pub returns-clause-narrow : goal.returns-clause-narrow
returns-clause-narrow c =
    let s = scaled_fits c.args.v.now c.scaled.result c.requires c.scaled.ensures.sized.1 in
    let is : IsFloor c.scaled.result c.args.v.now.d c.floor_div.result = simp (to_z-of_z s.n128, to_z-of_z s.d64, to_z-of_z s.d128) at c.floor_div.ensures.floor in
    let k = floor_fits _ _ c.floor_div.result is c.scaled.ensures.sized.0 c.scaled.ensures.low c.scaled.ensures.high in
    simp (to_z-of_z k.in64, to_z-of_z k.in128) k.narrow
