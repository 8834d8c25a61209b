-- A ceiling within 256 fits.
use Rattle.std.proofs.Common.{ℤ, subst}
use Rattle.std.proofs.Math.Facts.{to_z-of_z}
use Rattle.srs_num.specs.Floor.{IsCeiling}
use Rattle.srs_raster.proofs.Extremes.{scaled_fits, ceiling_fits}
use Rattle.srs_raster.proofs.frames.ceiling_at.Goals as goal

pub overflow_cast-result : goal.overflow_cast-result
overflow_cast-result c =
    let s = scaled_fits c.args.v.now c.scaled.result c.requires c.scaled.ensures.sized.1 in
    let is : IsCeiling c.scaled.result c.args.v.now.d c.ceil_div.result = simp (to_z-of_z s.n128, to_z-of_z s.d64, to_z-of_z s.d128) at c.ceil_div.ensures in
    let k = ceiling_fits _ _ c.ceil_div.result is c.scaled.ensures.sized.0 c.scaled.ensures.low c.scaled.ensures.high in
    simp (to_z-of_z k.in128) k.in64

pub returns-clause-ceiling : goal.returns-clause-ceiling
returns-clause-ceiling c =
    let s = scaled_fits c.args.v.now c.scaled.result c.requires c.scaled.ensures.sized.1 in
    let is : IsCeiling c.scaled.result c.args.v.now.d c.ceil_div.result = simp (to_z-of_z s.n128, to_z-of_z s.d64, to_z-of_z s.d128) at c.ceil_div.ensures in
    let k = ceiling_fits _ _ c.ceil_div.result is c.scaled.ensures.sized.0 c.scaled.ensures.low c.scaled.ensures.high in
    simp (to_z-of_z k.in64, to_z-of_z k.in128) (subst (λ (m : ℤ). IsCeiling m c.args.v.now.d c.ceil_div.result) c.scaled.ensures.value is)

pub returns-clause-narrow : goal.returns-clause-narrow
returns-clause-narrow c =
    let s = scaled_fits c.args.v.now c.scaled.result c.requires c.scaled.ensures.sized.1 in
    let is : IsCeiling c.scaled.result c.args.v.now.d c.ceil_div.result = simp (to_z-of_z s.n128, to_z-of_z s.d64, to_z-of_z s.d128) at c.ceil_div.ensures in
    let k = ceiling_fits _ _ c.ceil_div.result is c.scaled.ensures.sized.0 c.scaled.ensures.low c.scaled.ensures.high in
    simp (to_z-of_z k.in64, to_z-of_z k.in128) k.narrow
