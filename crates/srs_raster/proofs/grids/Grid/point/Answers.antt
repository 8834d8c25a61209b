-- The numbers of the point are small.
use Rattle.std.proofs.Common.{◌≡◌, ◌^◌, ℤ, pos, ◌*ℤ◌, FitsSigned, w64, lit<, arith, ap, ◌∙◌}
use Rattle.std.proofs.lemmas.Int.{ints, to_z-of_z}
use Rattle.srs_num.specs.Points.{IsWithin, IsPtSized}
use Rattle.srs_num.proofs.Ranges.{small_fits}
use Rattle.srs_raster.proofs.Spans.{point_sized}
use Rattle.srs_raster.proofs.grids.Grid.point.Goals as goal

pub unreachable-requires : goal.unreachable-requires
unreachable-requires c =
    let w = c.args.self.now.width in
    let h = c.args.self.now.height in
    let x = c.across.result in
    let y = c.up.result in
    let columns = c.requires.grid.columns in
    let rows = c.requires.grid.rows in
    let fx : FitsSigned w64 x = small_fits w64 x (2 ^ 20) c.across.ensures.within (lit< tt) in
    let fy : FitsSigned w64 y = small_fits w64 y (2 ^ 20) c.up.ensures.within (lit< tt) in
    let p : c.times-p.result ≡ pos h *ℤ x = simp to_z-of_z at c.times-p.ensures in
    let q : c.times-q.result ≡ pos w *ℤ y = simp to_z-of_z at c.times-q.ensures in
    let t : c.times.result ≡ pos w *ℤ pos 128 = c.times.ensures in
    let tw : IsWithin (2 ^ 20) c.times.result = omega (arith, ints, columns.1) in
    let ft : FitsSigned w64 c.times.result = small_fits w64 c.times.result (2 ^ 20) tw (lit< tt) in
    let s : c.times-d.result ≡ pos h *ℤ c.times.result = simp to_z-of_z at c.times-d.ensures in
    let d : c.times-d.result ≡ pos h *ℤ (pos w *ℤ pos 128) = s ∙ ap (λ (z : ℤ). pos h *ℤ z) t in
    let sized : IsPtSized (record { p = c.times-p.result; q = c.times-q.result; d = c.times-d.result })
    = point_sized w h x y c.times-p.result c.times-q.result c.times-d.result columns.0 columns.1 rows.0 rows.1 c.across.ensures.within c.up.ensures.within p q d in
    let f1 : FitsSigned w64 c.times-p.result = small_fits w64 c.times-p.result (2 ^ 42) sized.p_range (lit< tt) in
    let f2 : FitsSigned w64 c.times-q.result = small_fits w64 c.times-q.result (2 ^ 42) sized.q_range (lit< tt) in
    let f3 : FitsSigned w64 c.times-d.result = small_fits w64 c.times-d.result (2 ^ 40) sized.d_range (lit< tt) in
    c.in_default.ensures.none (simp to_z-of_z sized)
