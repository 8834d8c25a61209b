-- The two products and their sum are small.
use Rattle.std.proofs.Math.Facts.{to_z-of_z}
use Rattle.srs_raster.proofs.Spans.{across_fits}
use Rattle.srs_raster.proofs.grids.Grid.across.Goals as goal

pub overflow_add-result : goal.overflow_add-result
overflow_add-result c =
    let f = across_fits c.args.self.now c.args.i c.requires.grid c.requires.column in
    simp (c.times.ensures, c.times-2.ensures, to_z-of_z f.low64, to_z-of_z f.high64, to_z-of_z f.span64, to_z-of_z f.first, to_z-of_z f.second) f.all

pub returns-clause-value : goal.returns-clause-value
returns-clause-value c =
    let f = across_fits c.args.self.now c.args.i c.requires.grid c.requires.column in
    simp (c.times.ensures, c.times-2.ensures, to_z-of_z f.low64, to_z-of_z f.high64, to_z-of_z f.span64, to_z-of_z f.first, to_z-of_z f.second, to_z-of_z f.all)

pub returns-clause-within : goal.returns-clause-within
returns-clause-within c =
    let f = across_fits c.args.self.now c.args.i c.requires.grid c.requires.column in
    simp (c.times.ensures, c.times-2.ensures, to_z-of_z f.low64, to_z-of_z f.high64, to_z-of_z f.span64, to_z-of_z f.first, to_z-of_z f.second, to_z-of_z f.all) f.within
