-- The two products and their difference are small.
use Rattle.std.proofs.Math.Facts.{to_z-of_z}
use Rattle.srs_raster.proofs.Spans.{up_fits}
use Rattle.srs_raster.proofs.grids.Grid.up.Goals as goal

pub overflow_sub-result : goal.overflow_sub-result
overflow_sub-result c =
    let f = up_fits c.args.self.now c.args.j c.requires.grid c.requires.row in
    simp (c.times.ensures, c.times-2.ensures, to_z-of_z f.low64, to_z-of_z f.high64, to_z-of_z f.span64, to_z-of_z f.first, to_z-of_z f.second) f.all

pub returns-clause-value : goal.returns-clause-value
returns-clause-value c =
    let f = up_fits c.args.self.now c.args.j c.requires.grid c.requires.row in
    simp (c.times.ensures, c.times-2.ensures, to_z-of_z f.low64, to_z-of_z f.high64, to_z-of_z f.span64, to_z-of_z f.first, to_z-of_z f.second, to_z-of_z f.all)

pub returns-clause-within : goal.returns-clause-within
returns-clause-within c =
    let f = up_fits c.args.self.now c.args.j c.requires.grid c.requires.row in
    simp (c.times.ensures, c.times-2.ensures, to_z-of_z f.low64, to_z-of_z f.high64, to_z-of_z f.span64, to_z-of_z f.first, to_z-of_z f.second, to_z-of_z f.all) f.within
