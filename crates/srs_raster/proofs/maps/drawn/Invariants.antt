-- The first rows were written.
use Rattle.srs_tree.specs.Snapshots.{tree_of}
use Rattle.srs_raster.specs.Maps.{IsText}
use Rattle.srs_raster.proofs.maps.drawn.Given as goal

abbrev pub invariant-loop-j : goal.invariant-loop-j
invariant-loop-j g l = IsText l.v.region (tree_of l.v) l.grid l.j l.text
