-- The first characters of the row were written.
use Rattle.srs_tree.specs.Snapshots.{tree_of}
use Rattle.srs_raster.proofs.Rows.{HasPart}
use Rattle.srs_raster.proofs.maps.put_row.Given as goal

abbrev pub invariant-loop-i : goal.invariant-loop-i
invariant-loop-i g l = HasPart l.v.region (tree_of l.v) l.grid l.j l.i l.initial.text l.text
