-- One row more.
use Rattle.srs_tree.specs.Snapshots.{tree_of}
use Rattle.srs_raster.proofs.Rows.{text_more}
use Rattle.srs_raster.proofs.maps.drawn.Goals as goal

pub loop-j-preserved : goal.loop-j-preserved
loop-j-preserved g c = text_more c.args.v.now.region (tree_of c.args.v.now) c.args.grid.now c.loop-j.j c.loop-j.text c.put_row.new.text c.loop-j.invariant c.in_ok-put_row.ensures
