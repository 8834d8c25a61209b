-- The open cells of the first spots are listed.
use Rattle.std.proofs.Common.{◌≡◌, take}
use Rattle.srs_tree.specs.Nodes.{open_cells}
use Rattle.srs_tree.proofs.nodes.open_in.Given as goal

abbrev pub invariant-loop-i : goal.invariant-loop-i
invariant-loop-i l = l.cells.items ≡ open_cells (take l.i l.nodes)
