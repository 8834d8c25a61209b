-- The descent has come to the cell at the first sides of the path.
use Rattle.std.proofs.Common.{take}
use Rattle.srs_tree.specs.Nodes.{IsPlaceOf}
use Rattle.srs_tree.proofs.nodes.find.Given as goal

abbrev pub invariant-loop-i : goal.invariant-loop-i
invariant-loop-i l = IsPlaceOf l.nodes (take l.i l.path) l.at
