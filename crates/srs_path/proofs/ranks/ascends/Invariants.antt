use Rattle.std.specs.List.{AllAdjacentBelow}
use Rattle.srs_path.specs.Core.{Precedes}
use Rattle.srs_path.proofs.ranks.ascends.Given as goal

abbrev pub invariant-loop-i : goal.invariant-loop-i
invariant-loop-i l = AllAdjacentBelow Precedes l.pairs l.i
