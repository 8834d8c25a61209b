-- The answers at the first points are counted.
use Rattle.std.proofs.Common.{take}
use Rattle.srs_tree.specs.Snapshots.{tree_of}
use Rattle.srs_tool.specs.Benches.{CountsAnswers}
use Rattle.srs_tool.proofs.bench.uncounted.Given as goal

abbrev pub invariant-loop-r : goal.invariant-loop-r
invariant-loop-r g l =
    CountsAnswers l.version.region (tree_of l.version) (take l.r-index l.points) l.counts
