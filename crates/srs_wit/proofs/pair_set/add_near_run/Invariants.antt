use Rattle.std.proofs.Common.{◌++◌}
use Rattle.srs_wit.specs.PairSets.{AreIndexed}
use Rattle.srs_wit.specs.Runs.{run_pair, AddsAll}
use Rattle.srs_wit.proofs.pair_set.add_near_run.Given as goal

abbrev pub invariant-loop-place : goal.invariant-loop-place
invariant-loop-place l = record {
  indexed : AreIndexed l.side (l.followed.items ++ l.waiting.items) l.marks l.far.keys;
  added : AddsAll (l.followed.items ++ l.fn.waiting.items) (run_pair l.run) l.place (l.followed.items ++ l.waiting.items) l.fn.waiting.items l.waiting.items;
}
