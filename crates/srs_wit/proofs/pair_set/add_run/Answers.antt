use Rattle.std.proofs.Common.{◌++◌}
use Rattle.srs_wit.specs.Runs.{run_pair}
use Rattle.srs_wit.proofs.Running.{run_more}
use Rattle.srs_wit.proofs.pair_set.add_run.Goals as goal

pub loop-k-preserved : goal.loop-k-preserved
loop-k-preserved c =
    let followed = c.args.followed.now.items in
    let waited = c.args.waiting.now.items in
    record {
      indexed = c.insert.ensures.indexed;
      added =
          run_more (followed ++ waited) (run_pair c.args.run) c.loop-k.k followed waited c.loop-k.waiting.items c.loop-k.invariant.added c.pair.result c.pair.ensures
          c.insert.new.waiting.items c.in_ok-insert.ensures.waiting;
    }
