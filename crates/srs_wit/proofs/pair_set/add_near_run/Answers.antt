use Rattle.std.proofs.Common.{◌++◌}
use Rattle.srs_wit.specs.Runs.{run_pair}
use Rattle.srs_wit.proofs.Running.{run_more}
use Rattle.srs_wit.proofs.pair_set.add_near_run.Goals as goal

pub loop-place-preserved : goal.loop-place-preserved
loop-place-preserved c =
    let followed = c.args.followed.now.items in
    let waited = c.args.waiting.now.items in
    record {
      indexed = c.insert_near.ensures.indexed c.args.side followed c.args.far.now.keys c.number_of_near.ensures c.loop-place.invariant.indexed;
      added =
          run_more (followed ++ waited) (run_pair c.args.run) c.loop-place.place followed waited c.loop-place.waiting.items c.loop-place.invariant.added c.pair-v.result c.pair-v.ensures
          c.insert_near.new.waiting.items (c.in_ok-insert_near.ensures.waiting c.args.side followed c.args.far.now.keys c.number_of_near.ensures c.loop-place.invariant.indexed);
    }

pub returns-in_err-insert_near-clause-indexed : goal.returns-in_err-insert_near-clause-indexed
returns-in_err-insert_near-clause-indexed c =
    c.insert_near.ensures.indexed c.args.side c.args.followed.now.items c.args.far.now.keys c.number_of_near.ensures c.loop-place.invariant.indexed
