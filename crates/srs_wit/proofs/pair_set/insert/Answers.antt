use Rattle.srs_wit.proofs.Indexing.{waits_far}
use Rattle.srs_wit.proofs.pair_set.insert.Goals as goal

pub returns-in-Some-clause-indexed : goal.returns-in-Some-clause-indexed
returns-in-Some-clause-indexed c = c.insert_near.ensures.indexed c.args.side c.args.followed.now.items c.args.far.now.keys c.in-Some.ensures c.requires.indexed

pub returns-in-Some-clause-waiting : goal.returns-in-Some-clause-waiting
returns-in-Some-clause-waiting c = c.insert_near.ensures.waiting c.args.side c.args.followed.now.items c.args.far.now.keys c.in-Some.ensures c.requires.indexed

pub returns-in-None-clause-indexed : goal.returns-in-None-clause-indexed
returns-in-None-clause-indexed c =
    let e = c.insert_far.ensures in
    waits_far c.args.side c.args.followed.now.items c.args.waiting.now.items c.args.marks.now c.args.far.now.keys c.args.v c.requires.indexed c.in-None.ensures c.insert_far.result
    c.insert_far.new.waiting.items c.insert_far.new.far.keys e.far e.waiting e.err_far e.err_waiting
