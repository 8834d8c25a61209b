use Rattle.srs_wit.proofs.Indexing.{waits_near}
use Rattle.srs_wit.proofs.pair_set.insert_near.Goals as goal

pub returns-clause-indexed : goal.returns-clause-indexed
returns-clause-indexed c = λ side followed far number x.
    rw c.in_ok-push.ensures.items (waits_near side followed c.args.waiting.now.items c.args.marks.now far c.args.v x c.args.k c.mark.new.words number c.mark.ensures)
