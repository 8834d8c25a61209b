use Rattle.srs_wit.proofs.Indexing.{indexed_next}
use Rattle.srs_wit.proofs.pair_set.PairSet.next.Goals as goal

pub invariant_of-self-in-Ok : goal.invariant_of-self-in-Ok
invariant_of-self-in-Ok c =
    let s = c.self.inside in
    indexed_next s.side s.followed.items s.waiting.items c.push.new.self.items c.pop.new.self.items s.near.words.items s.far.keys c.in-Some.w c.in-Some.ensures.items c.in-Ok.ensures.items c.self.invariant
