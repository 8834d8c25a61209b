use Rattle.srs_wit.specs.PairSets.{all_of, HasOneMore}
use Rattle.srs_wit.specs.Search.{Adds}
use Rattle.srs_wit.proofs.Adding.{adds_one, on_ok_then, upper_narrow}
use Rattle.srs_wit.proofs.closure.Search.add.Goals as goal

pub insert-requires : goal.insert-requires
insert-requires c = upper_narrow c.args.v c.in-Some.u c.in-Some.ensures c.requires

pub returns : goal.returns
returns c =
    let s = c.args.self.now in
    let new = c.insert.new.self in
    on_ok_then c.insert.result (HasOneMore s.found c.in-Some.u new) (Adds (all_of s.found) s.origin c.args.v (all_of new) s.origin s.found.waiting new.waiting)
    (adds_one s.found new s.origin c.args.v c.in-Some.u c.in-Some.ensures c.requires) c.insert.ensures
