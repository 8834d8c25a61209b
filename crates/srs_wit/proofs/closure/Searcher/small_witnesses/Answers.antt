use Rattle.std.proofs.Common.{sym, subst}
use Rattle.srs_wit.specs.Listing.{AreAllWitnesses}
use Rattle.srs_wit.proofs.Closing.{small_from_all}
use Rattle.srs_wit.specs.PairSets.{all_of}
use Rattle.srs_wit.proofs.closure.Searcher.small_witnesses.Goals as goal

pub new-requires : goal.new-requires
new-requires c = (c.in_ok-ascending.ensures c.args.cell.now c.args.w c.in_default.ensures.all).ascending

pub returns-clause-list : goal.returns-clause-list
returns-clause-list c = subst (AreAllWitnesses c.args.cell.now) (sym c.new.ensures) (c.in_ok-ascending.ensures c.args.cell.now c.args.w c.in_default.ensures.all)

pub returns-clause-small : goal.returns-clause-small
returns-clause-small c = small_from_all c.args.cell.now c.args.w (all_of c.find_all.new.self.found) c.find_all.new.self.origin c.in_default.ensures.all
