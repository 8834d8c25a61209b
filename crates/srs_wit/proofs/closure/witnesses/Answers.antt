use Rattle.std.proofs.Common.{sym, subst}
use Rattle.srs_wit.specs.Listing.{AreAllWitnesses}
use Rattle.srs_wit.proofs.Closing.{small_from_all}
use Rattle.srs_wit.specs.PairSets.{all_of}
use Rattle.srs_wit.proofs.closure.witnesses.Goals as goal

pub new-requires-in-Ok-ascending : goal.new-requires-in-Ok-ascending
new-requires-in-Ok-ascending c = (c.in-Ok-ascending.ensures c.args.cell.now c.args.w c.in_default-find_all.ensures.all).ascending

pub returns-in-Ok-ascending-clause-list : goal.returns-in-Ok-ascending-clause-list
returns-in-Ok-ascending-clause-list c =
    subst (AreAllWitnesses c.args.cell.now) (sym c.new-in-Ok-ascending.ensures) (c.in-Ok-ascending.ensures c.args.cell.now c.args.w c.in_default-find_all.ensures.all)

pub returns-in-Ok-ascending-clause-small : goal.returns-in-Ok-ascending-clause-small
returns-in-Ok-ascending-clause-small c = small_from_all c.args.cell.now c.args.w (all_of c.find_all.new.self.found) c.find_all.new.self.origin c.in_default-find_all.ensures.all

pub returns-in-Err-clause-large : goal.returns-in-Err-clause-large
returns-in-Err-clause-large c = c.refusal.ensures c.args.cell.now c.in-Err.ensures.stop
