use Rattle.std.proofs.Common.{◌-◌, length}
use Rattle.srs_wit.specs.PairSets.{all_of}
use Rattle.srs_wit.proofs.Closing.{Closing}
use Rattle.srs_wit.proofs.closure.Search.find_all.Given as goal

abbrev pub invariant-loop-w : goal.invariant-loop-w
invariant-loop-w l = Closing l.cell l.bound (all_of l.self.found) l.self.origin l.self.found.waiting

-- the pairs that may still be followed
abbrev pub decreases-loop-w : goal.decreases-loop-w
decreases-loop-w l = l.bound - length l.self.found.followed
