use Rattle.srs_wit.proofs.Closing.{over_not_small, long_not_small}
use Rattle.srs_wit.proofs.closure.shows_large.Goals as goal

pub returns-in-Over : goal.returns-in-Over
returns-in-Over c R W ws met i = let h = rw c.in-Over.is at i in over_not_small R W ws met h.0 h.1

pub returns-in-Long : goal.returns-in-Long
returns-in-Long c R W ws met i = let h = rw c.in-Long.is at i in long_not_small R W _ _ h
