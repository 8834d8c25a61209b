use Rattle.srs_map.proofs.Races.{IsRound}
use Rattle.srs_map.proofs.chase.period.Given as goal

abbrev pub invariant-loop-l : goal.invariant-loop-l
invariant-loop-l l = IsRound l.r l.w l.l l.pair
