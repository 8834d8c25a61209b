use Rattle.srs_map.proofs.Races.{IsLap}
use Rattle.srs_map.proofs.chase.race.Given as goal

abbrev pub invariant-loop-i : goal.invariant-loop-i
invariant-loop-i l = IsLap l.r l.fn.z l.i l.tortoise l.hare
