use Rattle.srs_map.proofs.Races.{IsApproach}
use Rattle.srs_map.proofs.chase.start.Given as goal

abbrev pub invariant-loop-steps : goal.invariant-loop-steps
invariant-loop-steps l = IsApproach l.r l.fn.z l.meeting.steps l.steps l.first l.second
