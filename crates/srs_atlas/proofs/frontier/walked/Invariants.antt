-- What was listed comes before the slot.
use Rattle.std.proofs.Common.{◌-◌, length, vec_len}
use Rattle.srs_atlas.proofs.Walking.{IsWalk}
use Rattle.srs_atlas.proofs.frontier.walked.Given as goal

abbrev pub invariant-loop-slot : goal.invariant-loop-slot
invariant-loop-slot l = IsWalk l.cells l.list.items l.slot

abbrev pub decreases-loop-slot : goal.decreases-loop-slot
decreases-loop-slot l = length l.cells - length l.list.items
