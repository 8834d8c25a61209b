use Rattle.std.proofs.Common.{◌<◌, length}
use Rattle.srs_crew.specs.Rounds.{HasWorked}
use Rattle.srs_crew.proofs.workers.settle_drawn.Given as goal

abbrev pub invariant-loop : goal.invariant-loop
invariant-loop g l = HasWorked l.atlas l.shift l.initial.pass.seen l.pass l.seat × (l.drawn < length l.shift.cells)
