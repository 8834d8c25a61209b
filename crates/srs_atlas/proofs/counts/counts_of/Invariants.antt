use Rattle.std.proofs.Common.{◌+◌, ◌*◌, ◌≤◌, take}
use Rattle.srs_atlas.specs.Counting.{AreCounts}
use Rattle.srs_atlas.proofs.counts.counts_of.Given as goal

abbrev pub invariant-loop-event : goal.invariant-loop-event
invariant-loop-event l = AreCounts (take l.event-index l.events) l.round l.counts × (l.counts.cells ≤ 1 + 2 * l.event-index)
