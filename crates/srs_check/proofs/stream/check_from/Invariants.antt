use Rattle.std.proofs.Common.{◌≤◌, ◌+◌, ◌-◌, length}
use Rattle.srs_check.proofs.Streaming.{HasFed}
use Rattle.srs_check.proofs.stream.check_from.Given as goal

abbrev pub invariant-loop-check : goal.invariant-loop-check
invariant-loop-check g l = record {
  fed : HasFed (g.S.Source.left l.fn.source) (g.S.Source.left l.source) l.limit l.feed l.check;
  later : g.S.Source.faults l.fn.source ≤ g.S.Source.faults l.source;
}

abbrev pub decreases-loop-check : goal.decreases-loop-check
decreases-loop-check g l = (l.feed.limit - l.feed.taken) + length l.feed.held
