use Rattle.std.proofs.Common.{◌≡◌, ◌+◌, ◌-◌, ◌≤◌}
use Rattle.srs_text.specs.Windows.{TakesIn}
use Rattle.srs_text.proofs.feeds.Intake.advance.Given as goal

abbrev pub invariant-loop-self : goal.invariant-loop-self
invariant-loop-self g l = record {
  taken : TakesIn (g.S.Source.left l.fn.source) (g.S.Source.left l.source) l.fn.self.taken l.fn.self.window.held l.self.taken l.self.window.held;
  within : l.self.taken ≤ l.self.limit;
  limit : l.self.limit ≡ l.fn.self.limit;
  later : g.S.Source.faults l.fn.source ≤ g.S.Source.faults l.source;
}

abbrev pub decreases-loop-self : goal.decreases-loop-self
decreases-loop-self g l = l.self.limit + 1 - l.self.taken
