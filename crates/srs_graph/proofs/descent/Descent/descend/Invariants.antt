use Rattle.std.proofs.Common.{◌≡◌, true}
use Rattle.srs_graph.specs.Descents.{is_entered, left_over, StayEntered, IsDescent}
use Rattle.srs_graph.proofs.descent.Descent.descend.Given as goal

abbrev pub invariant-loop-top : goal.invariant-loop-top
invariant-loop-top l = record {
  descent : IsDescent l.pairs l.rows l.marks l.self.entered.items l.self.path.items;
  here : is_entered l.self.entered.items l.start ≡ true;
  stay : StayEntered l.fn.self.entered.items l.self.entered.items;
}

abbrev pub decreases-loop-top : goal.decreases-loop-top
decreases-loop-top l = left_over l.self.entered.items l.self.path.items
