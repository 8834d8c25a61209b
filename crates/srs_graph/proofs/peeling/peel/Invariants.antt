use Rattle.std.proofs.Common.{◌≡◌, ◌<◌, ℕ, true, []}
use Rattle.srs_graph.specs.Descents.{is_entered, IsDescent}
use Rattle.srs_graph.proofs.peeling.peel.Given as goal

abbrev pub invariant-loop-start : goal.invariant-loop-start
invariant-loop-start l = record {
  descent : IsDescent l.pairs l.rows l.marks.items l.descent.entered.items l.descent.path.items;
  path : l.descent.path.items ≡ [];
  all : (i : ℕ) → i < l.start → is_entered l.descent.entered.items i ≡ true;
}
