use Rattle.std.proofs.Common.{◌≤◌, length}
use Rattle.srs_crew.specs.Rounds.{AreFromRound}
use Rattle.srs_crew.proofs.cells.of_round.Given as goal

abbrev pub invariant-loop-i : goal.invariant-loop-i
invariant-loop-i l = AreFromRound l.cells l.round l.list × (length l.list ≤ 65536)
