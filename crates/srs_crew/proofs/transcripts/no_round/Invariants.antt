use Rattle.std.proofs.Common.{◌≡◌, ℕ, ◌<◌, List, slice_get}
use Rattle.std.specs.declared.option.Option.TheVariants.{Some}
use Rattle.srs_tree.specs.Sessions.{AreAscending}
use Rattle.srs_tree.specs.declared.sessions.Segment.{Segment}
use Rattle.srs_crew.proofs.transcripts.no_round.Given as goal

abbrev pub invariant-loop-i : goal.invariant-loop-i
invariant-loop-i l = (j : ℕ) (session : List Segment) → slice_get l.script j ≡ Some session → j < l.i → AreAscending session
