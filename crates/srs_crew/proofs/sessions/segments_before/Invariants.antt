use Rattle.std.proofs.Common.{◌≡◌, ℕ, ◌<◌, slice_get}
use Rattle.std.specs.declared.option.Option.TheVariants.{Some}
use Rattle.srs_tree.specs.declared.sessions.Segment.{Segment}
use Rattle.srs_crew.proofs.sessions.segments_before.Given as goal

abbrev pub invariant-loop-i : goal.invariant-loop-i
invariant-loop-i l = (j : ℕ) (s : Segment) → slice_get l.session j ≡ Some s → j < l.i → s.at < l.round
