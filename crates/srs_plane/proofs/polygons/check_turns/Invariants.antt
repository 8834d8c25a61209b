use Rattle.std.proofs.Common.{ℕ, ◌<◌}
use Rattle.srs_plane.specs.Polygons.{TurnsLeft}
use Rattle.srs_plane.proofs.polygons.check_turns.Given as goal

abbrev pub invariant-loop-i : goal.invariant-loop-i
invariant-loop-i l = (k : ℕ) → k < l.i → TurnsLeft l.vs k
