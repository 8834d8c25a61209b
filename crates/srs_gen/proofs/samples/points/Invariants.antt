-- The first points, and the state behind their draws.
use Rattle.std.proofs.Common.{◌≡◌, ◌*◌}
use Rattle.srs_gen.specs.Draws.{state_after}
use Rattle.srs_gen.specs.Samples.{points_from}
use Rattle.srs_gen.proofs.samples.points.Given as goal

abbrev pub invariant-loop-i : goal.invariant-loop-i
invariant-loop-i l = record {
  points : l.points ≡ points_from l.fn.draws l._i;
  draws : l.draws ≡ state_after l.fn.draws (2 * l._i);
}
