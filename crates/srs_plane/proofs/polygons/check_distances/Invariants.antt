use Rattle.srs_plane.specs.Polygons.{AreNear}
use Rattle.srs_plane.proofs.polygons.check_distances.Given as goal

abbrev pub invariant-loop-i : goal.invariant-loop-i
invariant-loop-i l = AreNear l.vs l.i
