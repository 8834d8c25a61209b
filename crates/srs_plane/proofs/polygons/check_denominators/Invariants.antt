use Rattle.srs_plane.specs.Polygons.{HaveSmallDenominators}
use Rattle.srs_plane.proofs.polygons.check_denominators.Given as goal

abbrev pub invariant-loop-i : goal.invariant-loop-i
invariant-loop-i l = HaveSmallDenominators l.vs l.i
