-- The end of the first vertices.
use Rattle.srs_num.specs.Points.{IsWithin}
use Rattle.srs_plane.specs.Polygons.{IsPolygon}
use Rattle.srs_raster.proofs.Extremes.{IsHighest}
use Rattle.srs_raster.proofs.frames.highest.Given as goal

abbrev pub invariant-loop-v : goal.invariant-loop-v
invariant-loop-v l = record {
  polygon : IsPolygon l.vs;
  end : IsHighest l.vs polygon l.axis l.v-index l.highest;
  narrow : IsWithin 256 l.highest;
}
