-- The end of the first vertices.
use Rattle.srs_num.specs.Points.{IsWithin}
use Rattle.srs_plane.specs.Polygons.{IsPolygon}
use Rattle.srs_raster.proofs.Extremes.{IsLowest}
use Rattle.srs_raster.proofs.frames.lowest.Given as goal

abbrev pub invariant-loop-v : goal.invariant-loop-v
invariant-loop-v l = record {
  polygon : IsPolygon l.vs;
  end : IsLowest l.vs polygon l.axis l.v-index l.lowest;
  narrow : IsWithin 256 l.lowest;
}
