use Rattle.std.proofs.Common.{◌≡◌, map}
use Rattle.std.specs.List.{range_with_len}
use Rattle.srs_plane.specs.Polygons.{edge_at, vertex_at}
use Rattle.srs_plane.proofs.polygons.sides.Given as goal

abbrev pub invariant-loop-i : goal.invariant-loop-i
invariant-loop-i l = l.halves.items ≡ map (λ i. record { form = edge_at l.vs i; kind = (vertex_at l.vs i).kind }) (range_with_len 0 l.i)
