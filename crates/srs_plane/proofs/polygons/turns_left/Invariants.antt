use Rattle.std.proofs.Common.{ℕ, ◌<◌, pos, ◌<ℤ◌}
use Rattle.srs_num.specs.Points.{value}
use Rattle.srs_plane.specs.Polygons.{IsOffEdge, edge_at, point_of, vertex_at}
use Rattle.srs_plane.proofs.polygons.turns_left.Given as goal

abbrev pub invariant-loop-j : goal.invariant-loop-j
invariant-loop-j l = (k : ℕ) → k < l.j → IsOffEdge l.vs l.i k → pos 0 <ℤ value (edge_at l.vs l.i) (point_of (vertex_at l.vs k))
