use Rattle.std.proofs.Common.{◌≡◌, ◌++◌, take}
use Rattle.std.specs.List.{flat_map}
use Rattle.srs_cert.specs.Texts.{vertex_text}
use Rattle.srs_print.proofs.certificate.put_vertices.Given as goal

abbrev pub invariant-loop-v : goal.invariant-loop-v
invariant-loop-v l = l.out ≡ l.fn.out ++ flat_map vertex_text (take l.v-index l.vertices)
