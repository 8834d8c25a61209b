use Rattle.std.proofs.Common.{get_or, pos, arith}
use Rattle.std.proofs.lemmas.Option.{slice_get-get_or}
use Rattle.std.proofs.lemmas.Result.{err_from_is_err_and}
use Rattle.srs_plane.specs.declared.halves.Kind.TheVariants.{Ge}
use Rattle.srs_plane.specs.declared.polygons.Vertex.{Vertex}
use Rattle.srs_cert.specs.Texts.{vertex_text}
use Rattle.srs_print.proofs.FrontLemmas.{in_item}
use Rattle.srs_print.proofs.certificate.put_vertices.Goals as goal

pub returns-in_err-put_vertex-clause-err : goal.returns-in_err-put_vertex-clause-err
returns-in_err-put_vertex-clause-err c =
    let p = err_from_is_err_and c.from_residual.result c.from_residual.ensures.1 in
    let vs = c.args.vertices.now in
    let i = c.loop-v.v-index in
    let none : Vertex = record { p = pos 0; q = pos 0; d = pos 0; kind = Ge } in
    rw p.1 (in_item vertex_text vs i (get_or vs i none) c.args.out.now c.loop-v.out c.put_vertex.new.out (slice_get-get_or vs i none (omega arith)) c.loop-v.invariant c.in_err-put_vertex.ensures.err)
