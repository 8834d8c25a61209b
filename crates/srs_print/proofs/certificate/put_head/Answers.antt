use Rattle.std.proofs.Common.{◌++◌, codes}
use Rattle.std.proofs.lemmas.Result.{err_from_is_err_and, on_err_weaker}
use Rattle.srs_cert.specs.Texts.{count_text, ring_text, limits_text}
use Rattle.srs_print.specs.Fronts.{StopsIn}
use Rattle.srs_print.proofs.FrontLemmas.{sooner, later, both}
use Rattle.srs_print.proofs.certificate.put_head.Goals as goal

pub returns-in_err-put_count-clause-err : goal.returns-in_err-put_count-clause-err
returns-in_err-put_count-clause-err c =
    let p = err_from_is_err_and c.from_residual.result c.from_residual.ensures.1 in
    let version = count_text (codes "srs") 1 in
    let ring = ring_text c.args.vertices.now in
    rw p.1 (sooner c.args.out.now (version ++ ring) (limits_text c.args.limits.now) c.put_count.new.out (sooner c.args.out.now version ring c.put_count.new.out c.in_err-put_count.ensures.err))

pub returns-in_err-put_ring-clause-err : goal.returns-in_err-put_ring-clause-err
returns-in_err-put_ring-clause-err c =
    let p = err_from_is_err_and c.from_residual-in_err-put_ring.result c.from_residual-in_err-put_ring.ensures.1 in
    let version = count_text (codes "srs") 1 in
    let ring = ring_text c.args.vertices.now in
    rw p.1 (sooner c.args.out.now (version ++ ring) (limits_text c.args.limits.now) c.put_ring.new.out
    (later c.args.out.now c.put_count.new.out version ring c.put_ring.new.out c.in_ok-put_count.ensures.ok c.in_err-put_ring.ensures.err))

pub returns-clause-err : goal.returns-clause-err
returns-clause-err c =
    let version = count_text (codes "srs") 1 in
    let ring = ring_text c.args.vertices.now in
    let limits = limits_text c.args.limits.now in
    on_err_weaker c.put_limits.result (λ (s : StopsIn c.put_ring.new.out limits c.put_limits.new.out).
    later c.args.out.now c.put_ring.new.out (version ++ ring) limits c.put_limits.new.out
    (both c.args.out.now c.put_count.new.out version ring c.put_ring.new.out c.in_ok-put_count.ensures.ok c.in_ok-put_ring.ensures.ok) s) c.put_limits.ensures.err
