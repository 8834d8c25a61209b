use Rattle.std.proofs.Common.{◌≡◌, ◌++◌, codes, flat_map}
use Rattle.std.proofs.lemmas.Result.{err_from_is_err_and, on_err_weaker}
use Rattle.srs_cert.specs.Texts.{head_text, outcome_text, ended}
use Rattle.srs_cert.specs.Certificates.{outcomes_of}
use Rattle.srs_print.specs.Fronts.{StopsIn}
use Rattle.srs_print.proofs.FrontLemmas.{nothing, sooner, later, both}
use Rattle.srs_print.proofs.certificate.put_cert.Goals as goal

pub returns-in_err-put_head-clause-err : goal.returns-in_err-put_head-clause-err
returns-in_err-put_head-clause-err c =
    let p = err_from_is_err_and c.from_residual.result c.from_residual.ensures.1 in
    let head = head_text c.args.c.now.vertices c.args.c.now.limits in
    let tree = flat_map outcome_text (outcomes_of c.args.c.now.events) in
    let stops : StopsIn c.args.out.now head c.put_head.new.out = rw (c.vertices.ensures, c.limits.ensures) at c.in_err-put_head.ensures.err in
    rw p.1 (sooner c.args.out.now (head ++ tree) (ended (codes "end")) c.put_head.new.out (sooner c.args.out.now head tree c.put_head.new.out stops))

pub returns-in_err-put_nodes-clause-err : goal.returns-in_err-put_nodes-clause-err
returns-in_err-put_nodes-clause-err c =
    let p = err_from_is_err_and c.from_residual-in_err-put_nodes.result c.from_residual-in_err-put_nodes.ensures.1 in
    let head = head_text c.args.c.now.vertices c.args.c.now.limits in
    let tree = flat_map outcome_text (outcomes_of c.args.c.now.events) in
    let before : c.put_head.new.out ≡ c.args.out.now ++ head = rw (c.vertices.ensures, c.limits.ensures) at c.in_ok-put_head.ensures.ok in
    let stops : StopsIn c.put_head.new.out tree c.put_nodes.new.out = rw c.events.ensures.events at c.in_err-put_nodes.ensures.err in
    rw p.1 (sooner c.args.out.now (head ++ tree) (ended (codes "end")) c.put_nodes.new.out (later c.args.out.now c.put_head.new.out head tree c.put_nodes.new.out before stops))

pub returns-clause-err : goal.returns-clause-err
returns-clause-err c =
    let head = head_text c.args.c.now.vertices c.args.c.now.limits in
    let tree = flat_map outcome_text (outcomes_of c.args.c.now.events) in
    let before : c.put_head.new.out ≡ c.args.out.now ++ head = rw (c.vertices.ensures, c.limits.ensures) at c.in_ok-put_head.ensures.ok in
    let nodes : c.put_nodes.new.out ≡ c.put_head.new.out ++ tree = rw c.events.ensures.events at c.in_ok-put_nodes.ensures.ok in
    on_err_weaker c.extend.result (λ (e : c.extend.new.self ≡ c.put_nodes.new.out).
    later c.args.out.now c.put_nodes.new.out (head ++ tree) (ended (codes "end")) c.extend.new.self
    (both c.args.out.now c.put_head.new.out head tree c.put_nodes.new.out before nodes)
    (nothing c.put_nodes.new.out (ended (codes "end")) c.extend.new.self e)) c.extend.ensures.err
