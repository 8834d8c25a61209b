-- The four parts, one behind another.
use Rattle.std.proofs.Common.{◌≡◌, ◌++◌, codes}
use Rattle.std.proofs.lemmas.Result.{on_ok_weaker}
use Rattle.srs_cert.specs.Texts.{ended, ring_text}
use Rattle.srs_print.proofs.FrontLemmas.{both}
use Rattle.srs_gen.specs.Inputs.{first_points, other_points, asking_text}
use Rattle.srs_gen.proofs.inputs.put_input.Goals as goal

pub returns : goal.returns
returns c =
    let old = c.args.text.now in
    let ring = ring_text c.args.vertices.now in
    let first = asking_text 0 (first_points c.args.points.now) in
    let other = asking_text 3 (other_points c.args.points.now) in
    let end = ended (codes "end") in
    let one : c.put_ring.new.out ≡ old ++ ring = c.in_ok-put_ring.ensures.ok in
    let two : c.put_session.new.text ≡ c.put_ring.new.out ++ first =
    rw c.split_at.ensures.front at c.in_ok-put_session.ensures in
    let three : c.put_session-2.new.text ≡ c.put_session.new.text ++ other =
    rw c.split_at.ensures.back at c.in_ok-put_session-2.ensures in
    let sessions = both old c.put_session.new.text (ring ++ first) other c.put_session-2.new.text
    (both old c.put_ring.new.out ring first c.put_session.new.text one two) three in
    on_ok_weaker c.extend.result
    (λ (e : c.extend.new.self ≡ c.put_session-2.new.text ++ end). both old c.put_session-2.new.text
    (ring ++ first ++ other) end c.extend.new.self sessions e)
    c.extend.ensures.ok
