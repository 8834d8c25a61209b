use Rattle.std.proofs.Common.{refl, sym, subst}
use Rattle.std.specs.Prelude.{OnOk}
use Rattle.srs_tree.specs.declared.queries.Query.{Query}
use Rattle.srs_tree.specs.declared.queries.Query.TheVariants.{Orbit}
use Rattle.srs_tree.specs.declared.queries.Said.TheVariants.{Orbit as SaysOrbit}
use Rattle.srs_tool.specs.Replies.{AddsReply}
use Rattle.srs_tool.proofs.Replying.{adds_said}
use Rattle.srs_tool.proofs.ask.put_reply.Goals as goal

pub returns-in-Orbit : goal.returns-in-Orbit
returns-in-Orbit g c =
    let before = c.args.text.now in
    let after = c.put.new.text in
    let asked = Orbit c.in-Orbit.r c.in-Orbit.z c.in-Orbit.n in
    subst (λ (query : Query). OnOk c.put.result (AddsReply c.args.cert.now query before after)) (sym c.in-Orbit.is)
    (adds_said c.args.cert.now asked (SaysOrbit c.orbit.result) before after c.put.result (c.orbit.result, refl, c.orbit.ensures) c.put.ensures)
