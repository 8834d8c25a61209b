use Rattle.std.proofs.Common.{◌≡◌, ◌∷◌, [], ◌++◌, ℕ, length, sym, ap, subst, ◌∙◌}
use Rattle.std.proofs.lemmas.Option.{none-some, same_Some}
use Rattle.std.proofs.lemmas.Result.{on_ok_weaker}
use Rattle.srs_plane.specs.Polygons.{IsPolygon}
use Rattle.srs_file.specs.declared.cert_reader.CertReader.{CertReader}
use Rattle.srs_check.specs.Walks.{HasCome}
use Rattle.srs_check.proofs.LineSteps.{limits_fed, no_begun, come_on}
use Rattle.srs_check.proofs.Reading.{some_certificate, keeps, one_event_more, comes, from_before}
use Rattle.srs_check.proofs.line_check.LineCheck.node.Goals as goal

pub unreachable-requires : goal.unreachable-requires
unreachable-requires c =
    let r = c.requires in
    let k = r.2 in
    let head = keeps r.0 r.1 c.args.node.now k.before k.state k.runs k.step k.fed.runs k.ends in
    none-some k.state.tree.limits (c.in_default.ensures ∙ limits_fed c.args.self.now.feed (r.0 ++ r.1 ∷ []) k.state k.fed head.planted)

pub begin-requires : goal.begin-requires
begin-requires c =
    let r = c.requires in
    let k = r.2 in
    let g = some_certificate r.0 r.1 c.args.node.now k.before k.state k.runs k.step k.fed.runs k.ends in
    subst IsPolygon (g.1.vertices_are ∙ sym (c.vertices.ensures ∙ ap (λ (s : CertReader). s.outline.ring.vertices) k.fed.reader_is)) g.1.certificate.polygon

pub unreachable-requires-in_default-walk : goal.unreachable-requires-in_default-walk
unreachable-requires-in_default-walk c =
    let r = c.requires in
    let k = r.2 in
    let g = some_certificate r.0 r.1 c.args.node.now k.before k.state k.runs k.step k.fed.runs k.ends in
    let vertices = g.1.vertices_are ∙ sym (c.vertices.ensures ∙ ap (λ (s : CertReader). s.outline.ring.vertices) k.fed.reader_is) in
    let from = from_before r.0 r.1 c.args.node.now k.before k.state k.runs k.step k.fed.runs k.ends g.0 g.1 in
    no_begun g.0 (length k.before.tree.events) c.begin.new.walk (c.in_ok-begin.ensures k.before g.0 k.walks from vertices) c.in_default-walk.is

pub node-requires : goal.node-requires
node-requires c =
    let r = c.requires in
    let k = r.2 in
    let head = keeps r.0 r.1 c.args.node.now k.before k.state k.runs k.step k.fed.runs k.ends in
    let g = some_certificate r.0 r.1 c.args.node.now k.before k.state k.runs k.step k.fed.runs k.ends in
    let limits : c.in-Some.limits ≡ k.state.tree.limits = same_Some c.in-Some.limits k.state.tree.limits (c.in-Some.ensures ∙ limits_fed c.args.self.now.feed (r.0 ++ r.1 ∷ []) k.state k.fed head.planted) in
    let vertices = g.1.vertices_are ∙ sym (c.vertices.ensures ∙ ap (λ (s : CertReader). s.outline.ring.vertices) k.fed.reader_is) in
    let from = from_before r.0 r.1 c.args.node.now k.before k.state k.runs k.step k.fed.runs k.ends g.0 g.1 in
    let come = come_on g.0 (length k.before.tree.events) c.begin.new.walk c.in-Some-walk.walk (c.in_ok-begin.ensures k.before g.0 k.walks from vertices) c.in-Some-walk.is in
    (g.0, length k.before.tree.events, comes r.0 r.1 c.args.node.now k.before k.state k.runs k.step k.fed.runs k.ends g.0 g.1 c.in-Some.limits c.in-Some-walk.walk limits come)

pub returns : goal.returns
returns c = on_ok_weaker c.node.result (λ met. λ lines line k.
    let head = keeps lines line c.args.node.now k.before k.state k.runs k.step k.fed.runs k.ends in
    let limits : c.in-Some.limits ≡ k.state.tree.limits = same_Some c.in-Some.limits k.state.tree.limits (c.in-Some.ensures ∙ limits_fed c.args.self.now.feed (lines ++ line ∷ []) k.state k.fed head.planted) in
    record {
      state = k.state;
      fed = k.fed;
      walks = (
        head.planted,
        λ d g.
            let vertices = g.vertices_are ∙ sym (c.vertices.ensures ∙ ap (λ (s : CertReader). s.outline.ring.vertices) k.fed.reader_is) in
            let from = from_before lines line c.args.node.now k.before k.state k.runs k.step k.fed.runs k.ends d g in
            let come = come_on d (length k.before.tree.events) c.begin.new.walk c.in-Some-walk.walk (c.in_ok-begin.ensures k.before d k.walks from vertices) c.in-Some-walk.is in
            subst (λ (n : ℕ). HasCome d n c.node.new.self) (sym (one_event_more lines line c.args.node.now k.before k.state k.runs k.step k.fed.runs k.ends))
            (met d (length k.before.tree.events) (comes lines line c.args.node.now k.before k.state k.runs k.step k.fed.runs k.ends d g c.in-Some.limits c.in-Some-walk.walk limits come)),
      );
    }) c.node.ensures
