use Rattle.std.proofs.Common.{ℕ, List, ◌++◌, ap, subst, ◌∙◌}
use Rattle.srs_plane.specs.declared.polygons.Vertex.{Vertex}
use Rattle.srs_plane.specs.Polygons.{region_of}
use Rattle.srs_plane.specs.Regions.{HasPoint}
use Rattle.srs_cert.specs.Certificates.{cert_text}
use Rattle.srs_cert.specs.Lives.{cert_of}
use Rattle.srs_rounds.specs.Refined.{IsRefined}
use Rattle.srs_tool.proofs.Certifying.{certificate_of}
use Rattle.srs_tool.proofs.certify.certificate.Goals as goal

pub returns-in-Ok : goal.returns-in-Ok
returns-in-Ok c =
    let b = c.args.limits.now in
    let v = c.in_ok-version.version in
    certificate_of c.args.vertices.now b v c.put_cert.new.out
    (subst HasPoint c.requires.region c.region.ensures.has_point)
    (subst (λ (vs : List Vertex). IsRefined (region_of vs) b v) c.as_slice.ensures c.in_ok-version.ensures.refined)
    (c.in-Ok.ensures.ok ∙ ap (λ (old : List ℕ). old ++ cert_text c.in_ok-version.cert) c.new-text.ensures
    ∙ ap cert_text c.in_ok-version.ensures.certificate
    ∙ ap (λ (vs : List Vertex). cert_text (cert_of vs b v)) c.as_slice.ensures)
