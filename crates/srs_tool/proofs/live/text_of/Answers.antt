use Rattle.std.proofs.Common.{ℕ, List, ◌++◌, sym, ap, ap₂, subst, ◌∙◌}
use Rattle.srs_plane.specs.declared.polygons.Vertex.{Vertex}
use Rattle.srs_tree.specs.Tree.{History}
use Rattle.srs_tree.specs.WholeTrees.{ListsWholeTree, IsWithin}
use Rattle.srs_cert.specs.Certificates.{CertView}
use Rattle.srs_cert.specs.Lives.{live_text}
use Rattle.srs_plane.specs.Polygons.{region_of}
use Rattle.srs_tool.proofs.Living.{run_listed, live_run_of}
use Rattle.srs_tool.proofs.live.text_of.Goals as goal

pub new-requires-clause-tree : goal.new-requires-clause-tree
new-requires-clause-tree c =
    subst ListsWholeTree (sym c.in_ok-events.ensures) (run_listed c.args.limits.now (region_of c.args.vertices.now) c.requires.run.0 c.args.run.now c.wits.ensures.budget c.requires.run.1).0

pub new-requires-clause-within : goal.new-requires-clause-within
new-requires-clause-within c =
    subst (IsWithin c.args.limits.now) (sym c.in_ok-events.ensures) (run_listed c.args.limits.now (region_of c.args.vertices.now) c.requires.run.0 c.args.run.now c.wits.ensures.budget c.requires.run.1).1

pub returns-in-Ok : goal.returns-in-Ok
returns-in-Ok c script is =
    let same = c.in_ok-cert.ensures ∙ ap₂ (λ (vs : List Vertex) (events : History). let r : CertView = record { vertices = vs; limits = c.args.limits.now; events = events } in r) c.as_slice.ensures c.in_ok-events.ensures in
    live_run_of c.one_live_text.ensures c.args.vertices.now c.args.limits.now script c.args.run.now c.in_ok-cert.cert c.put_live.new.out c.requires.point is
    same c.events.ensures.certificate c.sayable.ensures
    (c.in-Ok.ensures.ok ∙ ap (λ (old : List ℕ). old ++ live_text c.args.run.now.journal c.args.run.now.transcripts c.in_ok-cert.cert) c.new-text.ensures)
