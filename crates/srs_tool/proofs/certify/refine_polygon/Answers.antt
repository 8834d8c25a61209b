use Rattle.std.proofs.Common.{sym, ap, subst, ◌∙◌}
use Rattle.srs_plane.specs.Regions.{Area}
use Rattle.srs_plane.proofs.Ring_of_vertices.{few_halves}
use Rattle.srs_tree.specs.Tree.{History}
use Rattle.srs_tree.specs.WholeTrees.{ListsWholeTree, IsWithin}
use Rattle.srs_cert.specs.Certificates.{CertView}
use Rattle.srs_rounds.specs.Refined.{IsRefined}
use Rattle.srs_tool.proofs.Certifying.{refined_listed}
use Rattle.srs_tool.proofs.certify.refine_polygon.Goals as goal

pub rounds-requires : goal.rounds-requires
rounds-requires c =
    few_halves c.args.vertices.now c.args.cell c.requires.polygon.counted c.requires.region

pub new-requires-clause-tree : goal.new-requires-clause-tree
new-requires-clause-tree c =
    subst ListsWholeTree (sym c.in_ok-events.ensures)
    (refined_listed c.args.limits.now c.args.cell c.in_ok-version.version c.wits.ensures.budget
    c.in_ok-version.ensures).0

pub new-requires-clause-within : goal.new-requires-clause-within
new-requires-clause-within c =
    subst (IsWithin c.args.limits.now) (sym c.in_ok-events.ensures)
    (refined_listed c.args.limits.now c.args.cell c.in_ok-version.version c.wits.ensures.budget
    c.in_ok-version.ensures).1

pub returns-clause-refined : goal.returns-clause-refined
returns-clause-refined c =
    subst (λ (R : Area). IsRefined R c.args.limits.now c.in_ok-version.version) c.requires.region
    c.in_ok-version.ensures

pub returns-clause-certificate : goal.returns-clause-certificate
returns-clause-certificate c =
    let cert = λ (events : History).
    let k : CertView =
    record { vertices = c.args.vertices.now; limits = c.args.limits.now; events = events } in k in
    c.in_ok-cert.ensures ∙ ap cert c.in_ok-events.ensures
