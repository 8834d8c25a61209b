use Rattle.std.proofs.Common.{◌≡◌, ap, subst, ◌∙◌, refl}
use Rattle.srs_plane.specs.Polygons.{region_of}
use Rattle.srs_plane.specs.Regions.{HasPoint}
use Rattle.srs_path.specs.Views.{Budget, IsBudget}
use Rattle.srs_tree.specs.Preorder.{preorder_of}
use Rattle.srs_cert.specs.Certificates.{CertView}
use Rattle.srs_check.specs.Faults.{counts_of}
use Rattle.srs_rounds.specs.Refined.{IsRefined}
use Rattle.srs_tool.specs.Plans.{HasNoMemory}
use Rattle.srs_tool.specs.Benches.{bench_limits}
use Rattle.srs_tool.proofs.Benching.{counted_plan_of}
use Rattle.srs_tool.proofs.bench.counted_plan.Goals as goal

pub returns : goal.returns
returns c =
    let R = region_of c.args.vertices.now in
    let v = c.in_ok-version.version in
    let nodes = c.count_nodes-nodes.result in
    let limits : c.bench_limits-limits.result ≡ bench_limits = c.bench_limits-limits.ensures in
    let budget : IsBudget bench_limits = subst IsBudget limits c.wits.ensures.budget in
    let refined : IsRefined R bench_limits v =
    subst (λ (b : Budget). IsRefined R b v) limits c.in_ok-version.ensures.refined in
    let counted : nodes ≡ counts_of (preorder_of v) =
    c.count_nodes-nodes.ensures ∙ ap (λ (k : CertView). counts_of k.events) c.in_ok-version.ensures.certificate in
    let point : HasPoint R = subst HasPoint c.in_ok-cell.ensures c.region.ensures.has_point in
    let none : HasNoMemory (preorder_of v) =
    subst HasNoMemory (c.events.ensures.events ∙ ap (λ (k : CertView). k.events) c.in_ok-version.ensures.certificate) (c.if-lacks_memory.ensures refl) in
    counted_plan_of R v nodes budget point refined none counted
