-- What the spot at the place says of the tree.
use Rattle.std.proofs.Common.{◌≡◌, refl, sym, true≢false}
use Rattle.srs_tree.proofs.Entering.{place_done, place_other, place_open}
use Rattle.srs_tree.proofs.growth.place_for.Goals as goal

pub returns-in-Some-clause-refused : goal.returns-in-Some-clause-refused
returns-in-Some-clause-refused c =
    place_done c.args.nodes.now c.args.path.now c.in-Ok.i c.get-node.result.now c.requires c.in-Ok.ensures.found c.get-node.ensures.item
    c.args.f c.in-Some.outcome.now.value c.done.result c.in-Some.ensures c.done.ensures

pub returns-then-not-same-clause-refused : goal.returns-then-not-same-clause-refused
returns-then-not-same-clause-refused c =
    let given : c.cell.result.now.value ≡ c.get-node.result.now.region = c.cell.ensures in
    let apart : c.get-node.result.now.region ≡ c.args.f.region → ⊥ = λ e.
    let same : c.region.result.now ≡ c.region-2.result.now = cc in
    true≢false (sym (c.if-not-same.ensures.1 same)) in
    place_other c.args.nodes.now c.args.path.now c.in-Ok.i c.get-node.result.now c.requires c.in-Ok.ensures.found c.get-node.ensures.item
    c.args.f c.other_cell.result c.in_default.ensures apart (rw given at c.other_cell.ensures)

pub returns-clause-place : goal.returns-clause-place
returns-clause-place c =
    let same : c.region.result.now ≡ c.region-2.result.now = c.if-not-same.ensures.0 refl in
    let region : c.get-node.result.now.region ≡ c.args.f.region = cc in
    place_open c.args.nodes.now c.args.path.now c.in-Ok.i c.get-node.result.now c.requires c.in-Ok.ensures.found c.get-node.ensures.item c.args.f c.in_default.ensures region
