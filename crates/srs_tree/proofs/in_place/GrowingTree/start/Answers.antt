-- One cell, without an outcome.
use Rattle.std.proofs.Common.{◌≡◌, List, [], ◌∷◌, ◌++◌, None, ap₂, ◌∙◌}
use Rattle.srs_plane.specs.Regions.{Area}
use Rattle.srs_path.specs.declared.paths.Side.{Side}
use Rattle.srs_tree.specs.Nodes.{Spot}
use Rattle.srs_tree.proofs.Entering.{started}
use Rattle.srs_tree.proofs.in_place.GrowingTree.start.Goals as goal

pub invariant_of-result : goal.invariant_of-result
invariant_of-result c =
    let root : Spot = record { path = []; region = c.args.cell; outcome = None; parts = 0 } in
    let first : c.open.result ≡ root
    = c.open.ensures ∙ ap₂ (λ (p : List Side) (R : Area). let x : Spot = record { path = p; region = R; outcome = None; parts = 0 } in x) c.root.ensures c.in_ok-cell.ensures.ok in
    let one : c.push.new.self ≡ root ∷ [] = c.in_ok-push.ensures.ok ∙ ap₂ (λ (xs : List Spot) (x : Spot). xs ++ x ∷ []) c.new-nodes.ensures first in
    started c.push.new.self c.args.cell c.region.ensures.has_point c.requires one
