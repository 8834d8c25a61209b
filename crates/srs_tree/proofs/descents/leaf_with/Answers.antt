-- The root has no side.
use Rattle.std.proofs.Common.{◌≡◌, length, sym, ap, ◌∙◌, arith}
use Rattle.std.proofs.lemmas.Option.{same_Some}
use Rattle.srs_tree.specs.Nodes.{Spot, root_of}
use Rattle.srs_tree.proofs.Regions.{root_of_first}
use Rattle.srs_tree.proofs.descents.leaf_with.Goals as goal

pub returns-then-holds-clause-on_path : goal.returns-then-holds-clause-on_path
returns-then-holds-clause-on_path g c =
    let rest = c.descend.ensures.steps c.requires.first c.requires.is_first in
    let same : c.get.result.now ≡ c.requires.first = same_Some _ _ (sym c.get.ensures.item ∙ c.requires.is_first) in
    let root : c.region.result.now ≡ root_of c.args.nodes.now
    = c.region.ensures ∙ ap (λ (z : Spot). z.region) same ∙ sym (root_of_first c.args.nodes.now c.requires.first c.requires.is_first) in
    omega (arith, rest, c.if-holds.ensures.at_most, ap length root, ap length c.requires.root)
