-- A cut's part on the point's side holds the point, and a spot without a cut is its leaf.
use Rattle.std.proofs.Common.{◌≡◌, ℕ, ◌-◌, ◌<◌, ◌≤◌, ◌∷◌, [], length, length-append, sym, ap, ◌∙◌, subst, arith}
use Rattle.std.proofs.lemmas.Option.{same_Some, slice_get_within}
use Rattle.srs_tree.specs.Nodes.{Spot}
use Rattle.srs_tree.proofs.Descent.{lt_within}
use Rattle.srs_tree.proofs.Below.{depth_at, part_deeper, path_depth}
use Rattle.srs_tree.proofs.Ways.{leaf_for, part_below, below_holds}
use Rattle.srs_tree.proofs.descents.+descend.Goals as goal

pub part_with-requires : goal.part_with-requires
part_with-requires g t c = λ h cut.
    let f = c.get-node.ensures.item in
    let l = lt_within c.args.nodes.now c.requires.spots c.args.i c.get-node.result.now h f cut in
    omega (arith, l)

pub descend-requires : goal.descend-requires
descend-requires g t c κs within =
    let f = c.get-node.ensures.item in
    let part = c.in-Some.ensures.some in
    let y = part_below c.args.nodes.now c.requires.spots c.args.i c.get-node.result.now f part.form part.cut part.side c.in-Some.part part.place in
    let there = slice_get_within c.args.nodes.now c.in-Some.part y.spot y.is in
    let deeper = part_deeper c.args.nodes.now c.requires.spots c.args.i c.get-node.result.now f y.spot c.in-Some.part part.side y.is y.path in
    let short = path_depth c.args.nodes.now c.args.i c.get-node.result.now f c.path-path.result c.path-path.ensures in
    let low : depth_at c.args.nodes.now c.args.i ≤ 48 = omega (arith, short, c.len.ensures.len, c.len.ensures.short) in
    let falls : 49 - depth_at c.args.nodes.now c.in-Some.part < 49 - depth_at c.args.nodes.now c.args.i = omega (arith, deeper, low) in (
      subst (λ (n : ℕ). 49 - depth_at c.args.nodes.now c.in-Some.part < n) c.decreases falls,
      (within, (c.requires.spots, (there, λ z e. below_holds c.args.nodes.now c.requires.spots c.args.i c.get-node.result.now f c.args.r.now c.in-Some.part (c.requires.holds c.get-node.result.now f) part z e))),
    )

pub returns-in-Some-clause-steps : goal.returns-in-Some-clause-steps
returns-in-Some-clause-steps g t c = λ x e.
    let f = c.get-node.ensures.item in
    let same : c.get-node.result.now ≡ x = same_Some _ _ (sym f ∙ e) in
    let part = c.in-Some.ensures.some in
    let y = part_below c.args.nodes.now c.requires.spots c.args.i c.get-node.result.now f part.form part.cut part.side c.in-Some.part part.place in
    let rest = c.descend.ensures.steps y.spot y.is in
    omega (arith, rest, c.in-Some.ensures.one_step, ap length y.path, length-append c.get-node.result.now.path (part.side ∷ []), ap (λ (z : Spot). length z.path) same)

pub returns-in-None-clause-leaf : goal.returns-in-None-clause-leaf
returns-in-None-clause-leaf g t c =
    let f = c.get-node.ensures.item in
    leaf_for c.args.nodes.now c.requires.spots c.args.i c.get-node.result.now f c.args.r.now c.in-None.ensures.none (c.requires.holds c.get-node.result.now f)

pub returns-in-None-clause-steps : goal.returns-in-None-clause-steps
returns-in-None-clause-steps g t c = λ x e.
    let f = c.get-node.ensures.item in
    let same : c.get-node.result.now ≡ x = same_Some _ _ (sym f ∙ e) in
    omega (arith, c.in-None.ensures.no_step, ap (λ (z : Spot). length z.path) same)
