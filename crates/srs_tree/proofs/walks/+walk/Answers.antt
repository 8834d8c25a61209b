-- The entries at and below a spot, and its parts' depths.
use Rattle.std.proofs.Common.{◌≡◌, ℕ, List, slice_get, ◌-◌, ◌+◌, ◌<◌, ◌≤◌, ◌∷◌, ◌++◌, [], sym, ap, ◌∙◌, subst, arith, append-nil, Some}
use Rattle.std.proofs.lemmas.Option.{same_Some, slice_get_within}
use Rattle.srs_path.specs.declared.paths.Side.{Side}
use Rattle.srs_path.specs.declared.paths.Side.TheVariants.{Ge, Lt}
use Rattle.srs_tree.specs.Tree.{History}
use Rattle.srs_tree.specs.Nodes.{Spot, entries_of}
use Rattle.srs_tree.specs.Preorder.{event_of, preorder_below}
use Rattle.srs_tree.proofs.Descent.{lt_within}
use Rattle.srs_tree.proofs.Below.{depth_at, on_ok, joined, walk_none, walk_leaf, walk_cut, part_deeper, path_depth}
use Rattle.srs_tree.proofs.walks.+walk.Goals as goal

pub returns-in_default : goal.returns-in_default
returns-in_default t c = λ x e.
    let f = c.get-node.ensures.item in
    let same : c.get-node.result.now ≡ x = same_Some _ _ (sym f ∙ e) in
    sym (append-nil _) ∙ ap (λ (u : History). c.args.journal.now ++ u)
    (sym (ap (λ (y : Spot). preorder_below (entries_of c.args.nodes.now) y.path) (sym same) ∙ walk_none c.args.nodes.now c.requires.spots c.args.i c.get-node.result.now f c.in_default.ensures))

pub part-requires : goal.part-requires
part-requires t c = λ h cut.
    let f = c.get-node.ensures.item in
    let l = lt_within c.args.nodes.now c.requires.spots c.args.i c.get-node.result.now h f cut in
    omega (arith, l)

pub returns-in_default-part : goal.returns-in_default-part
returns-in_default-part t c = λ x e.
    let f = c.get-node.ensures.item in
    let same : c.get-node.result.now ≡ x = same_Some _ _ (sym f ∙ e) in
    let leaf = walk_leaf c.args.nodes.now c.requires.spots c.args.i c.get-node.result.now f c.in-Some.outcome.now.value c.in-Some.ensures c.in_default-part.ensures.none in
    c.in_ok-append.ensures
    ∙ ap (λ (p : List Side). c.args.journal.now ++ event_of (p, c.in-Some.outcome.now.value) ∷ []) c.path-path.ensures
    ∙ ap (λ (u : History). c.args.journal.now ++ u) (sym leaf)
    ∙ ap (λ (y : Spot). c.args.journal.now ++ preorder_below (entries_of c.args.nodes.now) y.path) same

pub walk-requires : goal.walk-requires
walk-requires t c =
    let f = c.get-node.ensures.item in
    let some = c.in-Some-part.ensures.some in
    let part = (c.requires.spots.each c.args.i c.get-node.result.now f).parts some.1.0 some.1.1 Ge in
    let place : c.in-Some-part.ge ≡ c.get-node.result.now.parts = some.0 in
    let deeper = part_deeper c.args.nodes.now c.requires.spots c.args.i c.get-node.result.now f part.spot c.get-node.result.now.parts Ge part.is part.path in
    let there = ap (depth_at c.args.nodes.now) place in
    let within = slice_get_within c.args.nodes.now c.get-node.result.now.parts part.spot part.is in
    let short = path_depth c.args.nodes.now c.args.i c.get-node.result.now f c.path-path.result c.path-path.ensures in
    let low : depth_at c.args.nodes.now c.args.i ≤ 48 = omega (arith, short, c.len.ensures.len, c.len.ensures.short) in
    let falls : 49 - depth_at c.args.nodes.now c.in-Some-part.ge < 49 - depth_at c.args.nodes.now c.args.i = omega (arith, there, deeper, low) in
    (subst (λ (n : ℕ). 49 - depth_at c.args.nodes.now c.in-Some-part.ge < n) c.decreases falls, (c.requires.spots, omega (arith, place, within)))

pub overflow_add-ge : goal.overflow_add-ge
overflow_add-ge t c =
    let f = c.get-node.ensures.item in
    let some = c.in-Some-part.ensures.some in
    let l = lt_within c.args.nodes.now c.requires.spots c.args.i c.get-node.result.now some.1.0 f some.1.1 in
    omega (arith, l, some.0)

pub walk-requires-2 : goal.walk-requires-2
walk-requires-2 t c =
    let f = c.get-node.ensures.item in
    let some = c.in-Some-part.ensures.some in
    let part = (c.requires.spots.each c.args.i c.get-node.result.now f).parts some.1.0 some.1.1 Lt in
    let place : c.in-Some-part.ge + 1 ≡ c.get-node.result.now.parts + 1 = ap (λ n. n + 1) some.0 in
    let deeper = part_deeper c.args.nodes.now c.requires.spots c.args.i c.get-node.result.now f part.spot (c.get-node.result.now.parts + 1) Lt part.is part.path in
    let there = ap (depth_at c.args.nodes.now) place in
    let within = slice_get_within c.args.nodes.now (c.get-node.result.now.parts + 1) part.spot part.is in
    let short = path_depth c.args.nodes.now c.args.i c.get-node.result.now f c.path-path.result c.path-path.ensures in
    let low : depth_at c.args.nodes.now c.args.i ≤ 48 = omega (arith, short, c.len.ensures.len, c.len.ensures.short) in
    let falls : 49 - depth_at c.args.nodes.now (c.in-Some-part.ge + 1) < 49 - depth_at c.args.nodes.now c.args.i = omega (arith, there, deeper, low) in
    (subst (λ (n : ℕ). 49 - depth_at c.args.nodes.now (c.in-Some-part.ge + 1) < n) c.decreases falls, (c.requires.spots, omega (arith, place, within)))

pub returns : goal.returns
returns t c = on_ok c.walk-2.result (λ last x e.
    let f = c.get-node.ensures.item in
    let same : c.get-node.result.now ≡ x = same_Some _ _ (sym f ∙ e) in
    let some = c.in-Some-part.ensures.some in
    let is = (c.requires.spots.each c.args.i c.get-node.result.now f).parts some.1.0 some.1.1 in
    let ge = is Ge in
    let lt = is Lt in
    let at_ge : slice_get c.args.nodes.now c.in-Some-part.ge ≡ Some ge.spot = ap (slice_get c.args.nodes.now) some.0 ∙ ge.is in
    let at_lt : slice_get c.args.nodes.now (c.in-Some-part.ge + 1) ≡ Some lt.spot = ap (λ n. slice_get c.args.nodes.now (n + 1)) some.0 ∙ lt.is in
    let A = λ (p : List Side). preorder_below (entries_of c.args.nodes.now) p in
    let one = c.in_ok-append.ensures ∙ ap (λ (p : List Side). c.args.journal.now ++ event_of (p, c.in-Some.outcome.now.value) ∷ []) c.path-path.ensures in
    let two = c.in_ok-walk.ensures ge.spot at_ge ∙ ap (λ (p : List Side). c.append.new.journal ++ A p) ge.path in
    let three = last lt.spot at_lt ∙ ap (λ (p : List Side). c.walk.new.journal ++ A p) lt.path in
    joined c.args.journal.now c.append.new.journal c.walk.new.journal c.walk-2.new.journal _ _ _ _ one two three
    (walk_cut c.args.nodes.now c.requires.spots c.args.i c.get-node.result.now f c.in-Some.outcome.now.value c.in-Some.ensures)
    ∙ ap (λ (y : Spot). c.args.journal.now ++ A y.path) same) c.walk-2.ensures
