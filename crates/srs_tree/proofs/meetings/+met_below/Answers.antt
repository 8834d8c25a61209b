-- A leaf's one answer, and the answers of the two parts of a cut.
use Rattle.std.proofs.Common.{◌+◌, sym, ap, ◌∙◌, subst, arith}
use Rattle.srs_plane.specs.Regions.{Area}
use Rattle.srs_cell.specs.Parts.{AreParts, AreBoth}
use Rattle.srs_path.specs.declared.paths.Side.TheVariants.{Ge, Lt}
use Rattle.srs_tree.specs.Nodes.{root_of, spots_tree}
use Rattle.srs_tree.specs.Answers.{reply_of, reply_by, IsMarked, IsMet}
use Rattle.srs_tree.proofs.Descent.{lt_within, spots_closed}
use Rattle.srs_tree.proofs.Spots.{tree_there}
use Rattle.srs_tree.proofs.Ways.{leaf_for, shorter, cut_piece, whole_piece, goes}
use Rattle.srs_tree.proofs.Meeting.{kind_marked, met_leaf, met_both}
use Rattle.srs_tree.proofs.meetings.+met_below.Goals as goal

pub returns-in_default : goal.returns-in_default
returns-in_default t c =
    let xs = c.args.nodes.now in
    let x = c.get-node.result.now in
    let f = c.get-node.ensures.item in
    met_leaf (root_of xs) (spots_tree xs) (spots_closed xs c.requires.spots) c.args.cell.now x.path (reply_of c.answer.result) c.of.result c.region.ensures.has_point
    (λ r k. (leaf_for xs c.requires.spots c.args.i x f r c.in_default.ensures (c.requires.holds x f r k)).holds)
    (c.answer.ensures ∙ ap reply_by (sym (tree_there xs c.requires.spots.once c.args.i x f)))
    (subst (IsMarked (λ A. A (reply_of c.answer.result))) (sym c.of.ensures) (kind_marked (reply_of c.answer.result)))

pub path_at-path-requires : goal.path_at-path-requires
path_at-path-requires t c =
    let xs = c.args.nodes.now in
    let x = c.get-node.result.now in
    let f = c.get-node.ensures.item in
    let l = lt_within xs c.requires.spots c.args.i x c.in-Some.form.now f c.in-Some.ensures.0 in
    omega (arith, l, c.in-Some.ensures.1)

pub cut-requires-2 : goal.cut-requires-2
cut-requires-2 t c =
    let xs = c.args.nodes.now in
    let x = c.get-node.result.now in
    let f = c.get-node.ensures.item in
    let short = shorter xs c.requires.spots c.args.i x f c.in-Some.form.now c.in-Some.ensures.0 c.in-Some.ge c.in-Some.ensures.1 c.path_at-path.result c.path_at-path.ensures (omega (arith, c.len.ensures.len, c.len.ensures.short)) in
    omega (arith, c.requires.few x f, short)

pub met_below-requires : goal.met_below-requires
met_below-requires t c =
    let xs = c.args.nodes.now in
    let x = c.get-node.result.now in
    let f = c.get-node.ensures.item in
    let h = c.in-Some.form.now in
    let C : Area = c.args.cell.now in
    let cut = c.in-Some.ensures in
    let short = shorter xs c.requires.spots c.args.i x f h cut.0 c.in-Some.ge cut.1 c.path_at-path.result c.path_at-path.ensures (omega (arith, c.len.ensures.len, c.len.ensures.short)) in
    let D : Area = c.in-Both.above in
    let both : AreBoth C h c.in-Both.above c.in-Both.below = subst (AreParts C h) c.in-Both.is c.in_ok-above.ensures in
    let piece = cut_piece xs c.requires.spots c.args.i x f C D h Ge c.in-Some.ge cut.0 cut.1 both.above in
    goes xs c.requires.spots c.args.i x f C D h Ge c.in-Some.ge piece c.requires.holds (c.requires.few x f) short t c.decreases

pub overflow_add-ge : goal.overflow_add-ge
overflow_add-ge t c =
    let xs = c.args.nodes.now in
    let x = c.get-node.result.now in
    let f = c.get-node.ensures.item in
    let l = lt_within xs c.requires.spots c.args.i x c.in-Some.form.now f c.in-Some.ensures.0 in
    omega (arith, l, c.in-Some.ensures.1)

pub met_below-requires-in-Both : goal.met_below-requires-in-Both
met_below-requires-in-Both t c =
    let xs = c.args.nodes.now in
    let x = c.get-node.result.now in
    let f = c.get-node.ensures.item in
    let h = c.in-Some.form.now in
    let C : Area = c.args.cell.now in
    let cut = c.in-Some.ensures in
    let short = shorter xs c.requires.spots c.args.i x f h cut.0 c.in-Some.ge cut.1 c.path_at-path.result c.path_at-path.ensures (omega (arith, c.len.ensures.len, c.len.ensures.short)) in
    let D : Area = c.in-Both.below in
    let both : AreBoth C h c.in-Both.above c.in-Both.below = subst (AreParts C h) c.in-Both.is c.in_ok-above.ensures in
    let piece = cut_piece xs c.requires.spots c.args.i x f C D h Lt (c.in-Some.ge + 1) cut.0 (ap (λ n. n + 1) cut.1) both.below in
    goes xs c.requires.spots c.args.i x f C D h Lt (c.in-Some.ge + 1) piece c.requires.holds (c.requires.few x f) short t c.decreases

pub met_below-requires-in-AllGe : goal.met_below-requires-in-AllGe
met_below-requires-in-AllGe t c =
    let xs = c.args.nodes.now in
    let x = c.get-node.result.now in
    let f = c.get-node.ensures.item in
    let h = c.in-Some.form.now in
    let C : Area = c.args.cell.now in
    let cut = c.in-Some.ensures in
    let short = shorter xs c.requires.spots c.args.i x f h cut.0 c.in-Some.ge cut.1 c.path_at-path.result c.path_at-path.ensures (omega (arith, c.len.ensures.len, c.len.ensures.short)) in
    let all = subst (AreParts C h) c.in-AllGe.is c.in_ok-above.ensures in
    let piece = whole_piece xs c.requires.spots c.args.i x f C h Ge c.in-Some.ge cut.0 cut.1 all in
    goes xs c.requires.spots c.args.i x f C C h Ge c.in-Some.ge piece c.requires.holds (c.requires.few x f) short t c.decreases

pub overflow_add-ge-in-AllLt : goal.overflow_add-ge-in-AllLt
overflow_add-ge-in-AllLt t c =
    let xs = c.args.nodes.now in
    let x = c.get-node.result.now in
    let f = c.get-node.ensures.item in
    let l = lt_within xs c.requires.spots c.args.i x c.in-Some.form.now f c.in-Some.ensures.0 in
    omega (arith, l, c.in-Some.ensures.1)

pub met_below-requires-in-AllLt : goal.met_below-requires-in-AllLt
met_below-requires-in-AllLt t c =
    let xs = c.args.nodes.now in
    let x = c.get-node.result.now in
    let f = c.get-node.ensures.item in
    let h = c.in-Some.form.now in
    let C : Area = c.args.cell.now in
    let cut = c.in-Some.ensures in
    let short = shorter xs c.requires.spots c.args.i x f h cut.0 c.in-Some.ge cut.1 c.path_at-path.result c.path_at-path.ensures (omega (arith, c.len.ensures.len, c.len.ensures.short)) in
    let all = subst (AreParts C h) c.in-AllLt.is c.in_ok-above.ensures in
    let piece = whole_piece xs c.requires.spots c.args.i x f C h Lt (c.in-Some.ge + 1) cut.0 (ap (λ n. n + 1) cut.1) all in
    goes xs c.requires.spots c.args.i x f C C h Lt (c.in-Some.ge + 1) piece c.requires.holds (c.requires.few x f) short t c.decreases

pub returns-in_ok-met_below-in-Both : goal.returns-in_ok-met_below-in-Both
returns-in_ok-met_below-in-Both t c =
    let xs = c.args.nodes.now in
    let h = c.in-Some.form.now in
    let both : AreBoth c.args.cell.now h c.in-Both.above c.in-Both.below = subst (AreParts c.args.cell.now h) c.in-Both.is c.in_ok-above.ensures in
    subst (IsMet (root_of xs) (spots_tree xs) c.args.cell.now) (sym c.or.ensures)
    (met_both (root_of xs) (spots_tree xs) c.args.cell.now c.in-Both.above c.in-Both.below h c.in_ok-met-in-Both.met c.in_ok-met_below-in-Both.field-0 both.above both.below c.in_ok-met-in-Both.ensures c.in_ok-met_below-in-Both.ensures)
