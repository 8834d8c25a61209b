use Rattle.std.proofs.Common.{arith, ◌∙◌, ◌+◌, ◌++◌, [], ◌∷◌, ◌<◌, length, refl}
use Rattle.srs_graph.specs.Networks.{pair_at}
use Rattle.srs_graph.proofs.Picking.{picked_skip, picked_more, picked_along, some_of}
use Rattle.srs_graph.proofs.Marking.{no_some}
use Rattle.srs_graph.proofs.listing.open_pairs.Goals as goal
use Rattle.srs_graph.proofs.listing.open_pairs.Goals.{then-is_none+in_ok-add_pair, else-is_none}

pub loop-i-preserved : goal.loop-i-preserved
loop-i-preserved c =
    let h : c.loop-i.i < length c.args.pairs.now = omega (arith, c.requires) in
    elim c.if-is_none.branch [
      | then-is_none+in_ok-add_pair w ↦
          picked_along c.args.pairs.now c.args.marks.now (c.loop-i.i + 1) c.if-is_none.found (c.loop-i.found ++ pair_at c.args.pairs.now c.loop-i.i ∷ []) (w.found-is ∙ w.in_ok-add_pair.ensures)
          (picked_more c.args.pairs.now c.args.marks.now c.loop-i.i c.loop-i.found (pair_at c.args.pairs.now c.loop-i.i) c.loop-i.invariant h refl (no_some _ w.if-is_none.ensures))
      | else-is_none w ↦
          let n = some_of _ w.if-is_none.ensures in
          picked_along c.args.pairs.now c.args.marks.now (c.loop-i.i + 1) c.if-is_none.found c.loop-i.found w.found-is
          (picked_skip c.args.pairs.now c.args.marks.now c.loop-i.i n.0 c.loop-i.found c.loop-i.invariant n.1)
    ]
