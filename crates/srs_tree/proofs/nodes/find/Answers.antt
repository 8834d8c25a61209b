-- A cut's parts stand where it says, and below a cell without a cut there are no cells.
use Rattle.std.proofs.Common.{◌+◌, arith, take}
use Rattle.srs_tree.specs.Growth.{IsLongestCell}
use Rattle.srs_tree.specs.Nodes.{spots_tree, part_place, IsPlaceOf}
use Rattle.srs_tree.proofs.Descent.{read_spot, lt_within, next_place, stops_at, stops_short}
use Rattle.srs_tree.proofs.nodes.find.Goals as goal

pub part-requires : goal.part-requires
part-requires c = λ h cut.
    let x = read_spot _ _ _ _ c.loop-i.invariant c.get-node.ensures.item in
    let l = lt_within _ c.requires _ _ h x.0 cut in
    omega (arith, l)

pub returns-in-None-clause-not_there : goal.returns-in-None-clause-not_there
returns-in-None-clause-not_there c =
    let x = read_spot _ _ _ _ c.loop-i.invariant c.get-node.ensures.item in
    let stop : IsLongestCell (spots_tree c.args.nodes.now) c.args.path.now c.get-node.result.now.path
    = stops_at _ c.requires c.args.path.now c.loop-i.i _ _ x.0 x.1 c.in-None.ensures.none in
    rw c.path.ensures stop

pub returns-in-None-clause-no_cell : goal.returns-in-None-clause-no_cell
returns-in-None-clause-no_cell c =
    let x = read_spot _ _ _ _ c.loop-i.invariant c.get-node.ensures.item in
    stops_short _ c.requires c.args.path.now c.loop-i.i _ _ x.0 x.1 c.in-None.ensures.none (omega arith)

pub loop-i-preserved : goal.loop-i-preserved
loop-i-preserved c =
    let x = read_spot _ _ _ _ c.loop-i.invariant c.get-node.ensures.item in
    let t = c.in-Some.ensures.some in
    let next : IsPlaceOf c.args.nodes.now (take (c.loop-i.i + 1) c.args.path.now) (part_place c.get-node.result.now.parts c.side.result)
    = next_place _ c.requires c.args.path.now c.loop-i.i _ _ c.side.result t.1.0 x.0 x.1 (omega arith) c.side.ensures t.1.1 in
    rw t.0 next
