-- The item stands in its block.
use Rattle.std.proofs.Common.{◌∙◌, ap, sym, length, slice_get, arith}
use Rattle.srs_blocks.proofs.BlockLemmas.{row_there, block_there, item_there, item_is}
use Rattle.srs_blocks.proofs.list.BlockList.get.Goals as goal

pub index-requires : goal.index-requires
index-requires g c = let t = row_there c.self.inside.rows.items c.self.inside.len c.args.i c.self.invariant (omega (arith, c.requires, ap length c.self.view_is)) in omega (arith, t)

pub get-requires : goal.get-requires
get-requires g c =
    block_there c.self.inside.rows.items c.self.inside.len c.args.i c.self.invariant (omega (arith, c.requires, ap length c.self.view_is))
    c.index.result.now c.get-row.result.now c.index.ensures c.get-row.ensures

pub get-requires-3 : goal.get-requires-3
get-requires-3 g c =
    item_there c.self.inside.rows.items c.self.inside.len c.args.i c.self.invariant (omega (arith, c.requires, ap length c.self.view_is))
    c.index.result.now c.get-row.result.now c.index.ensures c.get-row.ensures c.get.result.now c.get-2.result.now c.get.ensures c.get-2.ensures

pub returns-clause-item : goal.returns-clause-item
returns-clause-item g c =
    rw (← c.self.view_is) (sym (item_is c.self.inside.rows.items c.self.inside.len c.args.i c.self.invariant (omega (arith, c.requires, ap length c.self.view_is))
    c.index.result.now c.get-row.result.now c.index.ensures c.get-row.ensures c.get.result.now c.get-2.result.now c.get.ensures c.get-2.ensures) ∙ c.get-3.ensures)
