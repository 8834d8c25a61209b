-- The first rows are shared.
use Rattle.std.proofs.Common.{◌≡◌, take}
use Rattle.srs_blocks.proofs.list.BlockList.share.Given as goal

abbrev pub invariant-loop-row : goal.invariant-loop-row
invariant-loop-row g l = l.rows.items ≡ take l.row-index l.row-items
