-- The first items are copied.
use Rattle.std.proofs.Common.{◌≡◌, take}
use Rattle.srs_blocks.proofs.few.Few.copy.Given as goal

abbrev pub invariant-loop-item : goal.invariant-loop-item
invariant-loop-item g l = l.items.items ≡ take l.item-index l.self
