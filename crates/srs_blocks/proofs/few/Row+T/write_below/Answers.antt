-- A new block behind the last, or a change of one.
use Rattle.std.proofs.Common.{◌∙◌, sym, ap, length, arith}
use Rattle.srs_blocks.proofs.BlockLemmas.{block_new, block_changed}
use Rattle.srs_blocks.proofs.few.Row+T.write_below.Goals as goal

pub returns-in_ok-push-clause-ok : goal.returns-in_ok-push-clause-ok
returns-in_ok-push-clause-ok g c =
    rw (← c.self.view_is) (block_new c.self.inside.items.items c.push.new.self.items c.args.block c.args.i c.args.item c.in_ok-new.field-0
    (omega (arith, c.if-block-len.true, c.len.ensures)) (c.in_ok-new.ensures ∙ c.in_ok-one.ensures) c.in_ok-push.ensures.items)

pub returns-in_ok-write-clause-ok : goal.returns-in_ok-write-clause-ok
returns-in_ok-write-clause-ok g c =
    rw (← c.self.view_is) (block_changed c.self.inside.items.items c.args.block c.args.i c.args.item c.index_mut.result.now c.write.new.self
    (omega (arith, c.if-block-len.false, c.len.ensures, c.requires.block.0, ap length c.self.view_is)) c.index_mut.ensures.value c.in_ok-write.ensures.ok)
