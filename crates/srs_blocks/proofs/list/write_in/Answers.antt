-- A new row behind the last, or a change of one.
use Rattle.std.proofs.Common.{◌/◌, ◌%◌, ◌∙◌, arith}
use Rattle.srs_blocks.proofs.BlockLemmas.{row_new, row_changed}
use Rattle.srs_blocks.proofs.list.write_in.Goals as goal

pub returns-in_ok-push-clause-ok : goal.returns-in_ok-push-clause-ok
returns-in_ok-push-clause-ok g c =
    row_new c.args.rows.now.items c.push.new.self.items (c.args.i / 64 / 64) (c.args.i / 64 % 64) (c.args.i % 64) c.args.item c.in_ok-new.field-0 c.in_ok-block.block
    (omega (arith, c.if-row-len.true, c.len.ensures)) (c.in_ok-block.ensures ∙ c.in_ok-one.ensures) (c.in_ok-new.ensures ∙ c.in_ok-one-2.ensures) c.in_ok-push.ensures.items

pub returns-in_ok-write_below-clause-ok : goal.returns-in_ok-write_below-clause-ok
returns-in_ok-write_below-clause-ok g c =
    row_changed c.args.rows.now.items (c.args.i / 64 / 64) (c.args.i / 64 % 64) (c.args.i % 64) c.args.item c.index_mut.result.now c.write_below.new.self
    (omega (arith, c.if-row-len.false, c.len.ensures, c.requires.row)) c.index_mut.ensures.value c.in_ok-write_below.ensures.ok
