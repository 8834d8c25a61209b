-- A write behind the last item is an append, and any other a change in place.
use Rattle.std.proofs.Common.{◌∙◌, sym, ap, length, arith}
use Rattle.srs_blocks.proofs.BlockLemmas.{written_end, written_within}
use Rattle.srs_blocks.proofs.few.Few.write.Goals as goal

pub returns-in_ok-push-clause-ok : goal.returns-in_ok-push-clause-ok
returns-in_ok-push-clause-ok g c =
    rw (← c.self.view_is) (c.in_ok-push.ensures.items ∙ sym (written_end c.self.inside.items.items c.args.i c.args.item (omega (arith, c.if-i-len.true, c.len.ensures))))

pub returns-else-i-len-clause-ok : goal.returns-else-i-len-clause-ok
returns-else-i-len-clause-ok g c =
    rw (← c.self.view_is) (sym (written_within c.self.inside.items.items c.args.i c.args.item (omega (arith, c.if-i-len.false, c.len.ensures, c.requires.0, ap length c.self.view_is))))
