-- The item stands behind the last.
use Rattle.std.proofs.Common.{◌∙◌, arith}
use Rattle.srs_blocks.proofs.BlockLemmas.{writable, pushed}
use Rattle.srs_blocks.proofs.list.BlockList.push.Goals as goal

pub write_in-requires : goal.write_in-requires
write_in-requires g c = writable c.self.inside.rows.items c.self.inside.len c.self.inside.len c.self.invariant (omega arith)

pub invariant_of-self-2 : goal.invariant_of-self-2
invariant_of-self-2 g c =
    (pushed c.self.inside.rows.items c.write_in.new.rows.items c.args.item c.self.inside.len c.self.invariant (omega (arith, c.if-self-ge-LIMIT.false)) c.in_ok-write_in.ensures.ok).0

pub returns-clause-ok : goal.returns-clause-ok
returns-clause-ok g c =
    rw (← c.self.view_is) (pushed c.self.inside.rows.items c.write_in.new.rows.items c.args.item c.self.inside.len c.self.invariant (omega (arith, c.if-self-ge-LIMIT.false)) c.in_ok-write_in.ensures.ok).1
