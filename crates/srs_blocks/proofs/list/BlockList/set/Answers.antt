-- The item stands at its place.
use Rattle.std.proofs.Common.{ap, length, arith}
use Rattle.srs_blocks.proofs.BlockLemmas.{seen_get, writable, changed}
use Rattle.srs_blocks.proofs.list.BlockList.set.Goals as goal

pub write_in-requires : goal.write_in-requires
write_in-requires g c =
    let seen = seen_get c.self.inside.rows.items c.args.i c.self.inside.len c.self.invariant (omega (arith, c.requires, ap length c.self.view_is)) in
    writable c.self.inside.rows.items c.args.i c.self.inside.len c.self.invariant (omega (arith, seen.0))

pub invariant_of-self-2 : goal.invariant_of-self-2
invariant_of-self-2 g c =
    let seen = seen_get c.self.inside.rows.items c.args.i c.self.inside.len c.self.invariant (omega (arith, c.requires, ap length c.self.view_is)) in
    (changed c.self.inside.rows.items c.write_in.new.rows.items c.args.item c.self.inside.len c.args.i c.self.invariant seen.0 c.in_ok-write_in.ensures.ok).0

pub returns-clause-ok : goal.returns-clause-ok
returns-clause-ok g c =
    let seen = seen_get c.self.inside.rows.items c.args.i c.self.inside.len c.self.invariant (omega (arith, c.requires, ap length c.self.view_is)) in
    rw (← c.self.view_is) (changed c.self.inside.rows.items c.write_in.new.rows.items c.args.item c.self.inside.len c.args.i c.self.invariant seen.0 c.in_ok-write_in.ensures.ok).1
