use Rattle.srs_map.proofs.Ends.{zero_end, zero_late, wide_end, wide_late, apart_end}
use Rattle.srs_map.proofs.orbits.orbit.Goals as goal

pub returns-then-k-n : goal.returns-then-k-n
returns-then-k-n c = zero_end c.args.r.now c.args.z c.args.n c.in-Origin.k c.in-Origin.ensures c.if-k-n.true

pub returns-else-k-n : goal.returns-else-k-n
returns-else-k-n c = zero_late c.args.r.now c.args.z c.args.n c.in-Origin.k c.in-Origin.ensures c.if-k-n.false

pub returns-then-k-n-2 : goal.returns-then-k-n-2
returns-then-k-n-2 c = wide_end c.args.r.now c.args.z c.args.n c.in-Beyond.k c.in-Beyond.ensures c.if-k-n-2.true

pub returns-else-k-n-2 : goal.returns-else-k-n-2
returns-else-k-n-2 c = wide_late c.args.r.now c.args.z c.args.n c.in-Beyond.k c.in-Beyond.ensures c.if-k-n-2.false

pub returns-in-Apart : goal.returns-in-Apart
returns-in-Apart c = apart_end c.args.r.now c.args.z c.args.n c.in-Apart.ensures
