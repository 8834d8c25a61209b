use Rattle.std.proofs.Common.{◌+◌, ◌-◌, ◌/◌, refl, sym, arith, true≢false}
use Rattle.srs_check.proofs.PlaceLemmas.{search_above, search_below}
use Rattle.srs_check.proofs.places.place_for.Goals as goal

pub loop-low-preserved-then-precedes : goal.loop-low-preserved-then-precedes
loop-low-preserved-then-precedes c =
    search_above c.args.ranks.now c.len-high.ensures.list c.args.w c.loop-low.low c.loop-low.high (c.loop-low.low + (c.loop-low.high - c.loop-low.low) / 2) c.loop-low.invariant
    c.entry.result.0 c.entry.result.1 c.entry.ensures (omega arith) (omega arith) (c.if-precedes.ensures.0 refl)

pub loop-low-preserved : goal.loop-low-preserved
loop-low-preserved c =
    search_below c.args.ranks.now c.len-high.ensures.list c.args.w c.loop-low.low c.loop-low.high (c.loop-low.low + (c.loop-low.high - c.loop-low.low) / 2) c.loop-low.invariant
    c.entry.result.0 c.entry.result.1 c.entry.ensures (omega arith) (omega arith) (λ p. true≢false (sym (c.if-precedes.ensures.1 p)))
