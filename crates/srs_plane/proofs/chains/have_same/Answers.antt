use Rattle.std.proofs.Common.{◌<◌, length, refl, arith}
use Rattle.srs_plane.specs.Chains.{halves_of}
use Rattle.srs_plane.proofs.Growing.{same_next}
use Rattle.srs_plane.proofs.chains.have_same.Goals as goal

pub loop-i-preserved : goal.loop-i-preserved
loop-i-preserved c =
    let A = halves_of c.args.chain.now in
    let B = halves_of c.args.other.now in
    let a : c.loop-i.i < length A = omega (arith, c.requires.count) in
    let b : c.loop-i.i < length B = omega (arith, c.requires.other) in
    same_next A B c.loop-i.i c.nth.result c.nth-in-loop-i.result a b c.nth.ensures c.nth-in-loop-i.ensures (c.if-not-is_half.ensures.0 refl) c.loop-i.invariant
