use Rattle.std.proofs.Common.{[], ◌∷◌, length-append, arith}
use Rattle.srs_plane.specs.Chains.{halves_of}
use Rattle.std.specs.Arc.{arc_value}
use Rattle.srs_plane.proofs.Growing.{bounded_more}
use Rattle.srs_plane.proofs.regions.Region.with.Goals as goal

pub invariant_of-result : goal.invariant_of-result
invariant_of-result c =
    let R = halves_of (arc_value c.self.inside.chain) in
    let few = rw (← c.self.view_is) at c.requires in
    let count = c.self.invariant.1 in
    rw c.in_ok-longer.ensures (bounded_more R c.args.h c.self.invariant.0 few, omega (arith, length-append R (c.args.h ∷ [])))
