use Rattle.std.proofs.Common.{arith, length, ◌<◌, w64, FitsSigned, pos, ◌≤ℤ◌}
use Rattle.std.proofs.lemmas.Int.{ints, to_z-of_z}
use Rattle.srs_path.specs.Lists.{ranked}
use Rattle.srs_path.proofs.Ranked.{length-ranked, get-ranked, rank_within}
use Rattle.srs_path.proofs.ranks.Ranks.entry.Goals as goal

pub get-requires : goal.get-requires
get-requires c =
    let short : c.args.i < length (ranked c.self.inside.pairs c.self.inside.ranks) = rw (c.self.view_is) c.requires in
    omega (arith, short, length-ranked c.self.inside.pairs c.self.inside.ranks c.self.invariant.same)

pub get-requires-2 : goal.get-requires-2
get-requires-2 c =
    let short : c.args.i < length (ranked c.self.inside.pairs c.self.inside.ranks) = rw (c.self.view_is) c.requires in
    omega (arith, short, c.self.invariant.same, length-ranked c.self.inside.pairs c.self.inside.ranks c.self.invariant.same)

pub overflow_cast-result : goal.overflow_cast-result
overflow_cast-result c =
    let z = c.get-2.result.now in
    let low : pos 0 ≤ℤ z = (rank_within c.self.inside.pairs c.self.inside.ranks c.args.i z c.self.invariant c.get-2.ensures).0 in
    let high : z ≤ℤ pos 16384 = (rank_within c.self.inside.pairs c.self.inside.ranks c.args.i z c.self.invariant c.get-2.ensures).1 in
    let f : FitsSigned w64 z = omega (arith, ints) in
    grind (arith, ints)

pub returns : goal.returns
returns c =
    let z = c.get-2.result.now in
    let low : pos 0 ≤ℤ z = (rank_within c.self.inside.pairs c.self.inside.ranks c.args.i z c.self.invariant c.get-2.ensures).0 in
    let high : z ≤ℤ pos 16384 = (rank_within c.self.inside.pairs c.self.inside.ranks c.args.i z c.self.invariant c.get-2.ensures).1 in
    let f : FitsSigned w64 z = omega (arith, ints) in
    rw (← c.self.view_is) (simp to_z-of_z (get-ranked c.self.inside.pairs c.self.inside.ranks c.args.i c.get.result.now z c.get.ensures c.get-2.ensures))
