use Rattle.std.proofs.Common.{◌≡◌, Some, arith, slice_get, w64, FitsSigned, pos, ◌≤ℤ◌}
use Rattle.std.proofs.lemmas.Int.{ints, to_z-of_z}
use Rattle.std.proofs.lemmas.Option.{slice_get_within}
use Rattle.srs_path.proofs.Ranked.{has_ranked, has_pair, rank_within}
use Rattle.srs_path.proofs.ranks.Ranks.rank.Goals as goal

pub returns-in_err-place-clause-none : goal.returns-in_err-place-clause-none
returns-in_err-place-clause-none c =
    rw (c.from_residual.ensures, ← c.self.view_is) (λ n has. c.in_err-place.ensures (rw c.as_slice.ensures (has_pair c.self.inside.pairs c.self.inside.ranks c.args.w n c.self.invariant.same has)))

pub get-requires : goal.get-requires
get-requires c =
    let found : slice_get c.self.inside.pairs c.in_ok-place.place ≡ Some c.args.w = rw (← c.as_slice.ensures) c.in_ok-place.ensures in
    omega (arith, slice_get_within c.self.inside.pairs c.in_ok-place.place c.args.w found, c.self.invariant.same)

pub overflow_cast-result : goal.overflow_cast-result
overflow_cast-result c =
    let z = c.get.result.now in
    let within = rank_within c.self.inside.pairs c.self.inside.ranks c.in_ok-place.place z c.self.invariant c.get.ensures in
    let low : pos 0 ≤ℤ z = within.0 in
    let high : z ≤ℤ pos 16384 = within.1 in
    let f : FitsSigned w64 z = omega (arith, ints) in
    grind (arith, ints)

pub returns-clause-some : goal.returns-clause-some
returns-clause-some c =
    let z = c.get.result.now in
    let within = rank_within c.self.inside.pairs c.self.inside.ranks c.in_ok-place.place z c.self.invariant c.get.ensures in
    let low : pos 0 ≤ℤ z = within.0 in
    let high : z ≤ℤ pos 16384 = within.1 in
    let f : FitsSigned w64 z = omega (arith, ints) in
    let found : slice_get c.self.inside.pairs c.in_ok-place.place ≡ Some c.args.w = rw (← c.as_slice.ensures) c.in_ok-place.ensures in
    rw (← c.self.view_is) (simp to_z-of_z (has_ranked c.self.inside.pairs c.self.inside.ranks c.in_ok-place.place c.args.w z found c.get.ensures))
