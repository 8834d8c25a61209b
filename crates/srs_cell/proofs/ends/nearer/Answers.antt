use Rattle.std.proofs.Common.{pos, ◌≤ℤ◌, ◌<ℤ◌, arith}
use Rattle.std.proofs.lemmas.Int.{ints}
use Rattle.srs_cell.proofs.Section.{end_passed}
use Rattle.srs_cell.proofs.Signs.{at_most_by, above_by}
use Rattle.srs_cell.proofs.ends.nearer.Goals as goal

pub returns-then-turn-le0 : goal.returns-then-turn-le0
returns-then-turn-le0 c = λ hs s.
    let low : c.turn.result ≤ℤ pos 0 = omega (arith, ints) in
    end_passed _ hs _ _ (at_most_by _ _ c.turn.ensures low) s

pub moved-requires : goal.moved-requires
moved-requires c =
    let high : pos 0 <ℤ c.turn.result = omega (arith, ints) in
    above_by _ _ c.turn.ensures high
