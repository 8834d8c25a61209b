use Rattle.std.proofs.Common.{pos, ◌≤ℤ◌, ◌<ℤ◌, arith}
use Rattle.std.proofs.lemmas.Int.{ints}
use Rattle.srs_cell.proofs.Section.{end_kept, end_begun, end_moved}
use Rattle.srs_cell.proofs.Signs.{at_least_by, below_by}
use Rattle.srs_cell.proofs.ends.moved.Goals as goal
use Rattle.srs_cell.proofs.ends.moved.Goals.{in-Some+else-at_corner-ge0, in_default}

pub returns-then-at_corner-ge0 : goal.returns-then-at_corner-ge0
returns-then-at_corner-ge0 c = λ hs s.
    let high : pos 0 ≤ℤ c.at_corner.result = omega (arith, ints) in
    end_kept _ hs _ _ _ c.in-Some.is (at_least_by _ _ c.at_corner.ensures high) s

pub returns : goal.returns
returns c = λ hs s.
    elim c.match-end.branch [
      | in-Some+else-at_corner-ge0 w ↦
          let low : w.at_corner.result <ℤ pos 0 = omega (arith, ints) in
          end_moved _ hs _ _ _ _ w.in-Some.is (below_by _ _ w.at_corner.ensures low) c.requires c.crossing_of.ensures.value c.crossing_of.ensures.sized s
      | in_default w ↦ end_begun _ hs _ _ _ w.in_default.is c.requires c.crossing_of.ensures.value c.crossing_of.ensures.sized s
    ]
