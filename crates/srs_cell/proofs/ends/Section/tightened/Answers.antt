use Rattle.std.proofs.Common.{pos, ◌≤ℤ◌, arith, ◌<ℤ◌}
use Rattle.std.proofs.lemmas.Int.{ints}
use Rattle.srs_cell.proofs.Signs.{at_most_by, above_by}
use Rattle.srs_cell.proofs.Tightening.{end_front, end_stays, low_back, up_back}
use Rattle.srs_cell.proofs.ends.Section.tightened.Goals as goal

pub returns-then-turned-gt0-clause-section : goal.returns-then-turned-gt0-clause-section
returns-then-turned-gt0-clause-section c = λ hs i.
    let up : pos 0 ≤ℤ c.turn-turned.result = omega (arith, ints) in
    record {
      first = end_front _ hs _ _ (c.moved.ensures hs i.first);
      second = end_stays _ hs _ _ (low_back _ _ c.turn-turned.result c.turn-turned.ensures up) i.second;
    }

pub returns-then-turned-lt0-clause-section : goal.returns-then-turned-lt0-clause-section
returns-then-turned-lt0-clause-section c = λ hs i.
    let low : c.turn-turned.result ≤ℤ pos 0 = omega (arith, ints) in
    record {
      first = end_stays _ hs _ _ (at_most_by _ _ c.turn-turned.ensures low) i.first;
      second = end_front _ hs _ _ (rw c.opposite.ensures at (c.moved-then-turned-lt0.ensures hs) i.second);
    }

pub returns-clause-section : goal.returns-clause-section
returns-clause-section c = λ hs i.
    let low : c.turn-turned.result ≤ℤ pos 0 = omega (arith, ints) in
    let up : pos 0 ≤ℤ c.turn-turned.result = omega (arith, ints) in
    record {
      first = end_stays _ hs _ _ (at_most_by _ _ c.turn-turned.ensures low) i.first;
      second = end_stays _ hs _ _ (low_back _ _ c.turn-turned.result c.turn-turned.ensures up) i.second;
    }

pub moved-requires : goal.moved-requires
moved-requires c =
    let up : pos 0 <ℤ c.turn-turned.result = omega (arith, ints) in
    above_by _ _ c.turn-turned.ensures up

pub moved-requires-then-turned-lt0 : goal.moved-requires-then-turned-lt0
moved-requires-then-turned-lt0 c =
    let low : c.turn-turned.result <ℤ pos 0 = omega (arith, ints) in
    rw c.opposite.ensures (up_back _ _ c.turn-turned.result c.turn-turned.ensures low)
