use Rattle.std.proofs.Common.{◌-◌}
use Rattle.srs_check.proofs.PlaceLemmas.{Searching}
use Rattle.srs_check.proofs.places.place_for.Given as goal

abbrev pub invariant-loop-low : goal.invariant-loop-low
invariant-loop-low l = Searching l.ranks l.w l.low l.high

abbrev pub decreases-loop-low : goal.decreases-loop-low
decreases-loop-low l = l.high - l.low
