use Rattle.std.proofs.Common.{◌≡◌, take}
use Rattle.srs_plane.specs.Chains.{halves_of}
use Rattle.srs_plane.proofs.chains.have_same.Given as goal

abbrev pub invariant-loop-i : goal.invariant-loop-i
invariant-loop-i l = take l.i (halves_of l.chain) ≡ take l.i (halves_of l.other)
