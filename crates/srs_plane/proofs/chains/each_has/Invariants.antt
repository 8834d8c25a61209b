use Rattle.std.proofs.Common.{take}
use Rattle.std.specs.List.{AllByRecursion}
use Rattle.srs_plane.specs.Regions.{IsInHalf}
use Rattle.srs_plane.proofs.chains.each_has.Given as goal

abbrev pub invariant-loop-half : goal.invariant-loop-half
invariant-loop-half l = AllByRecursion (λ h. IsInHalf h l.corner) (take l.half-index l.halves)
