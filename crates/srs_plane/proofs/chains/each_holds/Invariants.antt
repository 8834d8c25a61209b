use Rattle.std.proofs.Common.{◌+◌, ◌≤◌, take}
use Rattle.std.specs.List.{AllByRecursion}
use Rattle.srs_plane.specs.Regions.{IsInHalf}
use Rattle.srs_plane.proofs.chains.each_holds.Given as goal

abbrev pub invariant-loop-h : goal.invariant-loop-h
invariant-loop-h g l = AllByRecursion (λ h. IsInHalf h l.r) (take l.h-index l.halves) × (l.steps ≤ l.initial.steps + l.h-index)
