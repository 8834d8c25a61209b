-- The cell was cut by the first halves.
use Rattle.std.proofs.Common.{◌+◌, ◌≤◌, length, take, Some}
use Rattle.srs_plane.specs.Regions.{IsIn}
use Rattle.srs_tree.specs.Clips.{IsClip}
use Rattle.srs_tree.proofs.meetings.within.Given as goal

abbrev pub invariant-loop-i : goal.invariant-loop-i
invariant-loop-i l = record {
  clip : IsClip l.q (IsIn (take l.i l.root)) (record { inside = Some l.inside; beyond = l.beyond });
  few : length l.inside ≤ length l.q + l.i;
}
