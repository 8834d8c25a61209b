use Rattle.std.proofs.Common.{◌<◌, ◌≤◌, length, take, arith}
use Rattle.srs_cell.proofs.Areas.{corners_whole, corners_part, corners_nothing, corners_done}
use Rattle.srs_cell.proofs.corners.corners_of.Goals as goal
use Rattle.srs_cell.proofs.corners.corners_of.Goals.{in-Whole, in-Part}

pub loop-i-init : goal.loop-i-init
loop-i-init c = c.in_ok-corners.ensures

pub returns-in-Nothing-clause-found : goal.returns-in-Nothing-clause-found
returns-in-Nothing-clause-found c =
    let R = c.args.region.now in
    let within : c.loop-i.i < length R = omega arith in
    let left = c.in_ok-clip_corners.ensures (take c.loop-i.i R) (rw c.deref.ensures.value c.loop-i.invariant.hull) c.of-section.ensures.section in
    corners_nothing R c.loop-i.i c.half-half.result c.loop-i.corners.items within c.half-half.ensures c.loop-i.invariant
    (rw (c.in-Nothing.is, c.deref.ensures.value, c.of-section.ensures.line) at left)

pub loop-i-preserved : goal.loop-i-preserved
loop-i-preserved c =
    let R = c.args.region.now in
    let h = c.half-half.result in
    let cs = c.loop-i.corners.items in
    let within : c.loop-i.i < length R = omega arith in
    let left = c.in_ok-clip_corners.ensures (take c.loop-i.i R) (rw c.deref.ensures.value c.loop-i.invariant.hull) c.of-section.ensures.section in
    elim c.match-branch-3.branch [
      | in-Whole w ↦ rw w.corners-is (corners_whole R c.loop-i.i h cs within c.half-half.ensures c.loop-i.invariant
          (rw (w.in-Whole.is, c.deref.ensures.value, c.of-section.ensures.line) at left))
      | in-Part w ↦ rw w.corners-is (corners_part R c.loop-i.i h cs w.in-Part.part.items within c.half-half.ensures c.loop-i.invariant
          (rw (w.in-Part.is, c.deref.ensures.value, c.of-section.ensures.line) at left))
    ]

pub returns : goal.returns
returns c =
    let R = c.args.region.now in
    let past : length R ≤ c.loop-i.i = omega arith in
    record { count = omega arith; near = c.len-count.ensures.near; found = corners_done R c.loop-i.i c.loop-i.corners.items past c.loop-i.invariant }
