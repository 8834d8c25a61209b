use Rattle.std.proofs.Common.{arith}
use Rattle.srs_cell.specs.Corners.{boxed}
use Rattle.srs_cell.proofs.Areas.{whole_more, part_more}
use Rattle.srs_cell.proofs.Counting.{none_below}
use Rattle.srs_cell.proofs.Cuts.{region_cut}
use Rattle.srs_cell.proofs.Joining.{part_joined}
use Rattle.srs_cell.proofs.corners.part_corners.Goals as goal

pub returns-then-tally-eq0 : goal.returns-then-tally-eq0
returns-then-tally-eq0 c = λ R corners section h e.
    rw (c.in_ok-copy.ensures, c.as_slice.ensures) (whole_more R h c.args.corners.now corners
    (rw e (none_below c.args.section.now.line c.args.corners.now c.args.tally c.requires.tally c.if-tally-eq0.true)))

pub unreachable-requires : goal.unreachable-requires
unreachable-requires c =
    let k = region_cut c.requires.section.0 c.args.corners.now c.in_ok-part.part.items c.args.section.now.line c.args.tally c.requires.section.1 (rw c.as_slice-2.ensures at c.in_ok-part.ensures)
    c.requires.tally c.requires.some (omega (arith, c.if-tally-eq0.false)) in
    k.first (rw c.in_default.is at c.requires.section.2.first)

pub unreachable-requires-in_default-second : goal.unreachable-requires-in_default-second
unreachable-requires-in_default-second c =
    let k = region_cut c.requires.section.0 c.args.corners.now c.in_ok-part.part.items c.args.section.now.line c.args.tally c.requires.section.1 (rw c.as_slice-2.ensures at c.in_ok-part.ensures)
    c.requires.tally c.requires.some (omega (arith, c.if-tally-eq0.false)) in
    k.second (rw c.in_default-second.is at c.requires.section.2.second)

pub returns : goal.returns
returns c = λ R corners section.
    let g = c.args.section.now.line in
    let cs = c.args.corners.now in
    let x = c.in-Some.first in
    let y = c.in-Some-second.second in
    let k = region_cut R cs c.in_ok-part.part.items g c.args.tally corners (rw c.as_slice-2.ensures at c.in_ok-part.ensures) c.requires.tally c.requires.some (omega (arith, c.if-tally-eq0.false)) in
    let part = part_joined (boxed R) cs g c.in_ok-part.part.items c.join_corner.new.corners.items c.join_corner-2.new.corners.items x y
    c.in_ok-join_corner.ensures c.in_ok-join_corner-2.ensures (k.ends x y (rw c.in-Some.is at section.first) (rw c.in-Some-second.is at section.second)) in
    λ h e. part_more R h cs c.join_corner-2.new.corners.items corners (rw e part)
