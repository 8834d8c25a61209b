use Rattle.std.proofs.Common.{map}
use Rattle.std.proofs.lemmas.Bool.{false≢true}
use Rattle.srs_cell.specs.Corners.{boxed}
use Rattle.srs_cell.proofs.Boxed.{box-IsBoxed}
use Rattle.srs_cell.proofs.Cuts.{cut_of}
use Rattle.srs_cell.proofs.Joining.{part_joined}
use Rattle.srs_cell.proofs.corners.clip_corners.Goals as goal

pub unreachable-requires : goal.unreachable-requires
unreachable-requires c =
    let R = c.requires.section.0 in
    let k = cut_of (boxed R) c.args.corners.now c.in_ok-part.part.items c.args.section.now.line c.requires.section.1 c.requires.sized (box-IsBoxed (map (λ h. h.form) R))
    c.in_ok-part.ensures (λ a. false≢true (c.if-all_above.ensures.1 a)) (λ a. false≢true (c.if-all_below.ensures.1 a)) in
    k.first (rw c.in_default.is at c.requires.section.2.first)

pub unreachable-requires-in_default-second : goal.unreachable-requires-in_default-second
unreachable-requires-in_default-second c =
    let R = c.requires.section.0 in
    let k = cut_of (boxed R) c.args.corners.now c.in_ok-part.part.items c.args.section.now.line c.requires.section.1 c.requires.sized (box-IsBoxed (map (λ h. h.form) R))
    c.in_ok-part.ensures (λ a. false≢true (c.if-all_above.ensures.1 a)) (λ a. false≢true (c.if-all_below.ensures.1 a)) in
    k.second (rw c.in_default-second.is at c.requires.section.2.second)

pub returns : goal.returns
returns c = λ R hull section.
    let k = cut_of (boxed R) c.args.corners.now c.in_ok-part.part.items c.args.section.now.line hull c.requires.sized (box-IsBoxed (map (λ h. h.form) R))
    c.in_ok-part.ensures (λ a. false≢true (c.if-all_above.ensures.1 a)) (λ a. false≢true (c.if-all_below.ensures.1 a)) in
    part_joined (boxed R) c.args.corners.now c.args.section.now.line c.in_ok-part.part.items c.join_corner.new.corners.items c.join_corner-2.new.corners.items c.in-Some.first c.in-Some-second.second
    c.in_ok-join_corner.ensures c.in_ok-join_corner-2.ensures (k.ends c.in-Some.first c.in-Some-second.second (rw c.in-Some.is at section.first) (rw c.in-Some-second.is at section.second))
