-- The opposite of the form of an open half.
use Rattle.std.proofs.Common.{sym, subst}
use Rattle.srs_plane.specs.Regions.{IsInHalf}
use Rattle.srs_cell.specs.Parts.{AreParts, AreBoth}
use Rattle.srs_tree.specs.Clips.{IsClip}
use Rattle.srs_tree.proofs.Clipping.{gt_both, gt_all, gt_none}
use Rattle.srs_tree.proofs.meetings.clipped_open.Goals as goal

pub returns-in-Both-clause-clip : goal.returns-in-Both-clause-clip
returns-in-Both-clause-clip c =
    let parts : AreBoth c.args.cell c.opposite.result c.in-Both.field-0 c.in-Both.inside = subst (AreParts c.args.cell c.opposite.result) c.in-Both.is c.in_ok-inside.ensures in
    subst (IsClip c.args.cell (IsInHalf c.args.half.now)) (sym c.part.ensures)
    (gt_both c.args.cell c.args.half.now c.requires.strict c.opposite.result c.opposite.ensures c.in-Both.field-0 c.in-Both.inside parts)

pub returns-in-AllGe-clause-clip : goal.returns-in-AllGe-clause-clip
returns-in-AllGe-clause-clip c =
    subst (IsClip c.args.cell (IsInHalf c.args.half.now)) (sym c.nothing.ensures)
    (gt_none c.args.cell c.args.half.now c.requires.strict c.opposite.result c.opposite.ensures c.region.ensures.has_point (subst (AreParts c.args.cell c.opposite.result) c.in-AllGe.is c.in_ok-inside.ensures))

pub returns-in-AllLt-clause-clip : goal.returns-in-AllLt-clause-clip
returns-in-AllLt-clause-clip c =
    subst (IsClip c.args.cell (IsInHalf c.args.half.now)) (sym c.whole.ensures)
    (gt_all c.args.cell c.args.half.now c.requires.strict c.opposite.result c.opposite.ensures (subst (AreParts c.args.cell c.opposite.result) c.in-AllLt.is c.in_ok-inside.ensures))
