-- The form of a closed half.
use Rattle.std.proofs.Common.{sym, subst}
use Rattle.srs_plane.specs.Regions.{IsInHalf}
use Rattle.srs_cell.specs.Parts.{AreParts, AreBoth}
use Rattle.srs_tree.specs.Clips.{IsClip}
use Rattle.srs_tree.proofs.Clipping.{ge_both, ge_all, ge_none}
use Rattle.srs_tree.proofs.meetings.clipped_closed.Goals as goal

pub returns-in-Both-clause-clip : goal.returns-in-Both-clause-clip
returns-in-Both-clause-clip c =
    let parts : AreBoth c.args.cell c.args.half.now.form c.in-Both.inside c.in-Both.field-1 = subst (AreParts c.args.cell c.args.half.now.form) c.in-Both.is c.in_ok-inside.ensures in
    subst (IsClip c.args.cell (IsInHalf c.args.half.now)) (sym c.part.ensures) (ge_both c.args.cell c.args.half.now c.requires.closed c.in-Both.inside c.in-Both.field-1 parts)

pub returns-in-AllGe-clause-clip : goal.returns-in-AllGe-clause-clip
returns-in-AllGe-clause-clip c =
    subst (IsClip c.args.cell (IsInHalf c.args.half.now)) (sym c.whole.ensures)
    (ge_all c.args.cell c.args.half.now c.requires.closed (subst (AreParts c.args.cell c.args.half.now.form) c.in-AllGe.is c.in_ok-inside.ensures))

pub returns-in-AllLt-clause-clip : goal.returns-in-AllLt-clause-clip
returns-in-AllLt-clause-clip c =
    subst (IsClip c.args.cell (IsInHalf c.args.half.now)) (sym c.nothing.ensures)
    (ge_none c.args.cell c.args.half.now c.requires.closed c.region.ensures.has_point (subst (AreParts c.args.cell c.args.half.now.form) c.in-AllLt.is c.in_ok-inside.ensures))
