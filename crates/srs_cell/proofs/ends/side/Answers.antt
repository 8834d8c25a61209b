use Rattle.std.proofs.Common.{FitsSigned, w64}
use Rattle.std.proofs.lemmas.Int.{to_z-of_z}
use Rattle.srs_cell.specs.Corners.{side}
use Rattle.srs_cell.proofs.ends.side.Goals as goal

pub returns : goal.returns
unfolding side
returns c =
    let fa : FitsSigned w64 c.args.a = c.ranges.a in
    let fb : FitsSigned w64 c.args.b = c.ranges.b in
    simp to_z-of_z at c.in-Some.ensures.some
