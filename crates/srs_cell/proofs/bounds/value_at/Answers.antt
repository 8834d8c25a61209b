use Rattle.std.proofs.Common.{FitsSigned, ◌^◌, lit<}
use Rattle.std.specs.Int.{w128}
use Rattle.std.proofs.lemmas.Int.{to_z-of_z}
use Rattle.srs_num.specs.Points.{IsWithin}
use Rattle.srs_num.proofs.Ranges.{small_fits}
use Rattle.srs_cell.proofs.Infima.{value_within}
use Rattle.srs_cell.proofs.bounds.value_at.Goals as goal

pub returns-clause-sized : goal.returns-clause-sized
returns-clause-sized c =
    let sized : IsWithin (2 ^ 117) c.at_corner.result = rw c.at_corner.ensures (value_within c.args.form.now c.args.corner.now c.parts.ensures.sized c.requires) in
    let fits : FitsSigned w128 c.at_corner.result = small_fits w128 c.at_corner.result (2 ^ 117) sized (lit< tt) in
    simp to_z-of_z sized
