use Rattle.std.proofs.Common.{rules, FitsSigned, w64, to_z-of_z}
use Rattle.srs_check.proofs.BothLinks.{steps_above}
use Rattle.srs_check.proofs.listed.leads_above.Goals as goal

pub returns : goal.returns
returns c t =
    let low : FitsSigned w64 c.args.low = search rules in
    let first : FitsSigned w64 c.steps_from.result.low = search rules in
    steps_above c.args.cell.now c.args.w c.args.low c.steps_from.result.low c.steps_from.result.high c.steps_from.ensures (rw (to_z-of_z low, to_z-of_z first) at (c.is_less.ensures.0 t))
