use Rattle.std.proofs.Common.{sym, subst, ◌∙◌}
use Rattle.srs_plane.specs.Regions.{Area}
use Rattle.srs_path.specs.Soundness.{IsSound}
use Rattle.srs_path.proofs.RefinesSound.{refines_sound}
use Rattle.srs_refine.proofs.refinement.Refiner.refine_or_leave.Goals as goal

pub found-requires : goal.found-requires
found-requires c =
    subst (λ (R : Area). IsSound R c.args.w c.in-Ok.outcome) (sym (c.in_ok-region.ensures ∙ c.region.ensures.value))
    (refines_sound c.args.cell.now c.args.last c.args.w c.in-Ok.outcome c.in-Ok.ensures)
