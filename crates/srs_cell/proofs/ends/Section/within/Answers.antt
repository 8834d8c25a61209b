use Rattle.std.proofs.Common.{◌≡◌, [], ◌++◌, map, refl, sym, ap, ◌∙◌, append-nil}
use Rattle.srs_plane.specs.Regions.{Area}
use Rattle.srs_cell.proofs.Tightening.{bare_section}
use Rattle.srs_cell.proofs.ends.Section.within.Goals as goal

pub loop-half-init : goal.loop-half-init
loop-half-init c = ([], rw c.halves-rest.ensures (sym (append-nil c.args.region.now)), refl, bare_section _ refl refl)

pub returns-clause-section : goal.returns-clause-section
returns-clause-section c =
    let k = c.loop-half.invariant in
    let e : c.args.region.now ≡ k.0 = k.1 ∙ ap (λ (r : Area). r ++ k.0) c.in_default.ensures in
    rw e (c.boxed.ensures.section (map (λ h. h.form) k.0) k.3)
