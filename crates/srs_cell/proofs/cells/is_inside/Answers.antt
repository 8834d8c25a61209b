use Rattle.std.proofs.Common.{pos, ◌≤ℤ◌}
use Rattle.std.proofs.lemmas.List.Elements.{All-from_recursion}
use Rattle.srs_num.specs.Points.{LinearForm, value}
use Rattle.srs_plane.specs.Regions.{IsInHalf}
use Rattle.srs_cell.proofs.Areas.{all_by_recursion, boxed_halves}
use Rattle.srs_cell.proofs.cells.is_inside.Goals as goal

pub has_corner-requires : goal.has_corner-requires
has_corner-requires c =
    let P : LinearForm → Type 0 = λ h. pos 0 ≤ℤ value h c.args.corner.now in
    all_by_recursion (λ h. P h.form) c.args.region.now (boxed_halves P c.args.region.now c.requires.each)

pub returns : goal.returns
returns c =
    let e = c.has_corner.ensures in
    (λ t. All-from_recursion (λ h. IsInHalf h c.args.corner.now) c.args.region.now (e.0 t), λ a. e.1 (all_by_recursion (λ h. IsInHalf h c.args.corner.now) c.args.region.now a))
