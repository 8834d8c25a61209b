use Rattle.std.proofs.Common.{◌≡◌, Some, sym, ◌∙◌}
use Rattle.srs_plane.specs.Polygons.{region_of}
use Rattle.srs_plane.proofs.Inside.{polygon_has_point}
use Rattle.srs_plane.proofs.Ring_of_vertices.{few_halves}
use Rattle.srs_file.proofs.questions.Questions.close.Goals as goal

pub inhabited-requires : goal.inhabited-requires
inhabited-requires c =
    let ring = c.args.self.now.ring in
    let region : Some c.in-Some.region ≡ Some (region_of ring.vertices) = sym c.in-Some.is ∙ c.close.ensures.region ∙ c.requires.1 in
    let same : c.in-Some.region ≡ region_of ring.vertices = cc in
    rw same (polygon_has_point ring.vertices c.requires.0)

pub ask-requires : goal.ask-requires
ask-requires c =
    let ring = c.args.self.now.ring in
    let region : Some c.in-Some.region ≡ Some (region_of ring.vertices) = sym c.in-Some.is ∙ c.close.ensures.region ∙ c.requires.1 in
    let same : c.in-Some.region ≡ region_of ring.vertices = cc in
    few_halves ring.vertices c.in_ok-cell.cell c.requires.0.counted (c.in_ok-cell.ensures ∙ same)
