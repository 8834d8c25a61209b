use Rattle.std.proofs.Common.{◌≡◌, Some, sym, ◌∙◌}
use Rattle.srs_plane.specs.Polygons.{region_of}
use Rattle.srs_plane.proofs.Inside.{polygon_has_point}
use Rattle.std.proofs.lemmas.Result.{err_from_is_err_and}
use Rattle.srs_file.specs.LiveReading.{live_start, LiveSteps, LiveEnds}
use Rattle.srs_line.specs.Machine.{IsRead}
use Rattle.srs_file.proofs.LiveTexts.{read_is_live, no_live}
use Rattle.srs_file.proofs.live_reader.read_live.Goals as goal

pub returns-in_err-read_lines-clause-outside : goal.returns-in_err-read_lines-clause-outside
returns-in_err-read_lines-clause-outside c =
    let p = err_from_is_err_and c.from_residual.result c.from_residual.ensures.1 in
    rw (p.1, p.2) (no_live c.args.text.now _ (rw c.new-reader.ensures at c.in_err-read_lines.ensures.refused))

pub unreachable-requires : goal.unreachable-requires
unreachable-requires c =
    let last = c.read_lines.new.machine in
    let read : IsRead LiveSteps LiveEnds live_start c.args.text.now last = rw c.new-reader.ensures at c.in_ok-read_lines.ensures.read in
    let some = (read_is_live c.args.text.now last read).1.1 in
    let kept = c.into_parts-vertices.ensures.region in
    let none = c.in_default.is in
    cc

pub inhabited-requires : goal.inhabited-requires
inhabited-requires c =
    let last = c.read_lines.new.machine in
    let read : IsRead LiveSteps LiveEnds live_start c.args.text.now last = rw c.new-reader.ensures at c.in_ok-read_lines.ensures.read in
    let both = read_is_live c.args.text.now last read in
    let region : Some c.in-Some.region ≡ Some (region_of last.outline.ring.vertices) = sym c.in-Some.is ∙ c.into_parts-vertices.ensures.region ∙ both.1.1 in
    let same : c.in-Some.region ≡ region_of last.outline.ring.vertices = cc in
    rw same (polygon_has_point last.outline.ring.vertices both.0.polygon)

pub returns-clause-accepted : goal.returns-clause-accepted
returns-clause-accepted c =
    let last = c.read_lines.new.machine in
    let read : IsRead LiveSteps LiveEnds live_start c.args.text.now last = rw c.new-reader.ensures at c.in_ok-read_lines.ensures.read in
    let both = read_is_live c.args.text.now last read in
    let vertices : c.into_parts-vertices.result.0 ≡ last.outline.ring.vertices = c.into_parts-vertices.ensures.vertices in
    let region : Some c.in-Some.region ≡ Some (region_of last.outline.ring.vertices) = sym c.in-Some.is ∙ c.into_parts-vertices.ensures.region ∙ both.1.1 in
    let same : c.in-Some.region ≡ region_of last.outline.ring.vertices = cc in
    let cell : c.in_ok-cell.cell ≡ region_of last.outline.ring.vertices = c.in_ok-cell.ensures ∙ same in
    let script = c.into_script.ensures in
    rw script (rw (← vertices) at both.0, rw (← vertices) at cell)
