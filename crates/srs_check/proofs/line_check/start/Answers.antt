use Rattle.std.proofs.Common.{sym, ap, ◌∙◌}
use Rattle.srs_plane.specs.Polygons.{region_of}
use Rattle.srs_check.proofs.line_check.start.Goals as goal

pub returns : goal.returns
returns c = λ d is v. c.of.ensures d is (c.in_ok-polygon_cell.ensures ∙ ap region_of (sym v))
