use Rattle.std.proofs.Common.{List, subst}
use Rattle.std.specs.Prelude.{IfOk}
use Rattle.srs_plane.specs.declared.polygons.Vertex.{Vertex}
use Rattle.srs_tree.specs.Snapshots.{tree_of}
use Rattle.srs_raster.specs.Maps.{IsMapText}
use Rattle.srs_tool.proofs.Drawing.{drawn_maps}
use Rattle.srs_tool.proofs.map.map_of.Goals as goal

pub returns : goal.returns
returns c =
    let v = c.args.version.now in
    drawn_maps c.args.cert.now v c.args.columns c.args.rows c.map_text.result c.requires.built
    (subst (λ (vs : List Vertex). IfOk c.map_text.result (λ text. IsMapText v.region (tree_of v) vs c.args.columns c.args.rows text)) c.vertices.ensures c.map_text.ensures)
