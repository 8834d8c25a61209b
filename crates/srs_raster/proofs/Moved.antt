-- A map is also that of a tree that answers with the same characters.
use Rattle.std.proofs.Common.{◌≡◌, ℕ, List, ◌∙◌}
use Rattle.srs_num.specs.Points.{Point}
use Rattle.srs_plane.specs.declared.polygons.Vertex.{Vertex}
use Rattle.srs_plane.specs.Regions.{Area}
use Rattle.srs_tree.specs.declared.answers.Reply.{Reply}
use Rattle.srs_tree.specs.Tree.{Tree}
use Rattle.srs_tree.specs.Answers.{Answers}
use Rattle.srs_raster.specs.declared.grids.Grid.{Grid}
use Rattle.srs_raster.specs.Maps.{map_char, IsShown, IsRow, IsText, IsMapText}

module _ (Root S : Area) (T U : Tree) (alike : (r : Point) (a : Reply) → Answers Root T r a → (b : Reply) × Answers S U r b × (map_char a ≡ map_char b)) where
  shown_moved : (g : Grid) (i j c : ℕ) → IsShown Root T g i j c → IsShown S U g i j c
  shown_moved g i j c s = let t = alike _ s.reply s.answers in record { reply = t.0; answers = t.1; is = s.is ∙ t.2 }

  row_moved : (g : Grid) (j n : ℕ) (row : List ℕ) → IsRow Root T g j n row → IsRow S U g j n row
  row_moved g j n row s = record { width = s.width; each = λ i c at. shown_moved g i j c (s.each i c at) }

  text_moved : (g : Grid) (n : ℕ) (text : List ℕ) → IsText Root T g n text → IsText S U g n text
  text_moved g n text s = record {
    rows = s.rows;
    are_rows = record { height = s.are_rows.height; each = λ j row at. row_moved g j g.width row (s.are_rows.each j row at) };
    is = s.is;
  }

  pub map_moved : (vs : List Vertex) (w h : ℕ) (text : List ℕ) → IsMapText Root T vs w h text → IsMapText S U vs w h text
  map_moved vs w h text s = record { frame = s.frame; is_frame = s.is_frame; rows = text_moved _ h text s.rows }
