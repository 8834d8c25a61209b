-- The map of a tree over a region.
use Rattle.std.specs.Prelude.{◌≡◌, ℕ, ◌+◌, ◌*◌, ◌≤◌, ℤ, pos, ◌+ℤ◌, ◌-ℤ◌, ◌*ℤ◌, List, [], ◌∷◌, ◌++◌, length, slice_get, Some}
use Rattle.std.specs.List.{flat_map}
use Rattle.srs_num.specs.Points.{Point}
use Rattle.srs_plane.specs.declared.polygons.Vertex.{Vertex}
use Rattle.srs_plane.specs.Regions.{Area}
use Rattle.srs_tree.specs.declared.answers.Reply.{Reply}
use Rattle.srs_tree.specs.declared.answers.Reply.TheVariants.{Inside, Outside, Undecided, Beyond}
use Rattle.srs_tree.specs.Tree.{Tree}
use Rattle.srs_tree.specs.Answers.{Answers}
use Rattle.srs_raster.specs.declared.grids.Grid.{Grid}
use Rattle.srs_raster.specs.declared.frames.Frame.{Frame}
use Rattle.srs_raster.specs.Frames.{IsFrame, IsNarrow}

-- 1 to 200 columns and rows over a frame whose ends are within 256
pub record IsGrid (g : Grid) : Type 0 where
  pub narrow : IsNarrow g.frame
  pub columns : (1 ≤ g.width) × (g.width ≤ 200)
  pub rows : (1 ≤ g.height) × (g.height ≤ 200)

-- the middle of column i, counted from 0 and from the left, in 128ths times the width
abbrev pub across_of : Grid → ℕ → ℤ
across_of g i = pos (2 * g.width) *ℤ g.frame.left +ℤ pos (2 * i + 1) *ℤ (g.frame.right -ℤ g.frame.left)

-- the middle of row j, counted from 0 and from the top, in 128ths times the height
abbrev pub up_of : Grid → ℕ → ℤ
up_of g j = pos (2 * g.height) *ℤ g.frame.top -ℤ pos (2 * j + 1) *ℤ (g.frame.top -ℤ g.frame.bottom)

-- the point of column i and row j
abbrev pub map_point : Grid → ℕ → ℕ → Point
map_point g i j = record {
  p = pos g.height *ℤ across_of g i;
  q = pos g.width *ℤ up_of g j;
  d = pos 128 *ℤ pos g.width *ℤ pos g.height;
}

-- the character of an answer: `#` inside, `o` outside, `?` undecided, `.` beyond
abbrev pub map_char : Reply → ℕ
map_char Inside = 35
map_char (Outside cycle) = 111
map_char (Undecided cause) = 63
map_char Beyond = 46

-- c is the character of column i and row j
pub record IsShown (Root : Area) (T : Tree) (g : Grid) (i j c : ℕ) : Type 0 where
  pub reply : Reply
  pub answers : Answers Root T (map_point g i j) reply
  pub is : c ≡ map_char reply

-- the characters of the first n columns of row j
pub record IsRow (Root : Area) (T : Tree) (g : Grid) (j n : ℕ) (row : List ℕ) : Type 0 where
  pub width : length row ≡ n
  pub each : (i c : ℕ) → slice_get row i ≡ Some c → IsShown Root T g i j c

-- the first n rows
pub record AreRows (Root : Area) (T : Tree) (g : Grid) (n : ℕ) (rows : List (List ℕ)) : Type 0 where
  pub height : length rows ≡ n
  pub each : (j : ℕ) (row : List ℕ) → slice_get rows j ≡ Some row → IsRow Root T g j g.width row

-- a row and the line's end, the byte 10
abbrev pub row_line : List ℕ → List ℕ
row_line row = row ++ 10 ∷ []

-- the text `after` is `before` with the line of row j
pub record HasRow (Root : Area) (T : Tree) (g : Grid) (j : ℕ) (before after : List ℕ) : Type 0 where
  pub row : List ℕ
  pub is_row : IsRow Root T g j g.width row
  pub is : after ≡ before ++ row_line row

-- the text of the rows
pub record IsText (Root : Area) (T : Tree) (g : Grid) (n : ℕ) (text : List ℕ) : Type 0 where
  pub rows : List (List ℕ)
  pub are_rows : AreRows Root T g n rows
  pub is : text ≡ flat_map row_line rows

-- the map of the tree T of the region Root, over the polygon of these vertices, with w columns and h rows
pub record IsMapText (Root : Area) (T : Tree) (vs : List Vertex) (w h : ℕ) (text : List ℕ) : Type 0 where
  pub frame : Frame
  pub is_frame : IsFrame vs frame
  pub rows : IsText Root T (record { frame = frame; width = w; height = h }) h text
