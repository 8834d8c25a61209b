-- Reading the input of `certify`: a polygon, and `end`.
use Rattle.std.specs.Prelude.{◌≡◌, ◌≢◌, ◌⊎◌, ⊤, true, false, ℕ, List, codes, IsTrue}
use Rattle.srs_plane.specs.declared.polygons.Vertex.{Vertex}
use Rattle.srs_line.specs.declared.slip.Slip.{Slip}
use Rattle.srs_line.specs.declared.slip.Slip.TheVariants.{Word}
use Rattle.srs_line.specs.declared.slip.FileErr.{FileErr}
use Rattle.srs_line.specs.declared.slip.FileErr.TheVariants.{At, NoMemory}
use Rattle.srs_line.specs.Machine.{IsRead, SlipsAt}
use Rattle.srs_line.specs.Refusal.{IsRefused}
use Rattle.srs_file.specs.declared.outline.Outline.{Outline}
use Rattle.srs_file.specs.declared.polygon_reader.PolygonReader.{PolygonReader}
use Rattle.srs_file.specs.Outline.{no_outline, IsWholeOutline, TakesOutline, SlipsOutline}
use Rattle.srs_file.specs.Grammar.{SpellsPolygon}

-- the line `end` was read
abbrev pub IsEnd : PolygonReader → Type 0
IsEnd reader = IsTrue reader.ended

-- a line of the polygon while it isn't whole, and then `end`
abbrev pub StepsPolygon : PolygonReader → List ℕ → PolygonReader → Type 0
StepsPolygon old line new =
    ((¬ (IsWholeOutline old.outline)) × (outline : Outline) × TakesOutline old.outline line outline × (new ≡ record old { outline = outline }))
    ⊎ (IsWholeOutline old.outline × (line ≡ codes "end") × (new ≡ record old { ended = true }))

-- what a good line does
abbrev pub Steps : PolygonReader → List ℕ → PolygonReader → Type 0
Steps old line new = (¬ (IsEnd old)) × StepsPolygon old line new

-- what is wrong with a line of the polygon, or with `end`
abbrev pub Slips : PolygonReader → List ℕ → Slip → ℕ → Type 0
Slips old line slip back =
    ((¬ (IsWholeOutline old.outline)) × SlipsOutline old.outline line slip back)
    ⊎ (IsWholeOutline old.outline × (line ≢ codes "end") × (slip ≡ Word) × (back ≡ 0))

-- a reader before the first line
abbrev pub start : PolygonReader
start = record { outline = no_outline; ended = false }

-- line by line, the text gives these vertices
abbrev pub ReadsAs : List ℕ → List Vertex → Type 0
ReadsAs text vs = (last : PolygonReader) × IsRead Steps IsEnd start text last × (last.outline.ring.vertices ≡ vs)

-- the first slip of the text, and its line
abbrev pub FirstSlip : List ℕ → ℕ → Slip → Type 0
FirstSlip text line slip = SlipsAt Steps Slips IsEnd start text line slip

-- the text is that of a polygon, or has a first slip
abbrev pub IsPolygonOrSlips : List ℕ → Type 0
IsPolygonOrSlips text = ((vs : List Vertex) × SpellsPolygon text vs) ⊎ ((line : ℕ) × (slip : Slip) × FirstSlip text line slip)

-- the first slip of the text, or want of memory
abbrev pub IsRefusal : List ℕ → FileErr → Type 0
IsRefusal text error = IsRefused Steps Slips IsEnd start text error

-- the text is that of no polygon, unless memory was wanting
abbrev pub IsNotSpelled : List ℕ → FileErr → Type 0
IsNotSpelled text (At line slip) = (vs : List Vertex) → SpellsPolygon text vs → ⊥
IsNotSpelled text NoMemory = ⊤
