-- The lines of a polygon: how many vertices it has, and one line a vertex.
use Rattle.std.specs.Prelude.{◌≡◌, ◌⊎◌, true, false, ℕ, List, codes, IsTrue}
use Rattle.srs_line.specs.declared.slip.Slip.{Slip}
use Rattle.srs_file.specs.declared.outline.Outline.{Outline}
use Rattle.srs_file.specs.Ring.{RingView, no_ring, Opens, IsOpenSlip, TakesVertex, SlipsVertex}

-- before the first line
abbrev pub no_outline : Outline
no_outline = record { opened = false; ring = no_ring }

-- all the vertices are there
abbrev pub IsWholeOutline : Outline → Type 0
IsWholeOutline outline = IsTrue outline.opened × (outline.ring.left ≡ 0)

-- the first line says how many vertices come, and each other line says one
abbrev pub TakesOutline : Outline → List ℕ → Outline → Type 0
TakesOutline old line new =
    ((¬ (IsTrue old.opened)) × (ring : RingView) × Opens (codes "polygon") line ring × (new ≡ record { opened = true; ring = ring }))
    ⊎ (IsTrue old.opened × (ring : RingView) × TakesVertex old.ring line ring × (new ≡ record old { ring = ring }))

-- what is wrong with the number of vertices, or with a vertex
abbrev pub SlipsOutline : Outline → List ℕ → Slip → ℕ → Type 0
SlipsOutline old line slip back =
    ((¬ (IsTrue old.opened)) × IsOpenSlip (codes "polygon") line slip × (back ≡ 0))
    ⊎ (IsTrue old.opened × SlipsVertex old.ring line slip back)
