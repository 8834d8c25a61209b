-- What a form makes of a region.
use Rattle.std.specs.Prelude.{◌≡◌, [], ◌∷◌, ◌++◌, pos, ◌≤ℤ◌, ◌<ℤ◌}
use Rattle.srs_num.specs.Points.{Point, LinearForm, value}
use Rattle.srs_plane.specs.Regions.{Area, IsIn, Divides, ge_side, lt_side}
use Rattle.srs_cell.specs.declared.divisions.Parts.{Parts}
use Rattle.srs_cell.specs.declared.divisions.Parts.TheVariants.{Both, AllGe, AllLt}

-- h divides R, x is R with the side where it is at least 0, and y is R with the side where it is
-- below 0
pub record AreBoth (R : Area) (h : LinearForm) (x y : Area) : Type 0 where
  pub divides : Divides R h
  pub above : x ≡ R ++ ge_side h ∷ []
  pub below : y ≡ R ++ lt_side h ∷ []

-- both parts where h divides R; else each point has h at least 0, or each has it below 0
abbrev pub AreParts : Area → LinearForm → Parts → Type 0
AreParts R h (Both x y) = AreBoth R h x y
AreParts R h AllGe = (r : Point) → IsIn R r → pos 0 ≤ℤ value h r
AreParts R h AllLt = (r : Point) → IsIn R r → value h r <ℤ pos 0
