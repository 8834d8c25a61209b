-- The corners of a region.
use Rattle.std.specs.Prelude.{◌≤◌, ◌+◌, ◌^◌, ℤ, List, [], ◌∷◌, ◌++◌, map, All, length, pos, negsuc}
use Rattle.srs_num.specs.Points.{Point, LinearForm, IsNear, IsPointWithin}
use Rattle.srs_plane.specs.Regions.{Area, IsIn}
use Rattle.srs_plane.specs.declared.regions.TheConstants.{MOST_HALVES}
use Rattle.srs_cell.specs.Hull.{IsHull}

-- one side of the box |x| <= 4, |y| <= 4: a*x + b*y + 4 >= 0
unfoldable pub side : ℤ → ℤ → LinearForm
side a b = record { a = a; b = b; c = pos 4 }

-- the box |x| <= 4, |y| <= 4
abbrev pub box : List LinearForm
box = side (pos 1) (pos 0) ∷ side (pos 0) (pos 1) ∷ side (negsuc 0) (pos 0) ∷ side (pos 0)
    (negsuc 0) ∷ []

-- the forms of the box and of the halves of R
abbrev pub boxed : Area → List LinearForm
boxed R = box ++ map (λ h. h.form) R

-- cs are the corners of the halves of R, where open edges count as closed: at least one and at most
-- 4 + length R, within 2^77
pub record AreCorners (R : Area) (cs : List Point) : Type 0 where
  pub hull : IsHull (boxed R) cs
  pub sized : All (IsPointWithin (2 ^ 77)) cs
  pub some : 1 ≤ length cs
  pub few : length cs ≤ 4 + length R

-- what a `Cell` keeps: the corners of R, one of its points, and that all of them are near
pub record IsCell (R : Area) (cs : List Point) (sample : Point) : Type 0 where
  pub corners : AreCorners R cs
  pub inside : IsIn R sample
  pub count : length R ≤ MOST_HALVES
  pub near : (r : Point) → IsIn R r → IsNear r
