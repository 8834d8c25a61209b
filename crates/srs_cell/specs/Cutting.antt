-- Cutting the corners of some halves by a form.
use Rattle.std.specs.Prelude.{◌≡◌, ◌≤◌, ◌+◌, ◌^◌, ℕ, pos, ◌≤ℤ◌, ◌<ℤ◌, List, [], ◌∷◌, ◌++◌, All, length, Option, MatchOption}
use Rattle.srs_num.specs.Points.{Point, LinearForm, value, opposite, IsPointWithin}
use Rattle.srs_num.specs.Lines.{meet}
use Rattle.srs_cell.specs.Hull.{IsInHalves, IsAbove, IsBelow, IsHull}
use Rattle.srs_cell.specs.declared.ends.Section.{Section}
use Rattle.srs_cell.specs.declared.corners.Remains.{Remains}
use Rattle.srs_cell.specs.declared.corners.Remains.TheVariants.{Whole, Nothing, Part}

-- the half e has the first end of the line of g within those of the halves that bound it that way
pub record IsEnd (g : LinearForm) (hs : List LinearForm) (e : LinearForm) : Type 0 where
  pub turns : pos 0 <ℤ (meet e g).d
  pub nearest : All (λ h. pos 0 <ℤ (meet h g).d → pos 0 ≤ℤ value h (meet e g)) hs
  pub holds : (z : Point) → IsInHalves hs z → pos 0 ≤ℤ value e z

-- the point c is the first end of the line of g within those of the halves that bound it that way
pub record IsEndAt (g : LinearForm) (hs : List LinearForm) (c : Point) : Type 0 where
  pub half : LinearForm
  pub is_end : IsEnd g hs half
  pub crossing : c ≡ meet half g
  pub sized : IsPointWithin (2 ^ 77) c

-- the first end of the line of g within the halves, if one bounds it that way
abbrev pub IsFirstEnd : LinearForm → List LinearForm → Option Point → Type 0
IsFirstEnd g hs end = MatchOption end (All (λ h. (meet h g).d ≤ℤ pos 0) hs) (IsEndAt g hs)

-- the two ends of a line within the halves: the second is the first one of the opposite line
pub record IsSection (hs : List LinearForm) (s : Section) : Type 0 where
  pub first : IsFirstEnd s.line hs s.first
  pub second : IsFirstEnd (opposite s.line) hs s.second

-- us are those of the corners cs with g at least 0, and `below` are the others
pub record IsKept (g : LinearForm) (cs us : List Point) : Type 0 where
  pub below : List Point
  pub above_line : IsAbove g us
  pub below_line : IsBelow g below
  pub cover : (f : LinearForm) → IsAbove f us → IsAbove f below → IsAbove f cs
  pub us_inside : (hs : List LinearForm) → All (IsInHalves hs) cs → All (IsInHalves hs) us
  pub below_inside : (hs : List LinearForm) → All (IsInHalves hs) cs → All (IsInHalves hs) below
  pub all_below : us ≡ [] → IsBelow g cs
  pub sized : (m : ℕ) → All (IsPointWithin m) cs → All (IsPointWithin m) us
  pub fewer : (length us + length below) ≤ length cs

-- us are the corners of what g leaves of the halves hs, whose corners are cs
pub record IsPart (hs : List LinearForm) (cs : List Point) (g : LinearForm) (us : List Point) : Type
    0 where
  pub hull : IsHull (hs ++ g ∷ []) us
  pub sized : All (IsPointWithin (2 ^ 77)) us
  pub some : 1 ≤ length us
  pub few : length us ≤ length cs + 1

-- what g leaves of the halves hs, whose corners are cs
abbrev pub IsLeft : List LinearForm → List Point → LinearForm → Remains → Type 0
IsLeft hs cs g Whole = IsAbove g cs
IsLeft hs cs g Nothing = IsBelow g cs
IsLeft hs cs g (Part us) = IsPart hs cs g us.items
