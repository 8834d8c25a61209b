-- What the corners of a cell tell of its points.
use Rattle.std.specs.Prelude.{List, All, pos, ◌≤ℤ◌, ◌<ℤ◌}
use Rattle.srs_num.specs.Points.{Point, LinearForm, value}

-- z has d >= 1, and each of the forms is at least 0 there
pub record IsInHalves (hs : List LinearForm) (z : Point) : Type 0 where
  pub positive : pos 0 <ℤ z.d
  pub each : All (λ h. pos 0 ≤ℤ value h z) hs

-- the form is at least 0 at each of the points
abbrev pub IsAbove : LinearForm → List Point → Type 0
IsAbove f cs = All (λ c. pos 0 ≤ℤ value f c) cs

-- the form is below 0 at each of the points
abbrev pub IsBelow : LinearForm → List Point → Type 0
IsBelow f cs = All (λ c. value f c <ℤ pos 0) cs

-- the corners are in the halves, and a form that is at least 0 at each corner is at least 0 at each
-- point there
pub record IsHull (hs : List LinearForm) (cs : List Point) : Type 0 where
  pub inside : All (IsInHalves hs) cs
  pub whole : (f : LinearForm) → IsAbove f cs → (z : Point) → IsInHalves hs z → pos 0 ≤ℤ value f z
