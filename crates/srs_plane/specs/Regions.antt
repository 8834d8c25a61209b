-- A region as a set of points, and what it means that a form divides it.
use Rattle.std.specs.Prelude.{List, ℤ, pos, ◌≤ℤ◌, ◌<ℤ◌}
use Rattle.std.specs.List.{AllByRecursion}
use Rattle.srs_num.specs.Points.{Point, IsPoint, LinearForm, value, opposite}
use Rattle.srs_plane.specs.declared.halves.Kind.{Kind}
use Rattle.srs_plane.specs.declared.halves.Kind.TheVariants.{Ge, Gt}
use Rattle.srs_plane.specs.declared.halves.Half.{Half}

-- what a region is seen as: its halves
abbrev pub Area : Type 0
Area = List Half

-- what a half asks of the value of its form
abbrev pub Asks : Kind → ℤ → Type 0
Asks Ge v = pos 0 ≤ℤ v
Asks Gt v = pos 0 <ℤ v

-- the point is in the half
abbrev pub IsInHalf : Half → Point → Type 0
IsInHalf h r = Asks h.kind (value h.form r)

-- the point r is in the region R
pub record IsIn (R : Area) (r : Point) : Type 0 where
  pub is_point : IsPoint r
  pub halves : AllByRecursion (λ h. IsInHalf h r) R

-- the region R has a point
abbrev pub HasPoint : Area → Type 0
HasPoint R = (r : Point) × IsIn R r

-- the point is in each half, where open edges count as closed
pub record IsInClosed (R : Area) (r : Point) : Type 0 where
  pub is_point : IsPoint r
  pub halves : AllByRecursion (λ h. pos 0 ≤ℤ value h.form r) R

-- a point of R has h >= 0, and a point of R has h < 0
pub record Divides (R : Area) (h : LinearForm) : Type 0 where
  pub not_below : (r : Point) × IsIn R r × (pos 0 ≤ℤ value h r)
  pub below : (r : Point) × IsIn R r × (value h r <ℤ pos 0)

-- the side of a form where it is at least 0
abbrev pub ge_side : LinearForm → Half
ge_side h = record { form = h; kind = Ge }

-- the side of a form where it is below 0
abbrev pub lt_side : LinearForm → Half
lt_side h = record { form = opposite h; kind = Gt }
