-- The grid lines of a region.
use Rattle.std.specs.Prelude.{◌≡◌, ℕ, ◌<◌, ◌≤◌, ◌^◌, ℤ, pos, neg_ℤ, ◌<ℤ◌}
use Rattle.srs_num.specs.Points.{LinearForm}
use Rattle.srs_plane.specs.Regions.{Area, Divides}

pub data Axis : Type 0 where
  X : Axis
  Y : Axis

-- the line 2^m*x = k, or 2^m*y = k
pub record Grid : Type 0 where
  pub m : ℕ
  pub axis : Axis
  pub k : ℤ

abbrev pub form_along : Axis → ℤ → ℤ → LinearForm
form_along X scale k = record { a = scale; b = pos 0; c = neg_ℤ k }
form_along Y scale k = record { a = pos 0; b = scale; c = neg_ℤ k }

-- the form 2^m*x - k, or 2^m*y - k
abbrev pub grid_form : Grid → LinearForm
grid_form g = form_along g.axis (pos (2 ^ g.m)) g.k

-- m from 0 to 36, and the line divides R
pub record IsGridLine (R : Area) (g : Grid) : Type 0 where
  pub coarse : g.m ≤ 36
  pub divides : Divides R (grid_form g)

abbrev pub axis_place : Axis → ℕ
axis_place X = 0
axis_place Y = 1

-- the order in which grid lines are tried: by m, then x before y, then by k
pub data TriedBefore (g h : Grid) : Type 0 where
  by_m : g.m < h.m → TriedBefore g h
  by_axis : g.m ≡ h.m → axis_place g.axis < axis_place h.axis → TriedBefore g h
  by_k : g.m ≡ h.m → g.axis ≡ h.axis → g.k <ℤ h.k → TriedBefore g h

-- h is the form of the first grid line of R
pub record IsFirstGridLine (R : Area) (h : LinearForm) : Type 0 where
  pub line : Grid
  pub is : grid_form line ≡ h
  pub divides : IsGridLine R line
  pub none_before : (g : Grid) → TriedBefore g line → IsGridLine R g → ⊥

abbrev pub HasNoGridLine : Area → Type 0
HasNoGridLine R = (g : Grid) → IsGridLine R g → ⊥
