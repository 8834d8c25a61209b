-- Corners that are the same point.
use Rattle.std.specs.Prelude.{◌≡◌, ℕ, ◌≤◌, ◌+◌, ◌*ℤ◌, List, [], ◌∷◌, ◌++◌, All, length, pos, ◌<ℤ◌}
use Rattle.std.specs.List.{Contains}
use Rattle.srs_num.specs.Points.{Point, LinearForm, IsPointWithin}
use Rattle.srs_cell.specs.Hull.{IsInHalves, IsAbove}

-- both coordinates of c and of e are the same numbers
pub record IsSamePoint (c e : Point) : Type 0 where
  pub positive : pos 0 <ℤ c.d
  pub positive_too : pos 0 <ℤ e.d
  pub x : c.p *ℤ e.d ≡ e.p *ℤ c.d
  pub y : c.q *ℤ e.d ≡ e.q *ℤ c.d

-- one of the corners cs is the same point as e
abbrev pub HasDouble : List Point → Point → Type 0
HasDouble cs e = (c : Point) × Contains cs c × IsSamePoint c e

-- vs are the corners us and the corner c, or without it where it is a double
pub record IsJoined (us : List Point) (c : Point) (vs : List Point) : Type 0 where
  pub covers : (f : LinearForm) → IsAbove f vs → IsAbove f (us ++ c ∷ [])
  pub inside : (hs : List LinearForm) → All (IsInHalves hs) (us ++ c ∷ []) → All (IsInHalves hs) vs
  pub sized : (m : ℕ) → All (IsPointWithin m) (us ++ c ∷ []) → All (IsPointWithin m) vs
  pub some : 1 ≤ length vs
  pub few : length vs ≤ length us + 1
