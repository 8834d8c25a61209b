-- The least floor of a form, over the points of a region and at corners.
use Rattle.std.specs.Prelude.{◌≡◌, ◌⊎◌, ◌^◌, ℕ, ℤ, pos, neg_ℤ, ◌+ℤ◌, ◌*ℤ◌, ◌≤ℤ◌, ◌<ℤ◌, List, All}
use Rattle.std.specs.List.{Contains}
use Rattle.srs_num.specs.declared.pairs.V2.{V2}
use Rattle.srs_num.specs.Points.{Point, LinearForm, value, opposite, IsWithin, IsNear}
use Rattle.srs_num.specs.Floor.{IsFloor}
use Rattle.srs_plane.specs.Regions.{Area, IsIn}
use Rattle.srs_cell.specs.declared.floors.Floors.{Floors}

-- the form whose floor the step takes at w
abbrev pub form_of : V2 → LinearForm
form_of w = record { a = w.a; b = w.b; c = pos 0 }

-- k is the least floor of the form at the points of R
pub record IsLeastFloor (R : Area) (f : LinearForm) (k : ℤ) : Type 0 where
  pub bound : (z : Point) → IsIn R z → (k *ℤ z.d) ≤ℤ value f z
  pub taken : (z : Point) × IsIn R z × (value f z <ℤ (k *ℤ z.d +ℤ z.d))

-- the least floors of the form and of its opposite at the points of R, which are near
pub record AreLeastFloors (R : Area) (f : LinearForm) (floors : Floors) : Type 0 where
  pub ahead : IsLeastFloor R f floors.ahead
  pub back : IsLeastFloor R (opposite f) floors.back
  pub ahead_range : IsWithin (2 ^ 40) floors.ahead
  pub back_range : IsWithin (2 ^ 40) floors.back
  pub near : (z : Point) → IsIn R z → IsNear z

-- k is a floor of the form at one of the points cs, and none of the points es has a lesser one
pub record IsFloorBelow (f : LinearForm) (cs es : List Point) (k : ℤ) : Type 0 where
  pub bound : All (λ e. (k *ℤ e.d) ≤ℤ value f e) es
  pub taken : (c : Point) × Contains cs c × (value f c <ℤ (k *ℤ c.d +ℤ c.d))

-- such floors of the form and of its opposite, within m
pub record AreFloorsBelow (m : ℕ) (f : LinearForm) (cs es : List Point) (floors : Floors) : Type 0
  where
    pub ahead : IsFloorBelow f cs es floors.ahead
    pub back : IsFloorBelow (opposite f) cs es floors.back
    pub ahead_range : IsWithin m floors.ahead
    pub back_range : IsWithin m floors.back

-- n / d is at most m in magnitude
pub record IsRatioWithin (m : ℕ) (n d : ℤ) : Type 0 where
  pub positive : pos 1 ≤ℤ d
  pub low : neg_ℤ (pos m *ℤ d) ≤ℤ n
  pub high : n ≤ℤ (pos m *ℤ d)

-- the floors of n / d and of -n / d, within m
pub record AreFloorsOf (m : ℕ) (n d : ℤ) (floors : Floors) : Type 0 where
  pub ahead : IsFloor n d floors.ahead
  pub back : IsFloor (neg_ℤ n) d floors.back
  pub ahead_range : IsWithin m floors.ahead
  pub back_range : IsWithin m floors.back

-- k is the lesser of the whole number `least` and the floor of n / d, within m
pub record IsLesserFloor (m : ℕ) (n d least k : ℤ) : Type 0 where
  pub not_above : (k *ℤ d) ≤ℤ n
  pub not_more : k ≤ℤ least
  pub taken : (k ≡ least) ⊎ (n <ℤ (k *ℤ d +ℤ d))
  pub range : IsWithin m k

-- each of the floors became the lesser of itself and that of n / d or of -n / d
pub record AreLessened (m : ℕ) (n d : ℤ) (old new : Floors) : Type 0 where
  pub ahead : IsLesserFloor m n d old.ahead new.ahead
  pub back : IsLesserFloor m (neg_ℤ n) d old.back new.back
