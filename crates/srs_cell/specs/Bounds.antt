-- The least and the greatest value of a form over the points of a region.
use Rattle.std.specs.Prelude.{◌≡◌, ◌^◌, IsTrue, List, All, ℤ, pos, ◌*ℤ◌, ◌≤ℤ◌, ◌<ℤ◌}
use Rattle.std.specs.List.{Contains}
use Rattle.srs_num.specs.Points.{Point, IsPoint, LinearForm, value, IsWithin}
use Rattle.srs_plane.specs.Regions.{Area, IsIn}
use Rattle.srs_cell.specs.Hull.{IsAbove}
use Rattle.srs_cell.specs.declared.bounds.Bound.{Bound}

-- num / den is the infimum of the form over the points of R: no point is below, and below each
-- greater number there is a point
pub record IsInfimum (R : Area) (f : LinearForm) (num den : ℤ) : Type 0 where
  pub bound : (z : Point) → IsIn R z → (num *ℤ z.d) ≤ℤ (den *ℤ value f z)
  pub greatest : (n e : ℤ) → pos 1 ≤ℤ e → (num *ℤ e) <ℤ (n *ℤ den) → (z : Point) × IsIn R z ×
      ((e *ℤ value f z) <ℤ (n *ℤ z.d))

-- num / den is the supremum of the form over the points of R: no point is above, and above each
-- smaller number there is a point
pub record IsSupremum (R : Area) (f : LinearForm) (num den : ℤ) : Type 0 where
  pub bound : (z : Point) → IsIn R z → (den *ℤ value f z) ≤ℤ (num *ℤ z.d)
  pub least : (n e : ℤ) → pos 1 ≤ℤ e → (n *ℤ den) <ℤ (num *ℤ e) → (z : Point) × IsIn R z ×
      ((n *ℤ z.d) <ℤ (e *ℤ value f z))

-- a point of R takes num / den
abbrev pub Takes : Area → LinearForm → ℤ → ℤ → Type 0
Takes R f num den = (z : Point) × IsIn R z × (den *ℤ value f z ≡ num *ℤ z.d)

-- the bound is the infimum, and says whether a point takes it
pub record IsLow (R : Area) (f : LinearForm) (b : Bound) : Type 0 where
  pub positive : pos 1 ≤ℤ b.den
  pub infimum : IsInfimum R f b.num b.den
  pub attained : IsTrue b.attained → Takes R f b.num b.den
  pub all_attained : Takes R f b.num b.den → IsTrue b.attained

-- the bound is the supremum, and says whether a point takes it
pub record IsHigh (R : Area) (f : LinearForm) (b : Bound) : Type 0 where
  pub positive : pos 1 ≤ℤ b.den
  pub supremum : IsSupremum R f b.num b.den
  pub attained : IsTrue b.attained → Takes R f b.num b.den
  pub all_attained : Takes R f b.num b.den → IsTrue b.attained

-- how large the numbers of a bound are
pub record IsBoundSized (b : Bound) : Type 0 where
  pub num_range : IsWithin (2 ^ 117) b.num
  pub den_range : IsWithin (2 ^ 77) b.den

-- the form is less at the point c than at the point e
abbrev pub IsLower : LinearForm → Point → Point → Type 0
IsLower f c e = (value f c *ℤ e.d) <ℤ (value f e *ℤ c.d)

-- the form is at least as great at each of the points es as at c
abbrev pub IsLeast : LinearForm → List Point → Point → Type 0
IsLeast f es c = All (λ e. (value f c *ℤ e.d) ≤ℤ (value f e *ℤ c.d)) es

-- c is one of the corners cs, and the form is least there
pub record IsLeastCorner (f : LinearForm) (cs : List Point) (c : Point) : Type 0 where
  pub among : Contains cs c
  pub least : IsLeast f cs c

-- total adds up corners of cs at which the form is what it is at c, with each of the corners es at
-- which it isn't greater
pub record IsLeastSum (f : LinearForm) (cs es : List Point) (c total : Point) : Type 0 where
  pub same : value f total *ℤ c.d ≡ value f c *ℤ total.d
  pub is_point : IsPoint total
  pub above : (k : LinearForm) → IsAbove k cs → pos 0 ≤ℤ value k total
  pub parts : (k : LinearForm) → IsAbove k cs → All
      (λ e. (value f e *ℤ c.d) ≤ℤ (value f c *ℤ e.d) → value k e ≤ℤ value k total) es

-- how large the values n and m and the denominators d and e are of two corners whose numbers are
-- within 2^38
pub record AreShort (n d m e : ℤ) : Type 0 where
  pub first_value : IsWithin (2 ^ 79) n
  pub first_denominator : IsWithin (2 ^ 38) d
  pub second_value : IsWithin (2 ^ 79) m
  pub second_denominator : IsWithin (2 ^ 38) e
