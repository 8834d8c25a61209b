-- The whole numbers that a form passes over a region.
use Rattle.std.specs.Prelude.{◌≡◌, ℕ, ℤ, pos, neg_ℤ, ◌*ℤ◌, ◌≤ℤ◌, ◌<ℤ◌}
use Rattle.srs_num.specs.Points.{Point, LinearForm, value}
use Rattle.srs_plane.specs.Regions.{Area, IsIn}

-- a point of R has f at least k
abbrev pub Reaches : Area → LinearForm → ℤ → Type 0
Reaches R f k = (r : Point) × IsIn R r × ((k *ℤ r.d) ≤ℤ value f r)

-- a point of R has f at least k, and a point of R has f below k
pub record Splits (R : Area) (f : LinearForm) (k : ℤ) : Type 0 where
  pub not_below : Reaches R f k
  pub below : (r : Point) × IsIn R r × (value f r <ℤ (k *ℤ r.d))

-- k is the least whole number that splits R
pub record IsFirstLevel (R : Area) (f : LinearForm) (k : ℤ) : Type 0 where
  pub splits : Splits R f k
  pub none_below : (j : ℤ) → j <ℤ k → Splits R f j → ⊥

abbrev pub HasNoLevel : Area → LinearForm → Type 0
HasNoLevel R f = (k : ℤ) → Splits R f k → ⊥

-- f is at most t in magnitude over R
abbrev pub IsSpread : Area → LinearForm → ℕ → Type 0
IsSpread R f t = (r : Point) → IsIn R r → (neg_ℤ (pos t *ℤ r.d) ≤ℤ value f r) ×
    (value f r ≤ℤ (pos t *ℤ r.d))

-- g is n times f at each point
abbrev pub IsTimes : ℕ → LinearForm → LinearForm → Type 0
IsTimes n f g = (r : Point) → value g r ≡ pos n *ℤ value f r
