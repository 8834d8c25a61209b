-- The chosen cycle of a region.
use Rattle.std.specs.Prelude.{◌≡◌, ◌≢◌, ℕ, ◌+◌, ◌<◌, ℤ, ◌≤ℤ◌, List, map}
use Rattle.std.specs.List.{range_with_len}
use Rattle.srs_num.specs.declared.pairs.V2.{V2}
use Rattle.srs_plane.specs.Regions.{Area}
use Rattle.srs_path.specs.Witnesses.{HasEdge}
use Rattle.srs_path.specs.Core.{IsInCore}

-- v is w or stands before it in the order by a and then by b
abbrev pub NotAfter : V2 → V2 → Type 0
NotAfter v w = (v.a ≤ℤ w.a) × (v.a ≡ w.a → v.b ≤ℤ w.b)

-- w is the least pair with the property
pub record IsLeast (P : V2 → Type 0) (w : V2) : Type 0 where
  pub has : P w
  pub least : (v : V2) → P v → NotAfter w v

-- z(0) is the least core pair, and each pair is followed by the least core pair among its
-- successors, up to
-- z(from + period), the first pair that is met twice: it is z(from). The cycle lists the first
-- entries of
-- z(from), .., z(from + period - 1)
pub record IsChosen (R : Area) (cycle : List ℤ) : Type 0 where
  pub z : ℕ → V2
  pub from : ℕ
  pub period : ℕ
  pub start : IsLeast (IsInCore R) (z 0)
  pub go : (k : ℕ) → k < from + period → IsLeast (λ v. IsInCore R v × HasEdge R (z k) v) (z (k + 1))
  pub some_step : 0 < period
  pub met_twice : z (from + period) ≡ z from
  pub first : (j k : ℕ) → j < k → k < from + period → z j ≢ z k
  pub entries : cycle ≡ map (λ k. (z k).a) (range_with_len from period)
