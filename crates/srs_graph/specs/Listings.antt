-- Lists that are made from the marks of a graph.
use Rattle.std.specs.Prelude.{◌≡◌, ℕ, ◌<◌, ℤ, pos, List, length, slice_index_or, None, Some, Option, Contains, AllPairs}
use Rattle.srs_num.specs.declared.pairs.V2.{V2}
use Rattle.srs_plane.specs.Regions.{Area}
use Rattle.srs_path.specs.Core.{IsInCore, Precedes}
use Rattle.srs_graph.specs.Networks.{pair_at}
use Rattle.srs_graph.specs.Marks.{mark_at}

-- ws lists the core of R, strictly ascending
pub record AreTheCore (R : Area) (ws : List V2) : Type 0 where
  pub ascending : AllPairs Precedes ws
  pub each : (w : V2) → Contains ws w → IsInCore R w
  pub all : (w : V2) → IsInCore R w → Contains ws w

-- the pairs at the first k places that have no mark, in their order
pub record AreOpenPairs (ps : List V2) (ms : List (Option ℕ)) (k : ℕ) (ws : List V2) : Type 0 where
  pub ascending : AllPairs Precedes ps → AllPairs Precedes ws
  pub each : (w : V2) → Contains ws w → (i : ℕ) × (i < k) × (pair_at ps i ≡ w) ×
      (mark_at ms i ≡ None)
  pub all : (i : ℕ) → i < k → mark_at ms i ≡ None → Contains ws (pair_at ps i)

-- a place has no mark
abbrev pub HasOpenPlace : List (Option ℕ) → Type 0
HasOpenPlace ms = (i : ℕ) × (i < length ms) × (mark_at ms i ≡ None)

-- the marks at the first k places, as numbers
pub record AreNumbers (ms : List (Option ℕ)) (k : ℕ) (zs : List ℤ) : Type 0 where
  pub len : length zs ≡ k
  pub each : (i : ℕ) → i < k → (n : ℕ) × (mark_at ms i ≡ Some n) ×
      (slice_index_or zs i (pos 0) ≡ pos n)
