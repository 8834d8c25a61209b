-- A graph as the pairs, ascending, and for each pair the places of its successors.
use Rattle.std.specs.Prelude.{◌≡◌, ℕ, ◌+◌, ◌<◌, ◌≤◌, List, length, slice_index_or, All, AllPairs}
use Rattle.srs_num.specs.declared.pairs.V2.{V2}
use Rattle.srs_map.specs.Step.{origin, IsNarrow}
use Rattle.srs_plane.specs.Regions.{Area}
use Rattle.srs_path.specs.Witnesses.{HasEdge}
use Rattle.srs_path.specs.declared.limits.TheConstants.{MOST_WITNESSES}
use Rattle.srs_path.specs.Core.{Precedes}
use Rattle.srs_wit.specs.Listing.{AreAllWitnesses}
use Rattle.srs_graph.specs.declared.rows.Row.{Row}

abbrev pub pair_at : List V2 → ℕ → V2
pair_at ps i = slice_index_or ps i origin

abbrev pub row_at : List Row → ℕ → Row
row_at rows i = slice_index_or rows i (record { start = 0; len = 0 })

-- j is a place of the row
abbrev pub IsInRow : Row → ℕ → Type 0
IsInRow r j = (r.start ≤ j) × (j < r.start + r.len)

-- each of the n rows has places below n, one at least
pub record AreRows (n : ℕ) (rows : List Row) : Type 0 where
  pub len : length rows ≡ n
  pub some : (i : ℕ) → i < n → 0 < (row_at rows i).len
  pub within : (i : ℕ) → i < n → (row_at rows i).start + (row_at rows i).len ≤ n

-- what a graph is seen as: pairs, and the rows of their successors
pub record Network : Type 0 where
  pub pairs : List V2
  pub rows : List Row

abbrev pub network : List V2 → List Row → Network
network ps rows = record { pairs = ps; rows = rows }

-- one narrow pair at least and not more than the witnesses of a cell may be, strictly ascending,
-- and as many rows
pub record IsNetwork (g : Network) : Type 0 where
  pub rows : AreRows (length g.pairs) g.rows
  pub some : 1 ≤ length g.pairs
  pub few : length g.pairs ≤ MOST_WITNESSES
  pub ascending : AllPairs Precedes g.pairs
  pub narrow : All IsNarrow g.pairs

-- the pairs are the witnesses of R, and the rows are its edges among them
pub record IsGraph (R : Area) (g : Network) : Type 0 where
  pub witnesses : AreAllWitnesses R g.pairs
  pub each : (i j : ℕ) → i < length g.pairs → IsInRow (row_at g.rows i) j → HasEdge R
      (pair_at g.pairs i) (pair_at g.pairs j)
  pub all : (i : ℕ) (v : V2) → i < length g.pairs → HasEdge R (pair_at g.pairs i) v → (j : ℕ) ×
      IsInRow (row_at g.rows i) j × (pair_at g.pairs j ≡ v)

-- the row holds exactly the places of the pairs that w has an edge to
pub record IsRowOf (R : Area) (ps : List V2) (w : V2) (r : Row) : Type 0 where
  pub some : 0 < r.len
  pub within : r.start + r.len ≤ length ps
  pub each : (j : ℕ) → IsInRow r j → HasEdge R w (pair_at ps j)
  pub all : (v : V2) → HasEdge R w v → (j : ℕ) × IsInRow r j × (pair_at ps j ≡ v)

-- each pair has its row
pub record AreRowsOf (R : Area) (ps : List V2) (rows : List Row) : Type 0 where
  pub len : length rows ≡ length ps
  pub each : (i : ℕ) → i < length ps → IsRowOf R ps (pair_at ps i) (row_at rows i)
