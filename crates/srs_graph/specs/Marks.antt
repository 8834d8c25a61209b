-- Marks on the pairs of a graph: a rank, or none yet.
use Rattle.std.specs.Prelude.{◌≡◌, ◌≢◌, ℕ, ◌+◌, ◌<◌, List, length, slice_index_or, Option, None, Some, is_none, count_by}
use Rattle.srs_num.specs.declared.pairs.V2.{V2}
use Rattle.srs_map.specs.Step.{origin}
use Rattle.srs_graph.specs.declared.rows.Row.{Row}
use Rattle.srs_graph.specs.Networks.{pair_at, row_at, IsInRow}

abbrev pub mark_at : List (Option ℕ) → ℕ → Option ℕ
mark_at ms i = slice_index_or ms i None

-- n places without a mark
pub record HasNoMarks (n : ℕ) (ms : List (Option ℕ)) : Type 0 where
  pub len : length ms ≡ n
  pub none : (i : ℕ) → mark_at ms i ≡ None

-- n is 0 at (0, 0); elsewhere all of the row is marked, and n is one more than the greatest of
-- these marks
pub record Ranked (ps : List V2) (rows : List Row) (ms : List (Option ℕ)) (i n : ℕ) : Type 0 where
  pub at_zero : pair_at ps i ≡ origin → n ≡ 0
  pub falls : pair_at ps i ≢ origin → (j : ℕ) → IsInRow (row_at rows i) j → (m : ℕ) ×
      (mark_at ms j ≡ Some m) × (m < n)
  pub step : pair_at ps i ≢ origin → (j : ℕ) × (m : ℕ) × IsInRow (row_at rows i) j ×
      (mark_at ms j ≡ Some m) × (n ≡ m + 1)

-- a place of the row has no mark
pub record LeadsOn (rows : List Row) (ms : List (Option ℕ)) (i : ℕ) : Type 0 where
  pub next : ℕ
  pub in_row : IsInRow (row_at rows i) next
  pub no_mark : mark_at ms next ≡ None

-- the pair isn't (0, 0), and a place of its row has no mark
pub record IsOpen (ps : List V2) (rows : List Row) (ms : List (Option ℕ)) (i : ℕ) : Type 0 where
  pub not_zero : pair_at ps i ≢ origin
  pub on : LeadsOn rows ms i

-- how many have no mark
abbrev pub unmarked : List (Option ℕ) → ℕ
unmarked ms = count_by is_none ms

-- each mark is right, and the marks are below the number of places that are marked
pub record AreMarks (ps : List V2) (rows : List Row) (ms : List (Option ℕ)) : Type 0 where
  pub len : length ms ≡ length ps
  pub ranked : (i n : ℕ) → mark_at ms i ≡ Some n → Ranked ps rows ms i n
  pub low : (i n : ℕ) → mark_at ms i ≡ Some n → n + unmarked ms < length ms

-- no more can be marked
pub record IsPeeled (ps : List V2) (rows : List Row) (ms : List (Option ℕ)) : Type 0 where
  pub marks : AreMarks ps rows ms
  pub left : (i : ℕ) → i < length ps → mark_at ms i ≡ None → IsOpen ps rows ms i
