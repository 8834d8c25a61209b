-- The depth-first descent that finds the ranks.
use Rattle.std.specs.Prelude.{◌≡◌, ◌≢◌, ◌⊎◌, ℕ, ◌+◌, ◌*◌, ◌<◌, ◌≤◌, List, length, slice_index_or, Bool, true, false, not, Option, None, Some, count_by}
use Rattle.srs_num.specs.declared.pairs.V2.{V2}
use Rattle.srs_map.specs.Step.{origin}
use Rattle.srs_graph.specs.declared.rows.Row.{Row}
use Rattle.srs_graph.specs.declared.descent.Visit.{Visit}
use Rattle.srs_graph.specs.Networks.{pair_at, row_at, IsInRow}
use Rattle.srs_graph.specs.Marks.{mark_at, AreMarks}

abbrev pub visit_at : List Visit → ℕ → Visit
visit_at path k = slice_index_or path k (record { place = 0; next = 0; rank = 0 })

abbrev pub is_entered : List Bool → ℕ → Bool
is_entered entered i = slice_index_or entered i false

-- n places, none of them entered
pub record AreNotEntered (n : ℕ) (entered : List Bool) : Type 0 where
  pub len : length entered ≡ n
  pub none : (i : ℕ) → is_entered entered i ≡ false

-- what is left to do: a place that was not entered counts twice, a visit of the path once
abbrev pub left_over : List Bool → List Visit → ℕ
left_over entered path = 2 * count_by not entered + length path

-- all that was entered stays so
abbrev pub StayEntered : List Bool → List Bool → Type 0
StayEntered old new = (i : ℕ) → is_entered old i ≡ true → is_entered new i ≡ true

-- each mark is below 16384, the greatest number of pairs
abbrev pub AreSmall : List (Option ℕ) → Type 0
AreSmall ms = (i n : ℕ) → mark_at ms i ≡ Some n → n < 16384

-- the row is marked up to k, and the rank is one above the greatest of these marks, or 0 for none
pub record IsRead (r : Row) (ms : List (Option ℕ)) (k rank : ℕ) : Type 0 where
  pub each : (j : ℕ) → r.start ≤ j → j < k → (m : ℕ) × (mark_at ms j ≡ Some m) × (m < rank)
  pub best : r.start < k → (j : ℕ) × (m : ℕ) × (r.start ≤ j) × (j < k) × (mark_at ms j ≡ Some m) ×
      (rank ≡ m + 1)
  pub none : k ≤ r.start → rank ≡ 0
  pub from : r.start ≤ k
  pub within : k ≤ r.start + r.len

-- the visit of a pair with no mark, which isn't (0, 0)
pub record IsVisit (ps : List V2) (rows : List Row) (ms : List (Option ℕ)) (v : Visit) : Type 0
  where
    pub inside : v.place < length ps
    pub not_zero : pair_at ps v.place ≢ origin
    pub no_mark : mark_at ms v.place ≡ None
    pub read : IsRead (row_at rows v.place) ms v.next v.rank

-- the visit reads j next
pub record WaitsFor (rows : List Row) (v : Visit) (j : ℕ) : Type 0 where
  pub next : v.next ≡ j
  pub in_row : IsInRow (row_at rows v.place) j

-- the top of the path reads j next
abbrev pub TopWaitsFor : List Row → List Visit → ℕ → Type 0
TopWaitsFor rows path j = (k : ℕ) → k + 1 ≡ length path → WaitsFor rows (visit_at path k) j

-- i is a place of the path
abbrev pub IsOnPath : List Visit → ℕ → Type 0
IsOnPath path i = (k : ℕ) × (k < length path) × ((visit_at path k).place ≡ i)

-- i is no place of the path
abbrev pub IsOffPath : List Visit → ℕ → Type 0
IsOffPath path i = (k : ℕ) → k < length path → (visit_at path k).place ≢ i

-- i leads to a place that was entered and left with no mark
pub record IsStuck (ps : List V2) (rows : List Row) (ms : List (Option ℕ)) (entered : List Bool)
    (path : List Visit) (i : ℕ) : Type 0 where
  pub not_zero : pair_at ps i ≢ origin
  pub next : ℕ
  pub in_row : IsInRow (row_at rows i) next
  pub no_mark : mark_at ms next ≡ None
  pub entered_it : is_entered entered next ≡ true
  pub off_path : IsOffPath path next

-- each pair of the path waits for the one above it, and what was entered and has no mark is on the
-- path or stuck
pub record IsDescent (ps : List V2) (rows : List Row) (ms : List (Option ℕ)) (entered : List Bool)
    (path : List Visit) : Type 0 where
  pub marks : AreMarks ps rows ms
  pub len : length entered ≡ length ps
  pub fresh : (i : ℕ) → is_entered entered i ≡ false → mark_at ms i ≡ None
  pub visits : (k : ℕ) → k < length path → IsVisit ps rows ms (visit_at path k)
  pub been : (k : ℕ) → k < length path → is_entered entered (visit_at path k).place ≡ true
  pub waits : (k : ℕ) → k + 1 < length path → WaitsFor rows (visit_at path k)
      (visit_at path (k + 1)).place
  pub apart : (j k : ℕ) → j < k → k < length path → (visit_at path j).place ≢
      (visit_at path k).place
  pub left : (i : ℕ) → is_entered entered i ≡ true → mark_at ms i ≡ None → IsOnPath path i ⊎ IsStuck
      ps rows ms entered path i
