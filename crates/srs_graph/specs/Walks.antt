-- The walk that the chosen cycle is found by.
use Rattle.std.specs.Prelude.{◌≡◌, ◌≢◌, ℕ, ◌+◌, ◌<◌, ◌≤◌, ℤ, List, [], ◌∷◌, ◌++◌, length, map, slice_index_or, Option, None, Some}
use Rattle.std.specs.List.{range_with_len}
use Rattle.srs_num.specs.declared.pairs.V2.{V2}
use Rattle.srs_graph.specs.declared.rows.Row.{Row}
use Rattle.srs_graph.specs.Networks.{pair_at, row_at}
use Rattle.srs_graph.specs.Marks.{mark_at, unmarked, LeadsOn}

-- i is the first place from low to high with no mark
pub record IsFirstOpen (ms : List (Option ℕ)) (low high i : ℕ) : Type 0 where
  pub above : low ≤ i
  pub below : i < high
  pub no_mark : mark_at ms i ≡ None
  pub first : (j : ℕ) → low ≤ j → j < i → mark_at ms j ≢ None

-- all places from low to high have marks
abbrev pub AreAllMarked : List (Option ℕ) → ℕ → ℕ → Type 0
AreAllMarked ms low high = (j : ℕ) → low ≤ j → j < high → mark_at ms j ≢ None

-- each place without a mark has such a successor
abbrev pub LeadOn : List Row → List (Option ℕ) → Type 0
LeadOn rows ms = (i : ℕ) → i < length ms → mark_at ms i ≡ None → LeadsOn rows ms i

-- j is the first successor of i with no mark
abbrev pub IsStep : List Row → List (Option ℕ) → ℕ → ℕ → Type 0
IsStep rows ms i j = IsFirstOpen ms (row_at rows i).start
    ((row_at rows i).start + (row_at rows i).len) j

-- the k-th place of the walk: the path, and then the place it is at
abbrev pub step_at : List ℕ → ℕ → ℕ → ℕ
step_at path at k = slice_index_or (path ++ at ∷ []) k 0

-- the walk so far, with the place at which each place was met
pub record Walk (rows : List Row) (ms : List (Option ℕ)) (path : List ℕ) (at : ℕ)
    (met : List (Option ℕ)) : Type 0 where
  pub len : length met ≡ length ms
  pub start : IsFirstOpen ms 0 (length ms) (step_at path at 0)
  pub go : (k : ℕ) → k < length path → IsStep rows ms (step_at path at k) (step_at path at (k + 1))
  pub marked : (k : ℕ) → k < length path → mark_at met (step_at path at k) ≡ Some k
  pub back : (i k : ℕ) → mark_at met i ≡ Some k → (k < length path) × (step_at path at k ≡ i)
  pub inside : at < length ms
  pub no_mark : mark_at ms at ≡ None
  pub short : length path + unmarked met ≡ length met

-- the walk came back to the place that it met at `from`
pub record IsRound (rows : List Row) (ms : List (Option ℕ)) (path : List ℕ) (from : ℕ) : Type 0
  where
    pub at : ℕ
    pub met : List (Option ℕ)
    pub walk : Walk rows ms path at met
    pub back : mark_at met at ≡ Some from

-- the first entries of the pairs at n places of the path, from a place on
abbrev pub first_entries : List V2 → List ℕ → ℕ → ℕ → List ℤ
first_entries ps path from n = map (λ k. (pair_at ps (slice_index_or path k 0)).a)
    (range_with_len from n)
