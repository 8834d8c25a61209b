-- The numbers of nodes, counted along the events.
use Rattle.std.specs.Prelude.{◌≡◌, ℕ, ◌+◌, ◌<◌, ◌^◌, Bool, List, length, take, count_by, slice_get, slice_index, Some}
use Rattle.srs_path.specs.declared.outcomes.Outcome.{Outcome}
use Rattle.srs_path.specs.Views.{Entry}
use Rattle.srs_tree.specs.Tree.{History}
use Rattle.srs_check.specs.declared.faults.Counts.{Counts}
use Rattle.srs_check.specs.declared.tally.Tally.{Tally}
use Rattle.srs_check.specs.Budgets.{nodes_at}
use Rattle.srs_check.specs.Faults.{is_inside, is_outside, is_cut, is_left}

-- node i has this depth and this outcome
pub record IsNode (H : History) (i depth : ℕ) (o : Outcome) : Type 0 where
  pub entry : Entry
  pub there : slice_get H i ≡ Some entry
  pub depth_is : length entry.path ≡ depth
  pub outcome_is : entry.outcome ≡ o

-- the numbers of the first i nodes by their depth, from 0 to 48
pub record RowsSoFar (H : History) (i : ℕ) (rows : List ℕ) : Type 0 where
  pub size : length rows ≡ 49
  pub each : (k : ℕ) → k < 49 → slice_index rows k ≡ nodes_at (take i H) k

-- how many of the first i nodes are of a kind
abbrev pub first_of : (Outcome → Bool) → History → ℕ → ℕ
first_of kind H i = count_by (λ e. kind e.outcome) (take i H)

-- the numbers of the first i nodes by their kind
pub record CountsSoFar (H : History) (i : ℕ) (counts : Counts) : Type 0 where
  pub cells : counts.cells ≡ i
  pub inside : counts.inside ≡ first_of is_inside H i
  pub outside : counts.outside ≡ first_of is_outside H i
  pub cut : counts.cut ≡ first_of is_cut H i
  pub left : counts.left ≡ first_of is_left H i

-- the tally is that of the first i nodes
pub record IsTallied (H : History) (i : ℕ) (t : Tally) : Type 0 where
  pub rows : RowsSoFar H i t.rows
  pub counts : CountsSoFar H i t.counts

-- a node of this depth more has room in the tally
pub record HasRoomFor (t : Tally) (depth : ℕ) : Type 0 where
  pub shallow : depth < 49
  pub row : slice_index t.rows depth + 1 < 2 ^ 32
  pub cells : t.counts.cells + 1 < 2 ^ 32
  pub inside : t.counts.inside + 1 < 2 ^ 32
  pub outside : t.counts.outside + 1 < 2 ^ 32
  pub cut : t.counts.cut + 1 < 2 ^ 32
  pub left : t.counts.left + 1 < 2 ^ 32
