-- When the number of cells is spent.
use Rattle.std.specs.Prelude.{◌≡◌, ℕ, ◌+◌, ◌*◌, ◌<◌, ◌==◌, nat_le, List, length, count_by, slice_index}
use Rattle.srs_path.specs.Views.{Budget}
use Rattle.srs_tree.specs.Tree.{History}

-- how many nodes have depth at most k
abbrev pub nodes_upto : History → ℕ → ℕ
nodes_upto H k = count_by (λ e. nat_le (length e.path) k) H

-- how many nodes have depth k
abbrev pub nodes_at : History → ℕ → ℕ
nodes_at H k = count_by (λ e. length e.path == k) H

-- the nodes down to depth k and two more for each of depth k are more than the cells that are allowed, above the greatest depth
pub record SpendsCells (L : Budget) (H : History) (k : ℕ) : Type 0 where
  pub above : k < L.depth
  pub spent : L.cells < nodes_upto H k + 2 * nodes_at H k

-- the rows have, for each depth from 0 to 48, how many nodes there are
abbrev pub CountsRows : History → List ℕ → Type 0
CountsRows H rows = (k : ℕ) → k < 49 → slice_index rows k ≡ nodes_at H k
