-- Counts of cells.
use Rattle.std.specs.Prelude.{◌≡◌, ℕ, ◌≤◌, ◌==◌, nat_le, if◌then◌else◌, List, length, count_by}
use Rattle.srs_path.specs.Views.{Entry}
use Rattle.srs_tree.specs.Tree.{History}
use Rattle.srs_tree.specs.Rounds.{parts_by, upto, row_of}
use Rattle.srs_atlas.specs.declared.book.Terms.{Terms}
use Rattle.srs_atlas.specs.declared.counts.Counts.{Counts}
use Rattle.srs_atlas.specs.Books.{IsLawful}

-- how many cells H has on paths of length k at most, and on paths of length k
pub record AreCounts (H : History) (k : ℕ) (n : Counts) : Type 0 where
  pub cells : n.cells ≡ upto H k
  pub row : n.row ≡ row_of H k
  pub at_most : n.row ≤ n.cells

-- how many of the two parts of e, if it is a cut
pub record ArePartCounts (e : Entry) (k : ℕ) (n : Counts) : Type 0 where
  pub cells : n.cells ≡ count_by (λ path. nat_le (length path) k) (parts_by e.path e.outcome)
  pub row : n.row ≡ count_by (λ path. length path == k) (parts_by e.path e.outcome)
  pub at_most : n.row ≤ n.cells
  pub few : n.cells ≤ 2

-- how many of two paths of length l
pub record AreTwoAt (l k : ℕ) (n : Counts) : Type 0 where
  pub cells : n.cells ≡ (if nat_le l k then 2 else 0)
  pub row : n.row ≡ (if l == k then 2 else 0)

-- the counts were given
pub record Counted (terms : Terms) (k : ℕ) (before : History) (reply : Counts) (after : History) : Type 0 where
  pub same : after ≡ before
  pub counts : AreCounts after k reply
  pub lawful : IsLawful terms after
