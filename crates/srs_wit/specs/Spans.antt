-- The pairs that one pair links to.
use Rattle.std.specs.Prelude.{◌≡◌, ℕ, ℤ, ◌≤ℤ◌, List, map}
use Rattle.std.specs.List.{range_with_len}
use Rattle.srs_num.specs.declared.pairs.V2.{V2}
use Rattle.srs_map.specs.Step.{pair, IsNarrow}
use Rattle.srs_cell.specs.Spans.{pair_from}

-- the first n pairs that begin with the second entry of w, from low on
abbrev pub pairs_from : V2 → ℤ → ℕ → List V2
pairs_from w low n = map (pair_from w low) (range_with_len 0 n)

-- the pairs that begin with the second entry of w and end from low to high have entries within 2^37
abbrev pub ArePairsNarrow : V2 → ℤ → ℤ → Type 0
ArePairsNarrow w low high = (j : ℤ) → low ≤ℤ j → j ≤ℤ high → IsNarrow (pair w.b j)

-- v is one of these pairs, with an entry past 2^37
pub record IsWideAmong (w : V2) (low high : ℤ) (v : V2) : Type 0 where
  pub last : ℤ
  pub above : low ≤ℤ last
  pub below : last ≤ℤ high
  pub is : v ≡ pair w.b last
  pub wide : IsNarrow v → ⊥
