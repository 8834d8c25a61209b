-- What the lists of ranks and the cycles keep.
use Rattle.std.specs.Prelude.{◌≡◌, ◌≢◌, ℕ, ◌≤◌, ℤ, pos, ◌≤ℤ◌, unsigned_abs, List, length, map, All, AllPairs}
use Rattle.std.specs.List.{zip}
use Rattle.srs_num.specs.declared.pairs.V2.{V2}
use Rattle.srs_num.specs.Points.{IsWithin}
use Rattle.srs_map.specs.Step.{pair, origin, IsNarrow}
use Rattle.srs_map.specs.declared.steps.TheConstants.{MOST_ENTRY}
use Rattle.srs_path.specs.declared.limits.TheConstants.{MOST_WITNESSES}
use Rattle.srs_path.specs.Core.{Precedes}
use Rattle.srs_path.specs.Cutout.{entry_at}

-- one number at least and not more than the witnesses of a cell may be, with entries as those of a
-- pair may be, of which
-- the first two, counted round, aren't both 0
pub record IsCycle (c : List ℤ) : Type 0 where
  pub some : 1 ≤ length c
  pub short : length c ≤ MOST_WITNESSES
  pub narrow : All (IsWithin MOST_ENTRY) c
  pub not_zero : pair (entry_at c 0) (entry_at c 1) ≢ origin

-- as many narrow pairs, strictly ascending, and as many ranks, none above that bound
pub record MakesRanks (pairs : List V2) (ranks : List ℤ) : Type 0 where
  pub same : length pairs ≡ length ranks
  pub some : 1 ≤ length pairs
  pub short : length pairs ≤ MOST_WITNESSES
  pub ascending : AllPairs Precedes pairs
  pub narrow : All IsNarrow pairs
  pub within : All (λ z. (pos 0 ≤ℤ z) × (z ≤ℤ pos MOST_WITNESSES)) ranks

-- as many narrow pairs, strictly ascending, each with such a rank
pub record IsRankList (entries : List (V2 × ℕ)) : Type 0 where
  pub some : 1 ≤ length entries
  pub short : length entries ≤ MOST_WITNESSES
  pub ascending : AllPairs (λ (e f : V2 × ℕ). Precedes e.0 f.0) entries
  pub each : All (λ (e : V2 × ℕ). IsNarrow e.0 × (e.1 ≤ MOST_WITNESSES)) entries

-- each pair with its rank
abbrev pub ranked : List V2 → List ℤ → List (V2 × ℕ)
ranked pairs ranks = zip pairs (map unsigned_abs ranks)
