-- Where a pair stands in an ascending list.
use Rattle.std.specs.Prelude.{◌≡◌, ℕ, ◌<◌, ◌≤◌, length, slice_get, Some}
use Rattle.srs_num.specs.declared.pairs.V2.{V2}
use Rattle.srs_path.specs.Core.{Precedes}
use Rattle.srs_check.specs.Listed.{RankList}

-- the pairs before the place stand before w, and the others don't
pub record IsPlaceFor (entries : RankList) (w : V2) (place : ℕ) : Type 0 where
  pub within : place ≤ length entries
  pub before : (i : ℕ) (e : V2 × ℕ) → i < place → slice_get entries i ≡ Some e → Precedes e.0 w
  pub after : (i : ℕ) (e : V2 × ℕ) → place ≤ i → slice_get entries i ≡ Some e → Precedes e.0 w → ⊥
