-- When a history is legal.
use Rattle.std.specs.Prelude.{◌≡◌, ℕ, take, slice_get, Contains, Some, None}
use Rattle.srs_plane.specs.Regions.{Area, HasPoint}
use Rattle.srs_path.specs.Views.{Entry}
use Rattle.srs_path.specs.Soundness.{IsSound}
use Rattle.srs_tree.specs.Tree.{History, outcome_at, IsCellOf, region_at, IsPartition}

-- the event e may follow the history G: its path is a cell of G without an event, and its outcome is sound there
pub record MayFollow (Root : Area) (W : ℕ) (G : History) (e : Entry) : Type 0 where
  pub there : IsCellOf (outcome_at G) e.path
  pub fresh : outcome_at G e.path ≡ None
  pub sound : IsSound (region_at Root (outcome_at G) e.path) W e.outcome

-- each event may follow the events before it
abbrev pub IsLegal : Area → ℕ → History → Type 0
IsLegal Root W H = (k : ℕ) (e : Entry) → slice_get H k ≡ Some e → MayFollow Root W (take k H) e

-- the statement that the leaves of each legal history partition its root region, where that has a point
abbrev pub LegalIsPartition : Type 0
LegalIsPartition = (Root : Area) (W : ℕ) (H : History) → HasPoint Root → IsLegal Root W H → IsPartition Root (outcome_at H)

-- the statement that what each event of a legal history claims holds of its cell
abbrev pub LegalIsSound : Type 0
LegalIsSound =
    (Root : Area) (W : ℕ) (H : History) (e : Entry) → IsLegal Root W H → Contains H e
    → IsSound (region_at Root (outcome_at H) e.path) W e.outcome
