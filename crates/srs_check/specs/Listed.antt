-- What the list of an inside leaf demands: that it shows each point of its region finite.
use Rattle.std.specs.Prelude.{◌≡◌, ◌≢◌, ◌⊎◌, ℕ, ◌<◌, ◌≤◌, ℤ, ◌<ℤ◌, List, Contains, slice_get, Some}
use Rattle.srs_num.specs.declared.pairs.V2.{V2}
use Rattle.srs_map.specs.Step.{pair, origin}
use Rattle.srs_map.specs.Links.{IsUnit}
use Rattle.srs_plane.specs.Regions.{Area}
use Rattle.srs_cell.specs.Moves.{LeadsTo, LeadsBackTo}
use Rattle.srs_path.specs.Core.{Precedes}
use Rattle.srs_check.specs.declared.faults.Fault.{Fault}
use Rattle.srs_check.specs.declared.faults.Fault.TheVariants.{NoUnit, NotClosed, NoFall, NotCycle, NotProper, NoBudget}

-- pairs with their ranks
abbrev pub RankList : Type 0
RankList = List (V2 × ℕ)

-- the pair is listed, with some rank
abbrev pub IsListed : RankList → V2 → Type 0
IsListed entries w = (n : ℕ) × Contains entries (w, n)

-- v is listed, and of lower rank than the pair of e where that isn't (0, 0)
pub record IsBelow (entries : RankList) (e : V2 × ℕ) (v : V2) : Type 0 where
  pub listed : IsListed entries v
  pub falls : e.0 ≢ origin → (m : ℕ) → Contains entries (v, m) → m < e.1

-- each step of the pair of e leads below it, and each mirrored step to a listed pair
pub record IsClosedAt (R : Area) (entries : RankList) (e : V2 × ℕ) : Type 0 where
  pub ahead : (v : V2) → LeadsTo R e.0 v → IsBelow entries e v
  pub back : (v : V2) → LeadsBackTo R e.0 v → IsListed entries v

-- the units are listed
abbrev pub ListsUnits : RankList → Type 0
ListsUnits entries = (w : V2) → IsUnit w → IsListed entries w

-- the units are listed, and so are both links of each listed pair at each point of R; and along steps the rank falls
pub record ProvesInside (R : Area) (entries : RankList) : Type 0 where
  pub units : ListsUnits entries
  pub closed : (e : V2 × ℕ) → Contains entries e → IsClosedAt R entries e

-- w is the first unit that isn't listed
pub record IsFirstUnit (entries : RankList) (w : V2) : Type 0 where
  pub is_unit : IsUnit w
  pub missing : IsListed entries w → ⊥
  pub before : (u : V2) → IsUnit u → Precedes u w → IsListed entries u

-- v is listed, and its rank isn't lower than that of the pair of e, which isn't (0, 0)
pub record StaysUp (entries : RankList) (e : V2 × ℕ) (v : V2) : Type 0 where
  pub not_zero : e.0 ≢ origin
  pub rank : ℕ
  pub is : Contains entries (v, rank)
  pub not_lower : e.1 ≤ rank

-- j is where a step of the pair of e leads, and each lesser number where one leads is of a pair below
pub record IsNextAhead (R : Area) (entries : RankList) (e : V2 × ℕ) (j : ℤ) : Type 0 where
  pub leads : LeadsTo R e.0 (pair e.0.b j)
  pub before : (i : ℤ) → i <ℤ j → LeadsTo R e.0 (pair e.0.b i) → IsBelow entries e (pair e.0.b i)

-- a step leads to a pair that isn't listed
pub record IsMissingAhead (R : Area) (entries : RankList) (e : V2 × ℕ) (j : ℤ) : Type 0 where
  pub next : IsNextAhead R entries e j
  pub missing : IsListed entries (pair e.0.b j) → ⊥

-- j is the least number where a mirrored step of w leads to a pair that isn't listed
pub record IsFirstMissing (R : Area) (entries : RankList) (w : V2) (j : ℤ) : Type 0 where
  pub leads : LeadsBackTo R w (pair w.b j)
  pub missing : IsListed entries (pair w.b j) → ⊥
  pub before : (i : ℤ) → i <ℤ j → LeadsBackTo R w (pair w.b i) → IsListed entries (pair w.b i)

-- the steps of the pair of e lead below it, and j is the first fault of its mirrored steps
pub record IsMissingBack (R : Area) (entries : RankList) (e : V2 × ℕ) (j : ℤ) : Type 0 where
  pub ahead : (v : V2) → LeadsTo R e.0 v → IsBelow entries e v
  pub first : IsFirstMissing R entries e.0 j

-- what is first found wrong at the entry e: steps are tested before mirrored steps, and each by the second entry of the
-- pair that they lead to, ascending
abbrev pub IsFaultAt : Area → RankList → V2 × ℕ → Fault → Type 0
IsFaultAt R entries e (NoUnit w) = ⊥
IsFaultAt R entries e (NotClosed w j) = (w ≡ e.0) × (IsMissingAhead R entries e j ⊎ IsMissingBack R entries e j)
IsFaultAt R entries e (NoFall w j) = (w ≡ e.0) × IsNextAhead R entries e j × StaysUp entries e (pair e.0.b j)
IsFaultAt R entries e (NotCycle i) = ⊥
IsFaultAt R entries e NotProper = ⊥
IsFaultAt R entries e NoBudget = ⊥

-- the units are listed, and the fault is of the first entry that has one
pub record IsFirstOpen (R : Area) (entries : RankList) (fault : Fault) : Type 0 where
  pub units : ListsUnits entries
  pub place : ℕ
  pub entry : V2 × ℕ
  pub is : slice_get entries place ≡ Some entry
  pub wrong : IsFaultAt R entries entry fault
  pub before : (k : ℕ) (e : V2 × ℕ) → k < place → slice_get entries k ≡ Some e → IsClosedAt R entries e

-- the fault is of the first unit that isn't listed
abbrev pub IsUnitFault : RankList → Fault → Type 0
IsUnitFault entries fault = (w : V2) × (fault ≡ NoUnit w) × IsFirstUnit entries w

-- what is first found wrong with the list
abbrev pub IsInsideFault : Area → RankList → Fault → Type 0
IsInsideFault R entries fault = IsUnitFault entries fault ⊎ IsFirstOpen R entries fault
