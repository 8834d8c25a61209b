-- The witnesses of a region as a list, and what shows that they are too many or too great.
use Rattle.std.specs.Prelude.{◌≡◌, ℕ, ◌+◌, List, length, Contains, AllPairs, ⊤}
use Rattle.srs_num.specs.declared.pairs.V2.{V2}
use Rattle.srs_map.specs.Step.{IsNarrow}
use Rattle.srs_plane.specs.Regions.{Area}
use Rattle.srs_path.specs.Witnesses.{IsWitness, AreWitnesses}
use Rattle.srs_path.specs.Core.{Precedes}
use Rattle.srs_wit.specs.declared.sets.WitErr.{WitErr}
use Rattle.srs_wit.specs.declared.sets.WitErr.TheVariants.{Large, NoMemory}
use Rattle.srs_wit.specs.declared.sets.Big.{Big}
use Rattle.srs_wit.specs.declared.sets.Big.TheVariants.{Many, Wide}

-- ws lists exactly the witnesses of R, strictly ascending
pub record AreAllWitnesses (R : Area) (ws : List V2) : Type 0 where
  pub ascending : AllPairs Precedes ws
  pub each : (w : V2) → Contains ws w → IsWitness R w
  pub all : (w : V2) → IsWitness R w → Contains ws w

-- one more than W different witnesses
pub record AreTooMany (R : Area) (W : ℕ) (ws : List V2) : Type 0 where
  pub witnesses : AreWitnesses R ws
  pub many : length ws ≡ W + 1

-- a witness with an entry past 2^37
pub record IsTooWide (R : Area) (w : V2) : Type 0 where
  pub witness : IsWitness R w
  pub wide : IsNarrow w → ⊥

-- what shows that R isn't small
abbrev pub IsBig : Area → ℕ → Big → Type 0
IsBig R W (Many ws) = AreTooMany R W ws
IsBig R W (Wide w) = IsTooWide R w

-- a refusal shows that R isn't small, or is want of memory
abbrev pub IsExcess : Area → ℕ → WitErr → Type 0
IsExcess R W (Large big) = IsBig R W big
IsExcess R W NoMemory = ⊤
