-- The lines of an inside leaf: how many witnesses it has, and one line a witness.
use Rattle.srs_path.specs.declared.limits.TheConstants.{MOST_WITNESSES}
use Rattle.std.specs.Prelude.{◌≡◌, ◌⊎◌, ℕ, ◌+◌, ◌-◌, ◌≤◌, ℤ, pos, ◌≤ℤ◌, List, [], ◌∷◌, ◌++◌, length, All, AllPairs, codes}
use Rattle.srs_num.specs.declared.pairs.V2.{V2}
use Rattle.srs_map.specs.Step.{IsNarrow}
use Rattle.srs_path.specs.Core.{Precedes}
use Rattle.srs_line.specs.declared.slip.Slip.{Slip}
use Rattle.srs_line.specs.declared.slip.Slip.TheVariants.{Range, Order}
use Rattle.srs_line.specs.Fields.{Says, IsFieldSlip}

-- what a leaf is seen as while it is read: how many witnesses are still to come, and those that came, with their ranks
pub record LeafView : Type 0 where
  pub left : ℕ
  pub entries : List (V2 × ℕ)

-- what a leaf keeps while it is read: its pairs ascend, pairs and ranks are in their ranges, and there aren't too many
pub record IsGrowingLeaf (left : ℕ) (pairs : List V2) (ranks : List ℤ) : Type 0 where
  pub same : length pairs ≡ length ranks
  pub room : length pairs + left ≤ MOST_WITNESSES
  pub ascending : AllPairs Precedes pairs
  pub narrow : All IsNarrow pairs
  pub within : All (λ z. (pos 0 ≤ℤ z) × (z ≤ℤ pos MOST_WITNESSES)) ranks

-- the pair is narrow, and the rank isn't below 0, nor above the most witnesses of a cell
abbrev pub IsEntry : V2 → ℤ → Type 0
IsEntry w z = IsNarrow w × (pos 0 ≤ℤ z) × (z ≤ℤ pos MOST_WITNESSES)

-- the line says the pair and its rank, in their ranges
abbrev pub SaysEntry : V2 → ℤ → List ℕ → Type 0
SaysEntry w z line = Says (codes "w") (w.a ∷ w.b ∷ z ∷ []) line × IsEntry w z

-- what is wrong with a line that should say a pair and its rank, whatever came before
abbrev pub IsEntrySlip : List ℕ → Slip → Type 0
IsEntrySlip line slip =
    IsFieldSlip (codes "w") 3 line slip ⊎ ((w : V2) × (z : ℤ) × Says (codes "w") (w.a ∷ w.b ∷ z ∷ []) line × (¬ (IsEntry w z)) × (slip ≡ Range))

-- the pair is greater than the last one of the entries
abbrev pub Follows : List (V2 × ℕ) → V2 → Type 0
Follows entries w = (before : List (V2 × ℕ)) (last : V2 × ℕ) → entries ≡ before ++ last ∷ [] → Precedes last.0 w

-- the line says the next entry of the leaf
abbrev pub TakesEntry : LeafView → List ℕ → LeafView → Type 0
TakesEntry old line new =
    (w : V2) × (n : ℕ) × SaysEntry w (pos n) line × Follows old.entries w × (new ≡ record { left = old.left - 1; entries = old.entries ++ (w, n) ∷ [] })

-- the line says no entry, or one whose pair isn't greater than the one before
abbrev pub SlipsEntry : LeafView → List ℕ → Slip → ℕ → Type 0
SlipsEntry old line slip back =
    (IsEntrySlip line slip × (back ≡ 0)) ⊎ ((w : V2) × (z : ℤ) × SaysEntry w z line × (¬ (Follows old.entries w)) × (slip ≡ Order) × (back ≡ 0))
