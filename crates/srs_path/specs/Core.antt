-- The core of a region, and ranks.
use Rattle.std.specs.Prelude.{◌≡◌, ◌≢◌, ℕ, zero, suc, ◌≤◌, ◌≤ℤ◌, ◌<ℤ◌, Bool, ◌&&◌, List, Contains, AllPairs}
use Rattle.std.specs.Ordering.{int_eq}
use Rattle.srs_num.specs.declared.pairs.V2.{V2}
use Rattle.srs_map.specs.Step.{origin}
use Rattle.srs_plane.specs.Regions.{Area}
use Rattle.srs_path.specs.Witnesses.{IsWitness, HasEdge}

-- a walk of n edges over nonzero pairs starts at w
abbrev pub Wanders : Area → ℕ → V2 → Type 0
Wanders R zero w = w ≢ origin
Wanders R (suc n) w = (w ≢ origin) × ((v : V2) × HasEdge R w v × Wanders R n v)

-- w is a witness from which walks of every length over nonzero pairs start
pub record IsInCore (R : Area) (w : V2) : Type 0 where
  pub witness : IsWitness R w
  pub walks : (n : ℕ) → Wanders R n w

abbrev pub HasNoCore : Area → Type 0
HasNoCore R = (w : V2) → IsInCore R w → ⊥

abbrev pub HasCore : Area → Type 0
HasCore R = (w : V2) × IsInCore R w

-- a walk of n edges from w ends at its first (0, 0)
abbrev pub Settles : Area → ℕ → V2 → Type 0
Settles R zero w = w ≡ origin
Settles R (suc n) w = (w ≢ origin) × ((v : V2) × HasEdge R w v × Settles R n v)

-- the longest walk from w that ends at its first (0, 0) has n edges
pub record IsRank (R : Area) (w : V2) (n : ℕ) : Type 0 where
  pub walk : Settles R n w
  pub longest : (m : ℕ) → Settles R m w → m ≤ n

-- whether both are the same pair
abbrev pub pair_eq : V2 → V2 → Bool
pair_eq v w = int_eq v.a w.a && int_eq v.b w.b

-- v stands before w in the order by a and then by b
abbrev pub Precedes : V2 → V2 → Type 0
Precedes v w = (v.a ≤ℤ w.a) × (v.a ≡ w.a → v.b <ℤ w.b)

-- all witnesses of R, ascending, with their ranks
pub record AreRanks (R : Area) (entries : List (V2 × ℕ)) : Type 0 where
  pub ascending : AllPairs (λ (e f : V2 × ℕ). Precedes e.0 f.0) entries
  pub each_witness : (w : V2) → IsWitness R w → (n : ℕ) × Contains entries (w, n)
  pub each_entry : (w : V2) (n : ℕ) → Contains entries (w, n) → IsWitness R w × IsRank R w n
