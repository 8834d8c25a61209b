-- Two runners on one orbit, one of them twice as fast: what each pair shows by itself, and where
-- the two meet.
use Rattle.std.specs.Prelude.{◌≡◌, ◌≢◌, ℕ, ◌+◌, ◌<◌, ◌≤◌}
use Rattle.srs_num.specs.declared.pairs.V2.{V2}
use Rattle.srs_num.specs.Points.{Point}
use Rattle.srs_map.specs.Step.{after, origin, IsNarrow}
use Rattle.srs_map.specs.declared.chase.Place.{Place}
use Rattle.srs_map.specs.declared.chase.Finish.{Finish}
use Rattle.srs_map.specs.declared.chase.Finish.TheVariants.{Origin, Beyond, Meeting, Apart}

-- the pair isn't (0, 0), and its entries are within 2^37
pub record IsPlain (w : V2) : Type 0 where
  pub not_zero : w ≢ origin
  pub narrow : IsNarrow w

-- the pairs after fewer than k steps are plain
abbrev pub IsPlainBefore : Point → V2 → ℕ → Type 0
IsPlainBefore r z k = (i : ℕ) → i < k → IsPlain (after i r z)

-- what the pair w, met after k steps, shows by itself
abbrev pub IsEvent : V2 → ℕ → Finish → Type 0
IsEvent w k (Origin j) = (j ≡ k) × (w ≡ origin)
IsEvent w k (Beyond j) = (j ≡ k) × (IsNarrow w → ⊥)
IsEvent w k (Meeting p) = ⊥
IsEvent w k Apart = ⊥

-- p is the pair after its steps
abbrev pub IsPlace : Point → V2 → Place → Type 0
IsPlace r z p = after p.steps r z ≡ p.pair

-- the runners are apart after the slower one's steps 1 to n
abbrev pub AreApart : Point → V2 → ℕ → Type 0
AreApart r z n = (i : ℕ) → 1 ≤ i → i ≤ n → after i r z ≢ after (i + i) r z

-- the runners meet at p
pub record IsMeeting (r : Point) (z : V2) (p : Place) : Type 0 where
  pub some_step : 1 ≤ p.steps
  pub plain : IsPlainBefore r z (p.steps + p.steps + 1)
  pub slower : IsPlace r z p
  pub faster : after (p.steps + p.steps) r z ≡ p.pair

-- how the race ends while the slower one takes n steps
abbrev pub IsFinish : Point → V2 → ℕ → Finish → Type 0
IsFinish r z n (Origin k) = (k ≤ n + n) × IsPlainBefore r z k × (after k r z ≡ origin)
IsFinish r z n (Beyond k) = (k ≤ n + n) × IsPlainBefore r z k × (IsNarrow (after k r z) → ⊥)
IsFinish r z n (Meeting p) = (p.steps ≤ n) × IsMeeting r z p
IsFinish r z n Apart = IsPlainBefore r z (n + n + 1) × AreApart r z n

-- p is the first pair that comes back after i steps more
pub record IsStart (r : Point) (z : V2) (i : ℕ) (p : Place) : Type 0 where
  pub within : p.steps ≤ i
  pub place : IsPlace r z p
  pub returns : after (p.steps + i) r z ≡ p.pair
  pub least : (j : ℕ) → j < p.steps → after j r z ≢ after (j + i) r z

-- l is the least number of steps after which w comes back
pub record IsPeriod (r : Point) (w : V2) (l : ℕ) : Type 0 where
  pub some_step : 1 ≤ l
  pub returns : after l r w ≡ w
  pub least : (k : ℕ) → 1 ≤ k → k < l → after k r w ≢ w
