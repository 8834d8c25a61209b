-- The rule of the claim word, which holds between any two steps, and what each step tells.
use Rattle.std.specs.Prelude.{◌≡◌, ℕ, ◌+◌, ◌-◌, ◌<◌, ◌≤◌, ◌^◌, min, Bool, true, false, List, [], ◌∷◌, ◌++◌, length, if◌then◌else◌}
use mathlib.Core.Option.{some}
use lib.ListN.{get_elem?}
use Rattle.atomic_table.specs.Table.{State, Me, Step}
use Rattle.srs_claim.specs.declared.view.Role.{Role}
use Rattle.srs_claim.specs.declared.view.Role.TheVariants.{Live, Joining, Spent}
use Rattle.srs_claim.specs.declared.view.View.{View}
use Rattle.srs_claim.specs.Numbers.{times, AreDistinct, AreBelow}

-- what a seat knows
abbrev pub knows : Role → ℕ → List ℕ → Bool → ℕ → View
knows role n drawn ended spare = record { role = role; n = n; drawn = drawn; ended = ended; spare = spare }

-- the first seat
abbrev pub first_view : ℕ → ℕ → View
first_view n seats = knows Live n [] false (seats - 1)

-- a seat that another took in
abbrev pub spent_view : View
spent_view = knows Spent 0 [] false 0

-- the seat that another was split off
abbrev pub with_less_spare : View → View
with_less_spare v = record v { spare = v.spare - 1 }

-- the seat that was split off
abbrev pub new_view : View → View
new_view v = knows Live v.n [] false 0

-- the seat that took in another
abbrev pub joining_view : View → View → View
joining_view v w = record v { role = Joining w.drawn; spare = v.spare + w.spare }

-- the numbers of the seat that was taken in
abbrev pub brought_by : Role → List ℕ
brought_by Live = []
brought_by (Joining other) = other
brought_by Spent = []

-- how often the seat has the number, with those that it took in
abbrev pub times_by : ℕ → View → ℕ
times_by x v = times x v.drawn + times x (brought_by v.role)

-- 1 for a seat that has ended or is spent
abbrev pub ends_by : Role → Bool → ℕ
ends_by Live ended = if ended then 1 else 0
ends_by (Joining other) ended = if ended then 1 else 0
ends_by Spent ended = 1

-- the same of a seat's view
abbrev pub ends_of : View → ℕ
ends_of v = ends_by v.role v.ended

-- the sum over all seats
abbrev pub total_of : (View → ℕ) → List View → ℕ
total_of f [] = 0
total_of f (v ∷ vs) = f v + total_of f vs

-- A seat that isn't spent knows n, and has ended only where the word has reached it.
abbrev pub Fits : ℕ → ℕ → ℕ → Bool → Role → Type 0
Fits word n own ended Live = (own ≡ n) × (ended ≡ true → n ≤ word)
Fits word n own ended (Joining other) = (own ≡ n) × (ended ≡ true → n ≤ word)
Fits word n own ended Spent = Unit {0}

-- No number is drawn twice, and the word never wraps: it passes n once for each seat at most.
pub record IsClaimTable {S : Type 0} (n seats : ℕ) (s : State S View) : Type 0 where
  pub word : ℕ
  pub words : s.words ≡ word ∷ []
  pub few : n < 2 ^ 32
  pub small : seats ≤ 2 ^ 32
  pub each : (id : ℕ) (v : View) → get_elem? s.views id ≡ some v → Fits word n v.n v.ended v.role
  pub once : (x : ℕ) → total_of (times_by x) s.views ≤ 1
  pub below : (x : ℕ) → min word n ≤ x → total_of (times_by x) s.views ≡ 0
  pub room : length s.views + total_of (λ v. v.spare) s.views ≤ seats
  pub reach : word ≤ n + total_of ends_of s.views

module _ {S : Type 0} where
  -- The seat found t: below n it drew it, a new number; else it has ended.
  abbrev pub Drew : Step S → Me S View → ℕ → Me S View → Type 0
  Drew step old t new =
      (t < old.0.n → (new ≡ (record old.0 { drawn = old.0.drawn ++ t ∷ [] }, [])) × (times t old.0.drawn ≡ 0))
      × (old.0.n ≤ t → new ≡ (record old.0 { ended = true }, []))

  -- The two lists have no number in common, and became one.
  abbrev pub Compared : Step S → Me S View → ℕ → Me S View → Type 0
  Compared step old found new =
      (new ≡ (record old.0 { role = Live; drawn = old.0.drawn ++ brought_by old.0.role }, []))
      × AreDistinct old.0.drawn (brought_by old.0.role) × AreBelow old.0.n new.0.drawn
