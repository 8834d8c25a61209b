-- Pairs with one first entry, in a row.
use Rattle.std.specs.Prelude.{◌≡◌, ◌≢◌, ℕ, ◌+◌, ◌<◌, ◌≤◌, ◌⊎◌, ◌++◌, if◌then◌else◌, Bool, not, ℤ, pos, negsuc, ◌+ℤ◌, ◌-ℤ◌, List, length, Contains, AllPairs}
use Rattle.srs_num.specs.declared.pairs.V2.{V2}
use Rattle.srs_map.specs.Step.{pair}
use Rattle.srs_wit.specs.declared.runs.Run.{Run}
use Rattle.srs_wit.specs.declared.runs.Step.{Step}

-- the run of these numbers
abbrev pub run_with : ℤ → ℤ → ℕ → Bool → Run
run_with a first count back = record { a = a; first = first; count = count; back = back }

-- the pair number k of the run
abbrev pub run_pair : Run → ℕ → V2
run_pair r k = pair r.a (if r.back then r.first -ℤ pos k else r.first +ℤ pos k)

-- the step of the run
abbrev pub stride_of : Run → Step
stride_of r = record { by = if r.back then negsuc 0 else pos 1 }

-- the run has the n pairs that begin with the second entry of w and end from low to high
pub record IsRunOf (w : V2) (low high : ℤ) (n : ℕ) (r : Run) : Type 0 where
  pub a : r.a ≡ w.b
  pub first : r.first ≡ (if r.back then high else low)
  pub count : r.count ≡ n

-- the run of the pairs on the other side
abbrev pub turned : Run → Run
turned r = record { a = pos 0 -ℤ r.a; first = pos 0 -ℤ r.first; count = r.count; back = not r.back }

-- the pairs f 0 to f (n - 1) are among the new ones: those that weren't among the old ones are the
-- last, and wait
pub record AddsAll (old : List V2) (f : ℕ → V2) (n : ℕ) (new waited waiting : List V2) : Type 0
  where
    pub more : List V2
    pub is : new ≡ old ++ more
    pub waits : waiting ≡ waited ++ more
    pub here : (k : ℕ) → k < n → Contains new (f k)
    pub others : (v : V2) → Contains new v → Contains old v ⊎ ((k : ℕ) × (k < n) × (v ≡ f k))
    pub different : AllPairs ◌≢◌ old → AllPairs ◌≢◌ new
    pub few : length new ≤ length old + n
