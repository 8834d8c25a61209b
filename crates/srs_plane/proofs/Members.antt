-- What holds of all members of a list.
use Rattle.std.proofs.Common.{◌≡◌, ℕ, zero, suc, ◌+◌, ◌<◌, ◌≤◌, ◌⊎◌, List, [], ◌∷◌, ◌++◌, map, subst, arith, ⊎_elim}
use Rattle.std.specs.List.{AllByRecursion, range_with_len}
use Rattle.srs_num.specs.Points.{Point}
use Rattle.srs_plane.specs.declared.halves.Half.{Half}
use Rattle.srs_plane.specs.Regions.{IsInHalf, IsIn, Area}

-- at each number of the range
pub each_of_range : {X : Type 0} (P : X → Type 0) (f : ℕ → X) (n s : ℕ) → AllByRecursion P (map f (range_with_len s n)) → (j : ℕ) → s ≤ j → j < s + n → P (f j)
each_of_range P f zero s h j low high = absurd (omega arith)
each_of_range {X} P f (suc n) s h j low high =
    ⊎_elim
    (λ (e : s ≡ j). let Q : ℕ → Type 0 = λ k. P (f k) in subst Q e h.0)
    (λ (lt : s + 1 ≤ j). each_of_range P f n (s + 1) h.1 j lt (omega arith))
    (first_or_later s j low)
  where
    first_or_later : (s j : ℕ) → s ≤ j → (s ≡ j) ⊎ (s + 1 ≤ j)
    first_or_later s j h = grind arith

pub all_of_range : {X : Type 0} (P : X → Type 0) (f : ℕ → X) (n s : ℕ) → ((j : ℕ) → s ≤ j → j < s + n → P (f j)) → AllByRecursion P (map f (range_with_len s n))
all_of_range P f zero s h = tt
all_of_range P f (suc n) s h = (h s (omega arith) (omega arith), all_of_range P f n (s + 1) (λ j low high. h j (omega arith) (omega arith)))

pub all_weaker : {X : Type 0} (P Q : X → Type 0) → ((x : X) → P x → Q x) → (xs : List X) → AllByRecursion P xs → AllByRecursion Q xs
all_weaker P Q k [] h = tt
all_weaker P Q k (x ∷ xs) h = (k x h.0, all_weaker P Q k xs h.1)

-- one more
pub all_push : {X : Type 0} (P : X → Type 0) (xs : List X) (x : X) → AllByRecursion P xs → P x → AllByRecursion P (xs ++ x ∷ [])
all_push P [] x h k = (k, tt)
all_push P (y ∷ xs) x h k = (h.0, all_push P xs x h.1 k)

-- all but the last
pub all_front : {X : Type 0} (P : X → Type 0) (xs : List X) (x : X) → AllByRecursion P (xs ++ x ∷ []) → AllByRecursion P xs
all_front P [] x h = tt
all_front P (y ∷ xs) x h = (h.0, all_front P xs x h.1)

pub all_last : {X : Type 0} (P : X → Type 0) (xs : List X) (x : X) → AllByRecursion P (xs ++ x ∷ []) → P x
all_last P [] x h = h.0
all_last P (y ∷ xs) x h = all_last P xs x h.1

-- a point of the region is one of the shorter region, and in the last half
pub IsIn-front : (R : Area) (h : Half) (r : Point) → IsIn (R ++ h ∷ []) r → IsIn R r
IsIn-front R h r i = record { is_point = i.is_point; halves = all_front (λ h. IsInHalf h r) R h i.halves }

pub IsIn-last : (R : Area) (h : Half) (r : Point) → IsIn (R ++ h ∷ []) r → IsInHalf h r
IsIn-last R h r i = all_last (λ h. IsInHalf h r) R h i.halves

pub IsIn-push : (R : Area) (h : Half) (r : Point) → IsIn R r → IsInHalf h r → IsIn (R ++ h ∷ []) r
IsIn-push R h r i k = record { is_point = i.is_point; halves = all_push (λ h. IsInHalf h r) R h i.halves k }
