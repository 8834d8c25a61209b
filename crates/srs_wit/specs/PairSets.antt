-- How a set of pairs is looked up.
use Rattle.std.specs.Prelude.{◌≡◌, ℕ, ◌+◌, ◌*◌, ◌<◌, ◌≤◌, ◌^◌, pos, neg_ℤ, ◌+ℤ◌, ◌≤ℤ◌, ◌<ℤ◌, unsigned_abs, Bool, List, [], ◌∷◌, ◌++◌, if◌then◌else◌, length}
use Rattle.std.specs.List.{list_any}
use Rattle.srs_num.specs.declared.pairs.V2.{V2}
use Rattle.srs_path.specs.Core.{pair_eq}
use Rattle.srs_wit.specs.Marks.{is_marked}

-- whether v is one of the pairs
abbrev pub has_pair : List V2 → V2 → Bool
has_pair vs v = list_any (pair_eq v) vs

-- those that wait, with v where it is none of the pairs
abbrev pub with_pair : List V2 → List V2 → V2 → List V2
with_pair followed waiting v = if has_pair (followed ++ waiting) v then waiting else waiting ++ v ∷ []

-- the pairs that were followed, and those that wait for it
pub record Lists : Type 0 where
  pub followed : List V2
  pub waiting : List V2

-- all of them
abbrev pub all_of : Lists → List V2
all_of s = s.followed ++ s.waiting

-- v was added to those that wait, where it is new
pub record HasOneMore (old : Lists) (v : V2) (new : Lists) : Type 0 where
  pub followed : new.followed ≡ old.followed
  pub waiting : new.waiting ≡ with_pair old.followed old.waiting v

-- w, which waited last, was followed
pub record IsNext (old : Lists) (w : V2) (new : Lists) : Type 0 where
  pub waited : old.waiting ≡ new.waiting ++ w ∷ []
  pub followed : new.followed ≡ old.followed ++ w ∷ []

-- the first entry of v is from 0 on and below the side, and the second one from its opposite on and
-- below it
pub record IsNear (side : ℕ) (v : V2) : Type 0 where
  pub from_a : pos 0 ≤ℤ v.a
  pub below_a : v.a <ℤ pos side
  pub from_b : neg_ℤ (pos side) ≤ℤ v.b
  pub below_b : v.b <ℤ pos side

-- the number of a near pair, row by row
abbrev pub number_of : ℕ → V2 → ℕ
number_of side v = unsigned_abs v.a * (2 * side) + unsigned_abs (v.b +ℤ pos side)

-- n is the number of the near pair v
pub record IsNumber (side : ℕ) (v : V2) (n : ℕ) : Type 0 where
  pub near : IsNear side v
  pub is : n ≡ number_of side v
  pub within : n < (2 * side) * side

-- the near ones of the pairs are marked by their numbers, and the others are those far away
pub record AreIndexed (side : ℕ) (vs : List V2) (words : List ℕ) (far : List V2) : Type 0 where
  pub bounded : side ≤ 2 ^ 10
  pub room : (2 * side) * side ≤ 64 * length words
  pub near : (v : V2) → IsNear side v → has_pair vs v ≡ is_marked words (number_of side v)
  pub apart : (v : V2) → (IsNear side v → ⊥) → has_pair vs v ≡ has_pair far v
