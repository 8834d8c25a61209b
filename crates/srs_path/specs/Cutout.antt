-- The cutout polygon of a cycle.
use Rattle.std.specs.Prelude.{◌≡◌, ◌⊎◌, ℕ, ◌+◌, ◌<◌, ◌%◌, ℤ, pos, ◌-ℤ◌, ◌≤ℤ◌, ◌<ℤ◌, List, [], ◌∷◌, length, slice_get, slice_index_or, Some}
use Rattle.std.specs.List.{flat_map, range_with_len}
use Rattle.srs_num.specs.Points.{Point, LinearForm, value}
use Rattle.srs_plane.specs.Regions.{Area, IsIn, Divides}

-- a_i, with the index modulo the length of the cycle
abbrev pub entry_at : List ℤ → ℕ → ℤ
entry_at c i = slice_index_or c (i % length c) (pos 0)

-- f_i is (a_i, a_(i+1), a_(i+2))
abbrev pub lower_form : List ℤ → ℕ → LinearForm
lower_form c i = record { a = entry_at c i; b = entry_at c (i + 1); c = entry_at c (i + 2) }

-- f_i - 1 is (a_i, a_(i+1), a_(i+2) - 1)
abbrev pub upper_form : List ℤ → ℕ → LinearForm
upper_form c i = record {
  a = entry_at c i;
  b = entry_at c (i + 1);
  c = entry_at c (i + 2) -ℤ pos 1;
}

-- the cycle holds at r from its place i to the next: f_i >= 0 and f_i - 1 < 0
abbrev pub HoldsAt : List ℤ → Point → ℕ → Type 0
HoldsAt c r i = (pos 0 ≤ℤ value (lower_form c i) r) × (value (upper_form c i) r <ℤ pos 0)

-- each point of R has f_i >= 0 and f_i - 1 < 0 for each i
abbrev pub Covers : Area → List ℤ → Type 0
Covers R c = (r : Point) → IsIn R r → (i : ℕ) → i < length c → HoldsAt c r i

-- a point of R has f_i < 0 or f_i - 1 >= 0
abbrev pub Breaks : Area → List ℤ → ℕ → Type 0
Breaks R c i = (r : Point) × IsIn R r × ((value (lower_form c i) r <ℤ pos 0) ⊎
    (pos 0 ≤ℤ value (upper_form c i) r))

-- f_0, f_0 - 1, f_1, f_1 - 1, ..
abbrev pub cutout_of : List ℤ → List LinearForm
cutout_of c = flat_map (λ i. lower_form c i ∷ upper_form c i ∷ []) (range_with_len 0 (length c))

-- h is the first form of the list that divides R
pub record IsFirstDividing (R : Area) (forms : List LinearForm) (h : LinearForm) : Type 0 where
  pub place : ℕ
  pub is : slice_get forms place ≡ Some h
  pub divides : Divides R h
  pub none_before : (k : ℕ) (g : LinearForm) → k < place → slice_get forms k ≡ Some g → Divides R g
      → ⊥
