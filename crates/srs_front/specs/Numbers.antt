-- The numbers of links, and how slots are joined by them.
use Rattle.std.specs.Prelude.{◌≡◌, ◌<◌, ⊤, ℕ, List, [], ◌∷◌, ◌++◌, length, slice_index, slice_set, ◌==◌, if◌then◌else◌}
use Rattle.srs_front.specs.declared.links.LinkPlace.{LinkPlace}
use Rattle.srs_front.specs.declared.links.LinkPlace.TheVariants.{Next, Prev, First, Final}
use Rattle.srs_front.specs.declared.links.TheConstants.{NO_SLOT}

-- the numbers of links: two for each slot, and two ends
pub record Numbers : Type 0 where
  pub next : List ℕ
  pub prev : List ℕ
  pub first : ℕ
  pub final : ℕ

-- the links have a number at the place
abbrev pub HasPlace : Numbers → LinkPlace → Type 0
HasPlace n (Next slot) = slot < length n.next
HasPlace n (Prev slot) = slot < length n.prev
HasPlace n First = ⊤
HasPlace n Final = ⊤

-- the number at the place
abbrev pub number_at : Numbers → LinkPlace → ℕ
number_at n (Next slot) = slice_index n.next slot
number_at n (Prev slot) = slice_index n.prev slot
number_at n First = n.first
number_at n Final = n.final

-- the numbers, with this one at the place
abbrev pub with_number : Numbers → LinkPlace → ℕ → Numbers
with_number n (Next slot) to = record n { next = slice_set n.next slot to }
with_number n (Prev slot) to = record n { prev = slice_set n.prev slot to }
with_number n First to = record n { first = to }
with_number n Final to = record n { final = to }

-- the numbers, with one more slot
abbrev pub with_slot : Numbers → Numbers
with_slot n = record n { next = n.next ++ NO_SLOT ∷ []; prev = n.prev ++ NO_SLOT ∷ [] }

-- where the slot behind this one stands: behind none is the first
abbrev pub place_behind : ℕ → LinkPlace
place_behind slot = if slot == NO_SLOT then First else Next slot

-- where the slot ahead of this one stands: ahead of none is the last
abbrev pub place_ahead : ℕ → LinkPlace
place_ahead slot = if slot == NO_SLOT then Final else Prev slot

-- the slot behind this one
abbrev pub behind : Numbers → ℕ → ℕ
behind n slot = number_at n (place_behind slot)

-- the slot ahead of this one
abbrev pub ahead : Numbers → ℕ → ℕ
ahead n slot = number_at n (place_ahead slot)

-- the slot has its numbers, or is none
pub record IsEnd (n : Numbers) (slot : ℕ) : Type 0 where
  pub to : HasPlace n (place_behind slot)
  pub back : HasPlace n (place_ahead slot)

-- b is the slot behind a, and a the slot ahead of b
pub record AreJoined (n : Numbers) (a b : ℕ) : Type 0 where
  pub to : behind n a ≡ b
  pub back : ahead n b ≡ a

-- the numbers after a and b were joined
abbrev pub joined : Numbers → ℕ → ℕ → Numbers
joined n a b = with_number (with_number n (place_behind a) b) (place_ahead b) a

-- the numbers after the slots beside this one were joined
abbrev pub spliced_out : Numbers → ℕ → Numbers
spliced_out n slot = joined n (ahead n slot) (behind n slot)

-- the numbers after the slot was joined with a ahead of it and b behind it
abbrev pub spliced_in : Numbers → ℕ → ℕ → ℕ → Numbers
spliced_in n slot a b = joined (joined n a slot) slot b

-- each of a, the slots and b is joined with the next
abbrev pub AreInRow : Numbers → ℕ → List ℕ → ℕ → Type 0
AreInRow n a [] b = AreJoined n a b
AreInRow n a (slot ∷ slots) b = AreJoined n a slot × AreInRow n slot slots b
