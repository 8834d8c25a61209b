-- Lists of slots with their items, and the links that walk them.
use Rattle.std.specs.Prelude.{◌≡◌, ◌≢◌, ◌≤◌, ◌<◌, ◌+◌, ⊤, ℕ, zero, suc, not, List, [], ◌∷◌, ◌++◌, length, map, filter, get_or, slice_index, ◌==◌, if◌then◌else◌, Some, None, IsSome}
use Rattle.std.specs.List.{AllByRecursion}
use Rattle.std.specs.declared.option.Option.{Option}
use Rattle.srs_front.specs.declared.links.TheConstants.{NO_SLOT}
use Rattle.srs_front.specs.declared.front.TheConstants.{MOST_WRITES}
use Rattle.srs_front.specs.Numbers.{Numbers, AreInRow}

module _ {T : Type 0} where
  -- the item in the slot, if the list has the slot
  abbrev pub item_at : List (ℕ × T) → ℕ → Option T
  item_at [] slot = None
  item_at (p ∷ list) slot = if p.0 == slot then Some p.1 else item_at list slot

  -- the list has the slot
  abbrev pub HasSlot : List (ℕ × T) → ℕ → Type 0
  HasSlot list slot = IsSome (item_at list slot)

  -- the list but for the slot
  abbrev pub without_slot : ℕ → List (ℕ × T) → List (ℕ × T)
  without_slot slot list = filter (λ p. not (p.0 == slot)) list

  -- the slot at the head of the list, if there is one
  abbrev pub first_slot : List (ℕ × T) → Option ℕ
  first_slot [] = None
  first_slot (p ∷ list) = Some p.0

  -- the slot behind this one in the list, if there is one
  abbrev pub slot_behind : List (ℕ × T) → ℕ → Option ℕ
  slot_behind [] slot = None
  slot_behind (p ∷ list) slot = if p.0 == slot then first_slot list else slot_behind list slot

  -- the slots of the list
  abbrev pub slots_of : List (ℕ × T) → List ℕ
  slots_of list = map (λ p. p.0) list

  -- an item in the slot and the list behind it, where there is one
  abbrev pub from_slot : ℕ → Option T → List (ℕ × T) → List (ℕ × T)
  from_slot slot None list = []
  from_slot slot (Some x) list = (slot, x) ∷ list

  -- the list that one walks from the slot on, by the next slots, over at most so many
  abbrev pub walked : List ℕ → List (Option T) → ℕ → ℕ → List (ℕ × T)
  walked next items zero slot = []
  walked next items (suc most) slot = from_slot slot (get_or items slot None) (walked next items most (slice_index next slot))

  -- the list that the links walk
  abbrev pub list_of : Numbers → List (Option T) → List (ℕ × T)
  list_of n items = walked n.next items (length items) n.first

-- the slots are among the first n, and differ
abbrev pub AreSlots : ℕ → List ℕ → Type 0
AreSlots n [] = ⊤
AreSlots n (slot ∷ slots) = (slot < n) × AllByRecursion (λ other. slot ≢ other) slots × AreSlots n slots

-- the slots of the list differ
abbrev pub DoSlotsDiffer : {T : Type 0} → List (ℕ × T) → Type 0
DoSlotsDiffer [] = ⊤
DoSlotsDiffer (p ∷ list) = AllByRecursion (λ other. p.0 ≢ other) (slots_of list) × DoSlotsDiffer list

-- the links, the items and the free slots are those of the list: its slots are in a row, each item stands in its slot, each
-- slot is in the list or free, and there is room for all slots to be free
pub record AreOf {T : Type 0} (n : Numbers) (items : List (Option T)) (free : List ℕ) (room : ℕ) (list : List (ℕ × T)) : Type 0 where
  pub row : AreInRow n NO_SLOT (slots_of list) NO_SLOT
  pub stand : AllByRecursion (λ p. get_or items p.0 None ≡ Some p.1) list
  pub slots : AreSlots (length items) (slots_of list ++ free)
  pub all : length (slots_of list ++ free) ≡ length items
  pub nexts : length n.next ≡ length items
  pub prevs : length n.prev ≡ length items
  pub room_for_all : length items ≤ room

-- the slot, or nothing where it is none
abbrev pub some_slot : ℕ → Option ℕ
some_slot slot = if slot == NO_SLOT then None else Some slot

-- at most `MOST_WRITES` link writes were made
pub record TakesFew (before after : ℕ) : Type 0 where
  pub more : before ≤ after
  pub few : after ≤ before + MOST_WRITES
