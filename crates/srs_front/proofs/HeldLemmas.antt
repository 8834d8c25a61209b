-- The same for a list that has a slot.
use Rattle.std.proofs.Common.{◌≡◌, ℕ, ◌<◌, ◌^◌, List, [], ◌∷◌, ◌++◌, length, get_or, set, sym, ap, subst, ◌∙◌, arith}
use Rattle.std.specs.Prelude.{reverse, IfSome}
use Rattle.std.specs.declared.option.Option.{Option}
use Rattle.std.specs.declared.option.Option.TheVariants.{Some, None}
use Rattle.std.specs.declared.vec.Vec.{Vec}
use Rattle.std.proofs.lemmas.List.{length-set}
use Rattle.srs_front.specs.declared.links.TheConstants.{NO_SLOT}
use Rattle.srs_front.specs.Numbers.{Numbers, behind, ahead, IsEnd, spliced_out, spliced_in}
use Rattle.srs_front.specs.Walks.{item_at, HasSlot, without_slot, first_slot, slot_behind, list_of, some_slot, DoSlotsDiffer, AreOf}
use Rattle.srs_front.proofs.WalkLemmas.{Pairs, Stands, stands, list_is, seen, kinds, behind_is, ahead_is, has_first, has_last, has_behind, has_ahead}
use Rattle.srs_front.proofs.ChangeLemmas.{pushed, lt, holds, end_slot, end_a, end_b, without, next_is, prev_is, all_differ, unlinked, end_out, end_first_out, moved}

-- a `Vec` has fewer items than memory has places
pub few_items : {X Z : Type 0} → (v : Vec X Z) → length v.items < 2 ^ 63
few_items v = omega (arith, v.small, v.ok.0, v.ok.1)

module _ {T : Type 0} (n : Numbers) (items : List (Option T)) (free : List ℕ) (room : ℕ) (small : length items < 2 ^ 63) where
  -- the links of a list walk it, and are those of what they walk
  pub kept : (list : Pairs T) → AreOf n items free room list → AreOf n items free room (list_of n items) × (list_of n items ≡ list)
  kept list of = (seen n items free room list of small, list_is n items free room list of small)

  -- the same for numbers that are equal to those
  pub kept_as : (m : Numbers) (list : Pairs T) → m ≡ n → AreOf n items free room list → AreOf m items free room (list_of m items) × (list_of m items ≡ list)
  kept_as m list same of = subst (λ (x : Numbers). AreOf x items free room (list_of x items) × (list_of x items ≡ list)) (sym same) (kept list of)

  -- an answer is the slot that is asked for, and a slot that the list has
  pub record IsSlotOf (list : Pairs T) (asked answer : Option ℕ) : Type 0 where
    pub slot : answer ≡ asked
    pub held : IfSome answer (HasSlot list)

  told_slot : (list : Pairs T) (asked answer : Option ℕ) → answer ≡ asked → IfSome asked (HasSlot list) → IsSlotOf list asked answer
  told_slot list asked answer is has = record { slot = is; held = subst (λ (o : Option ℕ). IfSome o (HasSlot list)) (sym is) has }

  -- the slots at both ends
  pub first_seen : (list : Pairs T) (answer : Option ℕ) → AreOf n items free room list → answer ≡ some_slot (behind n NO_SLOT) → IsSlotOf list (first_slot list) answer
  first_seen list answer of is =
      told_slot list (first_slot list) answer (is ∙ behind_is n (length items) list NO_SLOT of.row (kinds n items free room list of small).0 small) (has_first list)

  pub last_seen : (list : Pairs T) (answer : Option ℕ) → AreOf n items free room list → answer ≡ some_slot (ahead n NO_SLOT) → IsSlotOf list (first_slot (reverse list)) answer
  last_seen list answer of is =
      told_slot list (first_slot (reverse list)) answer (is ∙ ahead_is n (length items) list NO_SLOT of.row (kinds n items free room list of small).0 small) (has_last list)

  module _ (list : Pairs T) (of : AreOf n items free room list) (slot : ℕ) (has : HasSlot list slot) where
    abbrev there : Stands list slot
    there = stands list slot has

    parted : AreOf n items free room (there.before ++ (slot, there.item) ∷ there.after)
    parted = subst (AreOf n items free room) there.is of

    pub held_lt : slot < length items
    held_lt = lt n items free room small there.before slot there.item there.after parted

    -- the item in the slot
    pub held : T
    held = there.item

    pub held_found : item_at list slot ≡ Some held
    unfolding held
    held_found = there.found

    pub held_item : get_or items slot None ≡ Some held
    unfolding held
    held_item = holds n items free room small there.before slot there.item there.after parted

    pub held_end : IsEnd n slot
    held_end = end_slot n items free room small there.before slot there.item there.after parted

    -- what is asked of a slot that comes out of its row
    pub record CanLeave : Type 0 where
      pub own : IsEnd n slot
      pub ahead_of : IsEnd n (ahead n slot)
      pub behind_of : IsEnd n (behind n slot)

    pub can_leave : CanLeave
    can_leave = record {
      own = held_end;
      ahead_of = end_a n items free room small there.before slot there.item there.after parted;
      behind_of = end_b n items free room small there.before slot there.item there.after parted;
    }

    held_next : some_slot (behind n slot) ≡ slot_behind list slot
    held_next = next_is n items free room small there.before slot there.item there.after parted ∙ ap (λ (xs : Pairs T). slot_behind xs slot) (sym there.is)

    held_prev : some_slot (ahead n slot) ≡ slot_behind (reverse list) slot
    held_prev = prev_is n items free room small there.before slot there.item there.after parted ∙ ap (λ (xs : Pairs T). slot_behind (reverse xs) slot) (sym there.is)

    -- the slots on both sides
    pub next_seen : (answer : Option ℕ) → answer ≡ some_slot (behind n slot) → IsSlotOf list (slot_behind list slot) answer
    next_seen answer is = told_slot list (slot_behind list slot) answer (is ∙ held_next) (has_behind list slot)

    pub prev_seen : (answer : Option ℕ) → answer ≡ some_slot (ahead n slot) → IsSlotOf list (slot_behind (reverse list) slot) answer
    prev_seen answer is = told_slot list (slot_behind (reverse list) slot) answer (is ∙ held_prev) (has_ahead list slot)

    pub held_differ : DoSlotsDiffer list
    held_differ = subst DoSlotsDiffer (sym there.is) (all_differ n items free room small there.before slot there.item there.after parted)

    others : there.before ++ there.after ≡ without_slot slot list
    others = sym (ap (without_slot slot) there.is ∙ without n items free room small there.before slot there.item there.after parted)

    -- the list without the slot, which is free now
    pub held_unlinked : AreOf (spliced_out n slot) (set items slot None) (free ++ slot ∷ []) room (without_slot slot list)
    held_unlinked =
        subst (AreOf (spliced_out n slot) (set items slot None) (free ++ slot ∷ []) room) others (unlinked n items free room small there.before slot there.item there.after parted)

    pub held_out : IsEnd (spliced_out n slot) slot
    held_out = end_out n items free room small there.before slot there.item there.after parted

    pub held_first_out : IsEnd (spliced_out n slot) (behind (spliced_out n slot) NO_SLOT)
    held_first_out = end_first_out n items free room small there.before slot there.item there.after parted

    -- the list with the slot at its head
    pub held_moved : AreOf (spliced_in (spliced_out n slot) slot NO_SLOT (behind (spliced_out n slot) NO_SLOT)) items free room ((slot, held) ∷ without_slot slot list)
    unfolding held
    held_moved =
        subst (λ (xs : Pairs T). AreOf (spliced_in (spliced_out n slot) slot NO_SLOT (behind (spliced_out n slot) NO_SLOT)) items free room ((slot, there.item) ∷ xs)) others
        (moved n items free room small there.before slot there.item there.after parted)

-- the same, as the parts are made
module _ {T : Type 0} (n : Numbers) (items : List (Option T)) (free : List ℕ) (room : ℕ) (small : length items < 2 ^ 63) (list : Pairs T) (slot : ℕ) where
  -- the numbers m and these items and free slots are those of what they walk, which is `now`
  abbrev pub WalkAs : Numbers → List (Option T) → List ℕ → ℕ → Pairs T → Type 0
  WalkAs m xs left cap now = AreOf m xs left cap (list_of m xs) × (list_of m xs ≡ now)

  small_set : (o : Option T) → length (set items slot o) < 2 ^ 63
  small_set o = omega (arith, small, length-set items slot o)

  pub unlinked_as : (of : AreOf n items free room list) → HasSlot list slot → (m : Numbers) (o : Option T) (left : List ℕ) (cap : ℕ) → m ≡ spliced_out n slot → o ≡ None
      → left ≡ free ++ slot ∷ [] → cap ≡ room → WalkAs m (set items slot o) left cap (without_slot slot list)
  unlinked_as of has m o left cap m_is o_is left_is cap_is =
      let made : WalkAs m (set items slot None) (free ++ slot ∷ []) room (without_slot slot list)
      = kept_as (spliced_out n slot) (set items slot None) (free ++ slot ∷ []) room (small_set None) m (without_slot slot list) m_is (held_unlinked n items free room small list of slot has) in
      let here : WalkAs m (set items slot o) (free ++ slot ∷ []) room (without_slot slot list)
      = subst (λ (x : Option T). WalkAs m (set items slot x) (free ++ slot ∷ []) room (without_slot slot list)) (sym o_is) made in
      subst (λ (k : ℕ). WalkAs m (set items slot o) left k (without_slot slot list)) (sym cap_is)
      (subst (λ (fs : List ℕ). WalkAs m (set items slot o) fs room (without_slot slot list)) (sym left_is) here)

  pub pushed_as : (item : T) → AreOf n items (free ++ slot ∷ []) room list → (m : Numbers) (last : ℕ) → m ≡ spliced_in n slot last NO_SLOT → last ≡ ahead n NO_SLOT
      → WalkAs m (set items slot (Some item)) free room (list ++ (slot, item) ∷ [])
  pushed_as item of m last m_is last_is =
      kept_as (spliced_in n slot (ahead n NO_SLOT) NO_SLOT) (set items slot (Some item)) free room (small_set (Some item)) m (list ++ (slot, item) ∷ [])
      (m_is ∙ ap (λ (x : ℕ). spliced_in n slot x NO_SLOT) last_is) (pushed n items free room small list slot item of)

  pub moved_as : (of : AreOf n items free room list) (has : HasSlot list slot) (rest m : Numbers) (first : ℕ) → m ≡ spliced_in rest slot NO_SLOT first → first ≡ behind rest NO_SLOT
      → rest ≡ spliced_out n slot → WalkAs m items free room ((slot, held n items free room small list of slot has) ∷ without_slot slot list)
  moved_as of has rest m first m_is first_is rest_is =
      let then : Numbers → Numbers = λ k. spliced_in k slot NO_SLOT (behind k NO_SLOT) in
      kept_as (then (spliced_out n slot)) items free room small m ((slot, held n items free room small list of slot has) ∷ without_slot slot list)
      (m_is ∙ ap (spliced_in rest slot NO_SLOT) first_is ∙ ap then rest_is) (held_moved n items free room small list of slot has)

-- one item in a slot
pub same_head : {T : Type 0} → (slot : ℕ) (x y : T) (list : Pairs T) → Some x ≡ Some y → (slot, x) ∷ list ≡ (slot, y) ∷ list
same_head {T} slot x y list e = let is : x ≡ y = cc in ap (λ (z : T). let p : ℕ × T = (slot, z) in p ∷ list) is
