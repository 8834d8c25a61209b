-- What the links of a list walk, and what a change of the links does to the list.
use Rattle.std.proofs.Common.{◌≡◌, ◌≢◌, ℕ, zero, suc, ◌<◌, ◌≤◌, ◌^◌, Bool, true, false, not, cond, eqb, List, [], ◌∷◌, ◌++◌, length, get_or, set, refl, sym, ap, ap₂, subst, ◌∙◌, arith}
use Rattle.std.specs.Prelude.{reverse, slice_index, IsSome, IfSome, ◌⊎◌}
use Rattle.std.proofs.Common.{inl, inr}
use Rattle.std.specs.List.{AllByRecursion}
use Rattle.std.specs.declared.option.Option.{Option}
use Rattle.std.specs.declared.option.Option.TheVariants.{Some, None}
use Rattle.std.proofs.lemmas.List.{append_assoc, map-append, reverse-append, length-append, length-map, get_or_past, get_or-set_other}
use Rattle.std.proofs.lemmas.List.Elements.{filter-append}
use Rattle.std.proofs.lemmas.Bool.{eqb-true, eq-eqb, ne_eqb}
use Rattle.srs_front.specs.declared.links.TheConstants.{NO_SLOT}
use Rattle.srs_front.specs.Numbers.{Numbers, behind, ahead, IsEnd, AreInRow}
use Rattle.srs_front.specs.Walks.{item_at, HasSlot, without_slot, first_slot, slot_behind, slots_of, from_slot, walked, list_of, some_slot, AreSlots, DoSlotsDiffer, AreOf}
use Rattle.srs_front.proofs.RowLemmas.{Lacks, slots_apart, lacks_both, end_ahead, end_behind}

-- a slot that isn't none has its own number
pub own_behind : (n : Numbers) (slot : ℕ) → slot ≢ NO_SLOT → behind n slot ≡ slice_index n.next slot
own_behind n slot d = rw (ne_eqb slot NO_SLOT d)

pub own_ahead : (n : Numbers) (slot : ℕ) → slot ≢ NO_SLOT → ahead n slot ≡ slice_index n.prev slot
own_ahead n slot d = rw (ne_eqb slot NO_SLOT d)

pub some_slot-own : (slot : ℕ) → slot ≢ NO_SLOT → some_slot slot ≡ Some slot
some_slot-own slot d = rw (ne_eqb slot NO_SLOT d)

pub below_none : (k slot : ℕ) → slot < k → k < 2 ^ 63 → slot ≢ NO_SLOT
below_none k slot lt small e = absurd (omega (arith, e, lt, small))

-- a slot of the items has its numbers
pub end_by : (n : Numbers) (slot : ℕ) → slot < length n.next → slot < length n.prev → slot ≢ NO_SLOT → IsEnd n slot
end_by n slot lt lt' d = record {
  to = rw (ne_eqb slot NO_SLOT d) lt;
  back = rw (ne_eqb slot NO_SLOT d) lt';
}

-- slots of the items have their numbers
pub ends_by : (n : Numbers) (k : ℕ) (slots : List ℕ) → k ≡ length n.next → k ≡ length n.prev → k < 2 ^ 63 → AreSlots k slots → AllByRecursion (IsEnd n) slots
ends_by n k [] next prev small are = tt
ends_by n k (x ∷ slots) next prev small are =
    let lt : x < k = are.0 in
    (end_by n x (omega (arith, lt, next)) (omega (arith, lt, prev)) (below_none k x lt small), ends_by n k slots next prev small are.2)

pub end_none : (n : Numbers) → IsEnd n NO_SLOT
end_none n = record { to = tt; back = tt }

-- slots with their items
abbrev pub Pairs : Type 0 → Type 0
Pairs T = List (ℕ × T)

-- each item stands in its slot
abbrev pub Stand : {T : Type 0} → List (Option T) → List (ℕ × T) → Type 0
Stand items list = AllByRecursion (λ p. get_or items p.0 None ≡ Some p.1) list

module _ {T : Type 0} where
  -- the links of a list walk it
  pub walk_is : (n : Numbers) (items : List (Option T)) (list : Pairs T) (a most : ℕ) → length items < 2 ^ 63 → AreInRow n a (slots_of list) NO_SLOT → Stand items list
      → AreSlots (length items) (slots_of list) → length list ≤ most → walked n.next items most (behind n a) ≡ list
  walk_is n items [] a zero small row stand are le = refl
  walk_is n items [] a (suc most) small row stand are le =
      let past : get_or items NO_SLOT None ≡ None = get_or_past items NO_SLOT None (omega (arith, small)) in
      let here : get_or items (behind n a) None ≡ None = ap (λ (x : ℕ). get_or items x None) row.to ∙ past in
      ap (λ (o : Option T). from_slot (behind n a) o (walked n.next items most (slice_index n.next (behind n a)))) here
  walk_is n items (p ∷ list) a zero small row stand are le = absurd (omega (arith, le))
  walk_is n items (p ∷ list) a (suc most) small row stand are le =
      let rest : walked n.next items most (behind n p.0) ≡ list = walk_is n items list p.0 most small row.1 stand.1 are.2 (omega (arith, le)) in
      let own : behind n p.0 ≡ slice_index n.next p.0 = own_behind n p.0 (below_none (length items) p.0 are.0 small) in
      ap (λ (x : ℕ). from_slot x (get_or items x None) (walked n.next items most (slice_index n.next x))) row.0.to
      ∙ ap (λ (o : Option T). from_slot p.0 o (walked n.next items most (slice_index n.next p.0))) stand.0
      ∙ ap (λ (xs : Pairs T). p ∷ xs) (ap (walked n.next items most) (sym own) ∙ rest)

  module _ (n : Numbers) (items : List (Option T)) (free : List ℕ) (room : ℕ) (list : Pairs T) (of : AreOf n items free room list) (small : length items < 2 ^ 63) where
    pub kinds : AreSlots (length items) (slots_of list) × AreSlots (length items) free × AllByRecursion (λ x. Lacks x free) (slots_of list)
    kinds = slots_apart (length items) (slots_of list) free of.slots

    pub list_is : list_of n items ≡ list
    list_is = walk_is n items list NO_SLOT (length items) small of.row of.stand kinds.0 (omega (arith, of.all, length-append (slots_of list) free, length-map list (λ (p : ℕ × T). p.0)))

    pub seen : AreOf n items free room (list_of n items)
    seen = subst (λ (xs : Pairs T). AreOf n items free room xs) (sym list_is) of

    pub end_of : (slot : ℕ) → slot < length items → IsEnd n slot
    end_of slot lt = end_by n slot (omega (arith, lt, of.nexts)) (omega (arith, lt, of.prevs)) (below_none (length items) slot lt small)

    pub ends : (slots : List ℕ) → AreSlots (length items) slots → AllByRecursion (IsEnd n) slots
    ends slots are = ends_by n (length items) slots (sym of.nexts) (sym of.prevs) small are

    pub end_first : IsEnd n (behind n NO_SLOT)
    end_first = end_behind n NO_SLOT (slots_of list) NO_SLOT of.row (end_none n) (ends (slots_of list) kinds.0)

    pub end_last : IsEnd n (ahead n NO_SLOT)
    end_last = end_ahead n NO_SLOT (slots_of list) NO_SLOT of.row (end_none n) (ends (slots_of list) kinds.0)

  -- where a slot stands in a list
  pub record Stands (list : Pairs T) (slot : ℕ) : Type 0 where
    pub before : Pairs T
    pub item : T
    pub after : Pairs T
    pub is : list ≡ before ++ (slot, item) ∷ after
    pub found : item_at list slot ≡ Some item

  pub stands : (list : Pairs T) (slot : ℕ) → HasSlot list slot → Stands list slot
  stands [] slot has = absurd (let e : false ≡ true = has in cc)
  stands (p ∷ list) slot has = by (eqb p.0 slot) refl (stands list slot)
    where
      by : (b : Bool) → eqb p.0 slot ≡ b → (HasSlot list slot → Stands list slot) → Stands (p ∷ list) slot
      by true e later = record {
        before = [];
        item = p.1;
        after = list;
        is = ap (λ (x : ℕ). (x, p.1) ∷ list) (eqb-true p.0 slot e);
        found = ap (λ (b : Bool). cond b (Some p.1) (item_at list slot)) e;
      }
      by false e later =
          let more = later (subst (λ (b : Bool). IsSome (cond b (Some p.1) (item_at list slot))) e has) in
          record {
            before = p ∷ more.before;
            item = more.item;
            after = more.after;
            is = ap (λ (xs : Pairs T). p ∷ xs) more.is;
            found = ap (λ (b : Bool). cond b (Some p.1) (item_at list slot)) e ∙ more.found;
          }

  pub slots-middle : (before : Pairs T) (slot : ℕ) (item : T) (after : Pairs T) → slots_of (before ++ (slot, item) ∷ after) ≡ slots_of before ++ slot ∷ slots_of after
  slots-middle before slot item after = map-append (λ (p : ℕ × T). p.0) before ((slot, item) ∷ after)

  -- a list that lacks the slot
  pub without_lacking : (slot : ℕ) (list : Pairs T) → Lacks slot (slots_of list) → without_slot slot list ≡ list
  without_lacking slot [] l = refl
  without_lacking slot (p ∷ list) l =
      ap (λ (b : Bool). cond (not b) (p ∷ without_slot slot list) (without_slot slot list)) (ne_eqb p.0 slot (λ e. l.0 (sym e)))
      ∙ ap (λ (xs : Pairs T). p ∷ xs) (without_lacking slot list l.1)

  pub item_at-lacking : (slot : ℕ) (list : Pairs T) → Lacks slot (slots_of list) → item_at list slot ≡ None
  item_at-lacking slot [] l = refl
  item_at-lacking slot (p ∷ list) l = ap (λ (b : Bool). cond b (Some p.1) (item_at list slot)) (ne_eqb p.0 slot (λ e. l.0 (sym e))) ∙ item_at-lacking slot list l.1

  pub without_middle : (before : Pairs T) (slot : ℕ) (item : T) (after : Pairs T) → Lacks slot (slots_of before) → Lacks slot (slots_of after)
      → without_slot slot (before ++ (slot, item) ∷ after) ≡ before ++ after
  without_middle before slot item after l m =
      filter-append (λ (p : ℕ × T). not (eqb p.0 slot)) before ((slot, item) ∷ after)
      ∙ ap₂ (λ (xs ys : Pairs T). xs ++ ys) (without_lacking slot before l)
      (ap (λ (b : Bool). cond (not b) ((slot, item) ∷ without_slot slot after) (without_slot slot after)) (eq-eqb slot slot refl) ∙ without_lacking slot after m)

  pub differ : (k : ℕ) (list : Pairs T) → AreSlots k (slots_of list) → DoSlotsDiffer list
  differ k [] are = tt
  differ k (p ∷ list) are = (are.1, differ k list are.2)

  pub stand_parts : (items : List (Option T)) (before after : Pairs T) → Stand items (before ++ after) → Stand items before × Stand items after
  stand_parts items [] after all = (tt, all)
  stand_parts items (p ∷ before) after all = let r = stand_parts items before after all.1 in ((all.0, r.0), r.1)

  pub stand_both : (items : List (Option T)) (before after : Pairs T) → Stand items before → Stand items after → Stand items (before ++ after)
  stand_both items [] after a b = b
  stand_both items (p ∷ before) after a b = (a.0, stand_both items before after a.1 b)

  pub stand_stays : (items : List (Option T)) (list : Pairs T) (slot : ℕ) (o : Option T) → Lacks slot (slots_of list) → Stand items list → Stand (set items slot o) list
  stand_stays items [] slot o l all = tt
  stand_stays items (p ∷ list) slot o l all = (get_or-set_other items slot p.0 o None (λ e. l.0 (sym e)) ∙ all.0, stand_stays items list slot o l.1 all.1)

  -- the slot at the head, or this one
  first_or : Pairs T → Option ℕ → Option ℕ
  first_or [] o = o
  first_or (p ∷ list) o = Some p.0

  first_or-append : (list : Pairs T) (p : ℕ × T) (o : Option ℕ) → first_or (list ++ p ∷ []) o ≡ first_or list (Some p.0)
  unfolding first_or
  first_or-append [] p o = refl
  first_or-append (q ∷ list) p o = refl

  first_or-none : (list : Pairs T) → first_or list None ≡ first_slot list
  unfolding first_or
  first_or-none [] = refl
  first_or-none (q ∷ list) = refl

  reverse-cons : (p : ℕ × T) (list : Pairs T) → reverse (p ∷ list) ≡ reverse list ++ p ∷ []
  reverse-cons p list = reverse-append (p ∷ []) list

  -- the slot ahead of the end of a row is the first of the row reversed
  ahead_or : (n : Numbers) (k : ℕ) (list : Pairs T) (a b : ℕ) → AreInRow n a (slots_of list) b → AreSlots k (slots_of list) → k < 2 ^ 63
      → some_slot (ahead n b) ≡ first_or (reverse list) (some_slot a)
  unfolding first_or
  ahead_or n k [] a b row are small = ap some_slot row.back
  ahead_or n k (p ∷ list) a b row are small =
      ahead_or n k list p.0 b row.1 are.2 small ∙ ap (first_or (reverse list)) (some_slot-own p.0 (below_none k p.0 are.0 small))
      ∙ sym (ap (λ (xs : Pairs T). first_or xs (some_slot a)) (reverse-cons p list) ∙ first_or-append (reverse list) p (some_slot a))

  pub ahead_is : (n : Numbers) (k : ℕ) (list : Pairs T) (b : ℕ) → AreInRow n NO_SLOT (slots_of list) b → AreSlots k (slots_of list) → k < 2 ^ 63
      → some_slot (ahead n b) ≡ first_slot (reverse list)
  ahead_is n k list b row are small = ahead_or n k list NO_SLOT b row are small ∙ first_or-none (reverse list)

  -- the slot behind the start of a row is the first of the row
  pub behind_is : (n : Numbers) (k : ℕ) (list : Pairs T) (a : ℕ) → AreInRow n a (slots_of list) NO_SLOT → AreSlots k (slots_of list) → k < 2 ^ 63
      → some_slot (behind n a) ≡ first_slot list
  behind_is n k [] a row are small = ap some_slot row.to
  behind_is n k (p ∷ list) a row are small = ap some_slot row.0.to ∙ some_slot-own p.0 (below_none k p.0 are.0 small)

  pub slot_behind-middle : (before : Pairs T) (slot : ℕ) (item : T) (after : Pairs T) → Lacks slot (slots_of before)
      → slot_behind (before ++ (slot, item) ∷ after) slot ≡ first_slot after
  slot_behind-middle [] slot item after l = ap (λ (b : Bool). cond b (first_slot after) (slot_behind after slot)) (eq-eqb slot slot refl)
  slot_behind-middle (p ∷ before) slot item after l =
      let list : Pairs T = before ++ (slot, item) ∷ after in
      ap (λ (b : Bool). cond b (first_slot list) (slot_behind list slot)) (ne_eqb p.0 slot (λ e. l.0 (sym e))) ∙ slot_behind-middle before slot item after l.1

  lacks-reverse : (slot : ℕ) (list : Pairs T) → Lacks slot (slots_of list) → Lacks slot (slots_of (reverse list))
  lacks-reverse slot [] l = tt
  lacks-reverse slot (p ∷ list) l =
      let rest : Lacks slot (slots_of (reverse list) ++ p.0 ∷ []) = lacks_both slot (slots_of (reverse list)) (p.0 ∷ []) (lacks-reverse slot list l.1) (l.0, tt) in
      subst (Lacks slot) (sym (ap slots_of (reverse-cons p list) ∙ map-append (λ (q : ℕ × T). q.0) (reverse list) (p ∷ []))) rest

  reverse-middle : (before : Pairs T) (p : ℕ × T) (after : Pairs T) → reverse (before ++ p ∷ after) ≡ reverse after ++ p ∷ reverse before
  reverse-middle before p after =
      reverse-append before (p ∷ after) ∙ ap (λ (xs : Pairs T). xs ++ reverse before) (reverse-cons p after) ∙ append_assoc (reverse after) (p ∷ []) (reverse before)

  pub slot_ahead-middle : (before : Pairs T) (slot : ℕ) (item : T) (after : Pairs T) → Lacks slot (slots_of after)
      → slot_behind (reverse (before ++ (slot, item) ∷ after)) slot ≡ first_slot (reverse before)
  slot_ahead-middle before slot item after l =
      ap (λ (xs : Pairs T). slot_behind xs slot) (reverse-middle before (slot, item) after)
      ∙ slot_behind-middle (reverse after) slot item (reverse before) (lacks-reverse slot after l)

  -- the list has the slots that are found in it
  pub has_first : (list : Pairs T) → IfSome (first_slot list) (HasSlot list)
  has_first [] = tt
  has_first (p ∷ list) = subst (λ (b : Bool). IsSome (cond b (Some p.1) (item_at list p.0))) (sym (eq-eqb p.0 p.0 refl)) refl

  has_more : (p : ℕ × T) (list : Pairs T) (o : Option ℕ) → IfSome o (HasSlot list) → IfSome o (HasSlot (p ∷ list))
  has_more p list None h = tt
  has_more p list (Some slot) h =
      elim (eqb p.0 slot) as (λ b. IsSome (cond b (Some p.1) (item_at list slot))) [ true ↦ refl | false ↦ h ]

  pub has_behind : (list : Pairs T) (slot : ℕ) → IfSome (slot_behind list slot) (HasSlot list)
  has_behind [] slot = tt
  has_behind (p ∷ list) slot =
      elim (eqb p.0 slot) as (λ b. IfSome (cond b (first_slot list) (slot_behind list slot)) (HasSlot (p ∷ list))) [
        | true ↦ has_more p list (first_slot list) (has_first list)
        | false ↦ has_more p list (slot_behind list slot) (has_behind list slot)
      ]

  has_split : (front back : Pairs T) (slot : ℕ) → HasSlot (front ++ back) slot → HasSlot front slot ⊎ HasSlot back slot
  has_split [] back slot h = inr h
  has_split (p ∷ front) back slot h =
      (elim (eqb p.0 slot) as (λ b. IsSome (cond b (Some p.1) (item_at (front ++ back) slot)) → IsSome (cond b (Some p.1) (item_at front slot)) ⊎ HasSlot back slot) [
        | true ↦ λ _. inl refl
        | false ↦ has_split front back slot
      ]) h

  has_reversed : (list : Pairs T) (slot : ℕ) → HasSlot (reverse list) slot → HasSlot list slot
  has_reversed [] slot h = h
  has_reversed (p ∷ list) slot h =
      elim (has_split (reverse list) (p ∷ []) slot (subst (λ (xs : Pairs T). HasSlot xs slot) (reverse-cons p list) h)) [
        | inl before ↦ has_more p list (Some slot) (has_reversed list slot before)
        | inr last ↦ (elim (eqb p.0 slot) as (λ b. IsSome (cond b (Some p.1) None) → IsSome (cond b (Some p.1) (item_at list slot))) [
          | true ↦ λ _. refl
          | false ↦ λ none. absurd (let e : false ≡ true = none in cc)
        ]) last
      ]

  has_any : (o : Option ℕ) (list : Pairs T) → IfSome o (HasSlot (reverse list)) → IfSome o (HasSlot list)
  has_any None list h = tt
  has_any (Some slot) list h = has_reversed list slot h

  pub has_last : (list : Pairs T) → IfSome (first_slot (reverse list)) (HasSlot list)
  has_last list = has_any (first_slot (reverse list)) list (has_first (reverse list))

  pub has_ahead : (list : Pairs T) (slot : ℕ) → IfSome (slot_behind (reverse list) slot) (HasSlot list)
  has_ahead list slot = has_any (slot_behind (reverse list) slot) list (has_behind (reverse list) slot)
