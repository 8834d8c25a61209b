-- What the three changes of a list, and one more slot, do to its links.
use Rattle.std.proofs.Common.{◌≡◌, ◌≢◌, ℕ, ◌<◌, ◌≤◌, ◌+◌, ◌^◌, List, [], ◌∷◌, ◌++◌, length, get_or, set, refl, sym, ap, subst, ◌∙◌, arith}
use Rattle.std.specs.Prelude.{reverse}
use Rattle.std.specs.List.{AllByRecursion}
use Rattle.std.specs.declared.option.Option.{Option}
use Rattle.std.specs.declared.option.Option.TheVariants.{Some, None}
use Rattle.std.proofs.lemmas.List.{append-nil, append_assoc, map-append, length-append, length-set, get_or-set_same, get_or_append_left}
use Rattle.srs_front.specs.declared.links.TheConstants.{NO_SLOT}
use Rattle.srs_front.specs.Numbers.{Numbers, with_slot, behind, ahead, IsEnd, joined, spliced_out, spliced_in, AreInRow}
use Rattle.srs_front.specs.Walks.{item_at, without_slot, slot_behind, slots_of, some_slot, AreSlots, DoSlotsDiffer, AreOf}
use Rattle.srs_front.proofs.RowLemmas.{Lacks, slots_apart, slot_out, slot_in, lacks_parts, lacks_both, rows_apart, end_ahead, end_behind, end_stays, nexts_stay, prevs_stay, row_without, row_push, row_first}
use Rattle.srs_front.proofs.WalkLemmas.{Pairs, Stand, own_behind, own_ahead, below_none, ends_by, end_none, kinds, end_of, ends, end_last, stand_parts, stand_both, stand_stays, slots-middle, without_middle, item_at-lacking, differ, ahead_is, behind_is, slot_behind-middle, slot_ahead-middle}

module _ {T : Type 0} (n : Numbers) (items : List (Option T)) (free : List ℕ) (room : ℕ) (small : length items < 2 ^ 63) where
  -- a list in which the slot stands
  module _ (before : Pairs T) (slot : ℕ) (item : T) (after : Pairs T) (of : AreOf n items free room (before ++ (slot, item) ∷ after)) where
    abbrev fronts : List ℕ
    fronts = slots_of before

    abbrev backs : List ℕ
    backs = slots_of after

    row : AreInRow n NO_SLOT (fronts ++ slot ∷ backs) NO_SLOT
    row = subst (λ (xs : List ℕ). AreInRow n NO_SLOT xs NO_SLOT) (slots-middle before slot item after) of.row

    own : AreSlots (length items) (fronts ++ slot ∷ backs)
    own = subst (AreSlots (length items)) (slots-middle before slot item after) (kinds n items free room (before ++ (slot, item) ∷ after) of small).0

    whole : AreSlots (length items) (fronts ++ slot ∷ (backs ++ free))
    whole =
        subst (AreSlots (length items)) (ap (λ (xs : List ℕ). xs ++ free) (slots-middle before slot item after) ∙ append_assoc fronts (slot ∷ backs) free) of.slots

    out : (slot < length items) × Lacks slot (fronts ++ (backs ++ free)) × AreSlots (length items) (fronts ++ (backs ++ free))
    out = slot_out (length items) fronts slot (backs ++ free) whole

    pub lt : slot < length items
    lt = out.0

    away : Lacks slot fronts × Lacks slot (backs ++ free)
    away = lacks_parts slot fronts (backs ++ free) out.1

    away_behind : Lacks slot backs × Lacks slot free
    away_behind = lacks_parts slot backs free away.1

    parts : AreInRow n NO_SLOT fronts slot × AreInRow n slot backs NO_SLOT
    parts = rows_apart n NO_SLOT fronts slot backs NO_SLOT row

    sides : AreSlots (length items) fronts × AreSlots (length items) (slot ∷ backs) × AllByRecursion (λ x. Lacks x (slot ∷ backs)) fronts
    sides = slots_apart (length items) fronts (slot ∷ backs) own

    all_stand : Stand items before × Stand items ((slot, item) ∷ after)
    all_stand = stand_parts items before ((slot, item) ∷ after) of.stand

    pub holds : get_or items slot None ≡ Some item
    holds = all_stand.1.0

    pub end_slot : IsEnd n slot
    end_slot = end_of n items free room (before ++ (slot, item) ∷ after) of small slot lt

    pub end_a : IsEnd n (ahead n slot)
    end_a = end_ahead n NO_SLOT fronts slot parts.0 (end_none n) (ends n items free room (before ++ (slot, item) ∷ after) of small fronts sides.0)

    pub end_b : IsEnd n (behind n slot)
    end_b = end_behind n slot backs NO_SLOT parts.1 (end_none n) (ends n items free room (before ++ (slot, item) ∷ after) of small backs sides.1.2)

    pub without : without_slot slot (before ++ (slot, item) ∷ after) ≡ before ++ after
    without = without_middle before slot item after away.0 away_behind.0

    pub next_is : some_slot (behind n slot) ≡ slot_behind (before ++ (slot, item) ∷ after) slot
    next_is = behind_is n (length items) after slot parts.1 sides.1.2 small ∙ sym (slot_behind-middle before slot item after away.0)

    pub prev_is : some_slot (ahead n slot) ≡ slot_behind (reverse (before ++ (slot, item) ∷ after)) slot
    prev_is = ahead_is n (length items) before slot parts.0 sides.0 small ∙ sym (slot_ahead-middle before slot item after away_behind.0)

    pub all_differ : DoSlotsDiffer (before ++ (slot, item) ∷ after)
    all_differ = differ (length items) (before ++ (slot, item) ∷ after) (kinds n items free room (before ++ (slot, item) ∷ after) of small).0

    others-slots : slots_of (before ++ after) ≡ fronts ++ backs
    others-slots = map-append (λ (p : ℕ × T). p.0) before after

    rest_row : AreInRow (spliced_out n slot) NO_SLOT (fronts ++ backs) NO_SLOT
    rest_row = row_without n (length items) fronts slot backs row own small end_a end_b

    count : length (fronts ++ backs) + length free + 1 ≡ length items
    count =
        omega (
          arith,
          of.all,
          ap length (slots-middle before slot item after),
          length-append (slots_of (before ++ (slot, item) ∷ after)) free,
          length-append fronts (slot ∷ backs),
          length-append fronts backs,
        )

    -- the list without the slot, which is free now
    pub unlinked : AreOf (spliced_out n slot) (set items slot None) (free ++ slot ∷ []) room (before ++ after)
    unlinked =
        let same : length (set items slot None) ≡ length items = length-set items slot None in
        let some : AreSlots (length items) ((fronts ++ (backs ++ free)) ++ slot ∷ [])
        = slot_in (length items) (fronts ++ (backs ++ free)) slot [] lt (subst (Lacks slot) (sym (append-nil (fronts ++ (backs ++ free)))) out.1)
        (subst (AreSlots (length items)) (sym (append-nil (fronts ++ (backs ++ free)))) out.2) in
        let order : (fronts ++ (backs ++ free)) ++ slot ∷ [] ≡ slots_of (before ++ after) ++ (free ++ slot ∷ [])
        = ap (λ (xs : List ℕ). xs ++ slot ∷ []) (sym (append_assoc fronts backs free)) ∙ append_assoc (fronts ++ backs) free (slot ∷ [])
        ∙ ap (λ (xs : List ℕ). xs ++ (free ++ slot ∷ [])) (sym others-slots) in
        record {
          row = subst (λ (xs : List ℕ). AreInRow (spliced_out n slot) NO_SLOT xs NO_SLOT) (sym others-slots) rest_row;
          stand = stand_both (set items slot None) before after (stand_stays items before slot None away.0 all_stand.0) (stand_stays items after slot None away_behind.0 all_stand.1.1);
          slots = subst (λ (k : ℕ). AreSlots k (slots_of (before ++ after) ++ (free ++ slot ∷ []))) (sym same) (subst (AreSlots (length items)) order some);
          all = omega (arith, count, same, ap length others-slots, length-append (slots_of (before ++ after)) (free ++ slot ∷ []), length-append free (slot ∷ []));
          nexts = nexts_stay n (ahead n slot) (behind n slot) ∙ of.nexts ∙ sym same;
          prevs = prevs_stay n (ahead n slot) (behind n slot) ∙ of.prevs ∙ sym same;
          room_for_all = let le : length items ≤ room = of.room_for_all in omega (arith, le, same);
        }

    -- the slots without this one, when it is out
    abbrev rest : Numbers
    rest = spliced_out n slot

    rest_slots : (slot < length items) × Lacks slot (fronts ++ backs) × AreSlots (length items) (fronts ++ backs)
    rest_slots = slot_out (length items) fronts slot backs own

    pub end_out : IsEnd rest slot
    end_out = end_stays n (ahead n slot) (behind n slot) slot end_slot

    pub end_first_out : IsEnd rest (behind rest NO_SLOT)
    end_first_out =
        end_behind rest NO_SLOT (fronts ++ backs) NO_SLOT rest_row (end_none rest)
        (ends_by rest (length items) (fronts ++ backs) (sym (nexts_stay n (ahead n slot) (behind n slot) ∙ of.nexts)) (sym (prevs_stay n (ahead n slot) (behind n slot) ∙ of.prevs)) small rest_slots.2)

    -- the list with the slot at its head
    pub moved : AreOf (spliced_in rest slot NO_SLOT (behind rest NO_SLOT)) items free room ((slot, item) ∷ (before ++ after))
    moved =
        let first : ℕ = behind rest NO_SLOT in
        let m : Numbers = joined rest NO_SLOT slot in
        let order : slot ∷ (fronts ++ (backs ++ free)) ≡ slot ∷ (slots_of (before ++ after) ++ free)
        = ap (λ (xs : List ℕ). slot ∷ xs) (sym (append_assoc fronts backs free) ∙ ap (λ (xs : List ℕ). xs ++ free) (sym others-slots)) in
        record {
          row = subst (λ (xs : List ℕ). AreInRow (spliced_in rest slot NO_SLOT first) NO_SLOT (slot ∷ xs) NO_SLOT) (sym others-slots)
              (row_first rest (length items) (fronts ++ backs) slot rest_row rest_slots.2 small lt rest_slots.1 end_first_out end_out (end_none rest));
          stand = (holds, stand_both items before after all_stand.0 all_stand.1.1);
          slots = subst (AreSlots (length items)) order (lt, out.1, out.2);
          all = omega (arith, count, ap length others-slots, length-append (slots_of (before ++ after)) free);
          nexts = nexts_stay m slot first ∙ nexts_stay rest NO_SLOT slot ∙ nexts_stay n (ahead n slot) (behind n slot) ∙ of.nexts;
          prevs = prevs_stay m slot first ∙ prevs_stay rest NO_SLOT slot ∙ prevs_stay n (ahead n slot) (behind n slot) ∙ of.prevs;
          room_for_all = of.room_for_all;
        }

  -- a list of which the slot is free
  module _ (list : Pairs T) (slot : ℕ) (item : T) (of : AreOf n items (free ++ slot ∷ []) room list) where
    free_order : slots_of list ++ (free ++ slot ∷ []) ≡ (slots_of list ++ free) ++ slot ∷ []
    free_order = sym (append_assoc (slots_of list) free (slot ∷ []))

    free_out : (slot < length items) × Lacks slot ((slots_of list ++ free) ++ []) × AreSlots (length items) ((slots_of list ++ free) ++ [])
    free_out = slot_out (length items) (slots_of list ++ free) slot [] (subst (AreSlots (length items)) free_order of.slots)

    free_lacks : Lacks slot (slots_of list ++ free)
    free_lacks = subst (Lacks slot) (append-nil (slots_of list ++ free)) free_out.1

    free_slots : AreSlots (length items) (slots_of list ++ free)
    free_slots = subst (AreSlots (length items)) (append-nil (slots_of list ++ free)) free_out.2

    pub free_lt : slot < length items
    free_lt = free_out.0

    lacks_list : Lacks slot (slots_of list)
    lacks_list = (lacks_parts slot (slots_of list) free free_lacks).0

    pub free_end : IsEnd n slot
    free_end = end_of n items (free ++ slot ∷ []) room list of small slot free_lt

    pub free_last : IsEnd n (ahead n NO_SLOT)
    free_last = end_last n items (free ++ slot ∷ []) room list of small

    pub free_other : item_at list slot ≡ None
    free_other = item_at-lacking slot list lacks_list

    -- the list with the slot behind it
    pub pushed : AreOf (spliced_in n slot (ahead n NO_SLOT) NO_SLOT) (set items slot (Some item)) free room (list ++ (slot, item) ∷ [])
    pushed =
        let same : length (set items slot (Some item)) ≡ length items = length-set items slot (Some item) in
        let last : ℕ = ahead n NO_SLOT in
        let m : Numbers = joined n last slot in
        let is : slots_of (list ++ (slot, item) ∷ []) ≡ slots_of list ++ slot ∷ [] = slots-middle list slot item [] in
        let kind = (slots_apart (length items) (slots_of list) free free_slots).0 in
        let order : slots_of list ++ slot ∷ free ≡ slots_of (list ++ (slot, item) ∷ []) ++ free
        = sym (append_assoc (slots_of list) (slot ∷ []) free) ∙ ap (λ (xs : List ℕ). xs ++ free) (sym is) in
        record {
          row = subst (λ (xs : List ℕ). AreInRow (spliced_in n slot last NO_SLOT) NO_SLOT xs NO_SLOT) (sym is)
              (row_push n (length items) (slots_of list) slot of.row kind small free_lt lacks_list free_last free_end (end_none n));
          stand = stand_both (set items slot (Some item)) list ((slot, item) ∷ []) (stand_stays items list slot (Some item) lacks_list of.stand)
              (get_or-set_same items slot (Some item) None free_lt, tt);
          slots = subst (λ (k : ℕ). AreSlots k (slots_of (list ++ (slot, item) ∷ []) ++ free)) (sym same)
              (subst (AreSlots (length items)) order (slot_in (length items) (slots_of list) slot free free_lt free_lacks free_slots));
          all = omega (arith, of.all, same, ap length (sym order), length-append (slots_of list) (slot ∷ free), length-append (slots_of list) (free ++ slot ∷ []), length-append free (slot ∷ []));
          nexts = nexts_stay m slot NO_SLOT ∙ nexts_stay n last slot ∙ of.nexts ∙ sym same;
          prevs = prevs_stay m slot NO_SLOT ∙ prevs_stay n last slot ∙ of.prevs ∙ sym same;
          room_for_all = let le : length items ≤ room = of.room_for_all in omega (arith, le, same);
        }

-- one more slot
module _ {T : Type 0} (n : Numbers) (items : List (Option T)) (small : length items < 2 ^ 63) where
  behind_grows : (slot : ℕ) → slot < length n.next → slot ≢ NO_SLOT → behind (with_slot n) slot ≡ behind n slot
  behind_grows slot lt d = own_behind (with_slot n) slot d ∙ get_or_append_left n.next (NO_SLOT ∷ []) 0 slot lt ∙ sym (own_behind n slot d)

  ahead_grows : (slot : ℕ) → slot < length n.prev → slot ≢ NO_SLOT → ahead (with_slot n) slot ≡ ahead n slot
  ahead_grows slot lt d = own_ahead (with_slot n) slot d ∙ get_or_append_left n.prev (NO_SLOT ∷ []) 0 slot lt ∙ sym (own_ahead n slot d)

  row_grows : (a : ℕ) (slots : List ℕ) → length n.next ≡ length items → length n.prev ≡ length items → behind (with_slot n) a ≡ behind n a → AreInRow n a slots NO_SLOT
      → AreSlots (length items) slots → AreInRow (with_slot n) a slots NO_SLOT
  row_grows a [] nexts prevs same row are = record { to = same ∙ row.to; back = row.back }
  row_grows a (x ∷ slots) nexts prevs same row are =
      let lt : x < length items = are.0 in
      let d = below_none (length items) x lt small in (
        record { to = same ∙ row.0.to; back = ahead_grows x (omega (arith, lt, prevs)) d ∙ row.0.back },
        row_grows x slots nexts prevs (behind_grows x (omega (arith, lt, nexts)) d) row.1 are.2,
      )

  stand_grows : (list : Pairs T) → AreSlots (length items) (slots_of list) → Stand items list → Stand (items ++ None ∷ []) list
  stand_grows [] are all = tt
  stand_grows (p ∷ list) are all = (get_or_append_left items (None ∷ []) None p.0 are.0 ∙ all.0, stand_grows list are.2 all.1)

  slots_grow : (k l : ℕ) (slots : List ℕ) → k < l → AreSlots k slots → AreSlots l slots × Lacks k slots
  slots_grow k l [] lt are = (tt, tt)
  slots_grow k l (x ∷ slots) lt are =
      let below : x < k = are.0 in
      let r = slots_grow k l slots lt are.2 in
      ((omega (arith, below, lt), are.1, r.0), ((λ e. absurd (omega (arith, below, e))), r.1))

  pub grown : (room more : ℕ) (list : Pairs T) → AreOf n items [] room list → length items + 1 ≤ more → AreOf (with_slot n) (items ++ None ∷ []) (length n.next ∷ []) more list
  grown room more list of le =
      let kind = (slots_apart (length items) (slots_of list) [] of.slots).0 in
      let longer : length (items ++ None ∷ []) ≡ length items + 1 = length-append items (None ∷ []) in
      let wide = slots_grow (length items) (length items + 1) (slots_of list) (omega arith) kind in
      let all : AreSlots (length items + 1) (slots_of list ++ length items ∷ [])
      = slot_in (length items + 1) (slots_of list) (length items) [] (omega arith) (lacks_both (length items) (slots_of list) [] wide.1 tt)
      (subst (AreSlots (length items + 1)) (sym (append-nil (slots_of list))) wide.0) in
      record {
        row = row_grows NO_SLOT (slots_of list) of.nexts of.prevs refl of.row kind;
        stand = stand_grows list kind of.stand;
        slots = subst (λ (k : ℕ). AreSlots k (slots_of list ++ length n.next ∷ [])) (sym longer)
            (subst (λ (x : ℕ). AreSlots (length items + 1) (slots_of list ++ x ∷ [])) (sym of.nexts) all);
        all = omega (arith, of.all, longer, length-append (slots_of list) (length n.next ∷ []), length-append {A = ℕ} (slots_of list) []);
        nexts = length-append n.next (NO_SLOT ∷ []) ∙ ap (λ (k : ℕ). k + 1) of.nexts ∙ sym longer;
        prevs = length-append n.prev (NO_SLOT ∷ []) ∙ ap (λ (k : ℕ). k + 1) of.prevs ∙ sym longer;
        room_for_all = omega (arith, le, longer);
      }

  -- the same, as the parts are made
  pub free_one : (m : Numbers) (more : List (Option T)) (free left : List ℕ) (slot room now : ℕ) (list : Pairs T) → AreOf n items free room list → free ≡ [] → m ≡ with_slot n
      → more ≡ items ++ None ∷ [] → left ≡ [] → slot ≡ length n.next → length items + 1 ≤ now → AreOf m more (left ++ slot ∷ []) now list
  free_one m more free left slot room now list of none m_is more_is left_is slot_is le =
      let made : AreOf (with_slot n) (items ++ None ∷ []) (length n.next ∷ []) now list = grown room now list (subst (λ (fs : List ℕ). AreOf n items fs room list) none of) le in
      let at : AreOf (with_slot n) (items ++ None ∷ []) (slot ∷ []) now list = subst (λ (x : ℕ). AreOf (with_slot n) (items ++ None ∷ []) (x ∷ []) now list) (sym slot_is) made in
      let free_now : AreOf (with_slot n) (items ++ None ∷ []) (left ++ slot ∷ []) now list
      = subst (λ (fs : List ℕ). AreOf (with_slot n) (items ++ None ∷ []) (fs ++ slot ∷ []) now list) (sym left_is) at in
      subst (λ (k : Numbers). AreOf k more (left ++ slot ∷ []) now list) (sym m_is) (subst (λ (xs : List (Option T)). AreOf (with_slot n) xs (left ++ slot ∷ []) now list) (sym more_is) free_now)
