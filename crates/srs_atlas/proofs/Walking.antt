-- The frontier is walked from front to back.
use Rattle.std.proofs.Common.{◌≡◌, ◌≢◌, ℕ, ◌<◌, ◌+◌, Bool, true, false, cond, eqb, List, [], ◌∷◌, ◌++◌, length, map, refl, sym, ap, subst, ◌∙◌, arith, length-append}
use Rattle.std.specs.Prelude.{IsSome}
use Rattle.std.specs.List.{AllByRecursion}
use Rattle.std.specs.declared.option.Option.{Option}
use Rattle.std.specs.declared.option.Option.TheVariants.{Some, None}
use Rattle.std.proofs.lemmas.List.{append-nil, append_assoc, map-append, length-map}
use Rattle.std.proofs.lemmas.Bool.{eq-eqb, ne_eqb}
use Rattle.srs_front.specs.Walks.{item_at, HasSlot, first_slot, slot_behind, slots_of, DoSlotsDiffer}
use Rattle.srs_front.proofs.WalkLemmas.{slot_behind-middle}
use Rattle.srs_tree.specs.Queue.{WaitingCell}
use Rattle.srs_atlas.specs.Frontiers.{cells_of}
use Rattle.srs_atlas.proofs.FrontierLemmas.{Cells}

-- these cells were walked, and the slot is the next one's
pub record IsWalk (list : Cells) (cells : List WaitingCell) (slot : Option ℕ) : Type 0 where
  pub before : Cells
  pub after : Cells
  pub is : list ≡ before ++ after
  pub walked : cells ≡ cells_of before
  pub next : slot ≡ first_slot after

has_middle : (before : Cells) (p : ℕ × WaitingCell) (after : Cells) → HasSlot (before ++ p ∷ after) p.0
has_middle [] p after = subst (λ (b : Bool). IsSome (cond b (Some p.1) (item_at after p.0))) (sym (eq-eqb p.0 p.0 refl)) refl
has_middle (q ∷ before) p after =
    elim (eqb q.0 p.0) as (λ b. IsSome (cond b (Some q.1) (item_at (before ++ p ∷ after) p.0))) [ true ↦ refl | false ↦ has_middle before p after ]

pub walk_has : (list : Cells) (cells : List WaitingCell) (slot : ℕ) → IsWalk list cells (Some slot) → HasSlot list slot
walk_has list cells slot w = by w.after w.is w.next
  where
    by : (after : Cells) → list ≡ w.before ++ after → Some slot ≡ first_slot after → HasSlot list slot
    by [] is e = absurd (cc e)
    by (p ∷ after) is e =
        let same : p.0 ≡ slot = cc in
        subst (λ (xs : Cells). HasSlot xs slot) (sym is) (subst (HasSlot (w.before ++ p ∷ after)) same (has_middle w.before p after))

lacks_front : (before : Cells) (p : ℕ × WaitingCell) (after : Cells) → DoSlotsDiffer (before ++ p ∷ after) → AllByRecursion (λ other. p.0 ≢ other) (slots_of before)
lacks_front [] p after d = tt
lacks_front (q ∷ before) p after d = ((λ e. differs before p.0 d.0 (sym e)), lacks_front before p after d.1)
  where
    differs : (between : Cells) (slot : ℕ) → AllByRecursion (λ other. q.0 ≢ other) (slots_of (between ++ p ∷ after)) → q.0 ≢ p.0
    differs [] slot l = l.0
    differs (r ∷ between) slot l = differs between slot l.1

item_at-middle : (before : Cells) (p : ℕ × WaitingCell) (after : Cells) → AllByRecursion (λ other. p.0 ≢ other) (slots_of before) → item_at (before ++ p ∷ after) p.0 ≡ Some p.1
item_at-middle [] p after l = ap (λ (b : Bool). cond b (Some p.1) (item_at after p.0)) (eq-eqb p.0 p.0 refl)
item_at-middle (q ∷ before) p after l =
    ap (λ (b : Bool). cond b (Some q.1) (item_at (before ++ p ∷ after) p.0)) (ne_eqb q.0 p.0 (λ e. l.0 (sym e))) ∙ item_at-middle before p after l.1

pub walk_step : (list : Cells) (cells : List WaitingCell) (slot : ℕ) (cell : WaitingCell) (later : List WaitingCell) (next : Option ℕ) → IsWalk list cells (Some slot) → DoSlotsDiffer list
    → item_at list slot ≡ Some cell → next ≡ slot_behind list slot → later ≡ cells ++ cell ∷ [] → IsWalk list later next
walk_step list cells slot cell later next w differ item behind made = by w.after w.is w.next
  where
    by : (after : Cells) → list ≡ w.before ++ after → Some slot ≡ first_slot after → IsWalk list later next
    by [] is e = absurd (cc e)
    by (p ∷ after) is e =
        let same : slot ≡ p.0 = cc in
        let lacks = lacks_front w.before p after (subst DoSlotsDiffer is differ) in
        let found : Some cell ≡ Some p.1 = sym item ∙ ap (λ (xs : Cells). item_at xs slot) is ∙ ap (item_at (w.before ++ p ∷ after)) same ∙ item_at-middle w.before p after lacks in
        let cell_is : cell ≡ p.1 = cc in
        record {
          before = w.before ++ p ∷ [];
          after = after;
          is = is ∙ sym (append_assoc w.before (p ∷ []) after);
          walked = made ∙ ap (λ (c : WaitingCell). cells ++ c ∷ []) cell_is ∙ ap (λ (cs : List WaitingCell). cs ++ p.1 ∷ []) w.walked
              ∙ sym (map-append (λ (q : ℕ × WaitingCell). q.1) w.before (p ∷ []));
          next = behind ∙ ap (λ (xs : Cells). slot_behind xs slot) is ∙ ap (slot_behind (w.before ++ p ∷ after)) same ∙ slot_behind-middle w.before p.0 p.1 after lacks;
        }
