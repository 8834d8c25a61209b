-- What a push and a removal do to the cells and the map of a frontier.
use Rattle.std.proofs.Common.{◌≡◌, ℕ, true, false, cond, eqb, List, [], ◌∷◌, ◌++◌, sym, ap, subst, ◌∙◌}
use Rattle.std.specs.HashMap.{get, Updates}
use Rattle.std.specs.Map.{lookup}
use Rattle.std.specs.declared.option.Option.{Option}
use Rattle.std.specs.declared.option.Option.TheVariants.{Some, None}
use Rattle.std.specs.Prelude.{nat_eq, OnOk, OnErr, IfNone, is_err, Ok, Err}
use Rattle.std.specs.declared.result.Result.{Result}
use Rattle.std.proofs.lemmas.List.{map-append}
use Rattle.srs_path.specs.declared.paths.Side.{Side}
use Rattle.srs_front.specs.Walks.{item_at, without_slot, DoSlotsDiffer}
use Rattle.srs_tree.specs.Queue.{WaitingCell, without}
use Rattle.srs_atlas.specs.Frontiers.{Slots, cells_of, number_at, slot_with, LacksPath, DoPathsDiffer, AreSlotsOf}
use Rattle.srs_atlas.proofs.FrontierLemmas.{Cells, slot_with-push, slot_with-without, are_matched, cells-without, none_found, without_pushed, differ_push, differ_without}

-- the same map
same_get : (slots later : Slots) → later.entries ≡ slots.entries → (k : ℕ) → get nat_eq later k ≡ get nat_eq slots k
same_get slots later same k = ap (lookup (nat_eq k)) same

-- a map after a change at the number
changed_get : (slots later : Slots) (number : ℕ) (w : Option ℕ) → Updates nat_eq slots later number w → (k : ℕ) → get nat_eq later k ≡ cond (eqb number k) w (get nat_eq slots k)
changed_get slots later number w updates k = updates.0 k

module _ (slots later : Slots) (list : Cells) (are : AreSlotsOf slots list) where
  pub pushed : (more : Cells) (slot number : ℕ) (cell : WaitingCell) → LacksPath cell.path (cells_of list) → number ≡ number_at cell.path → more ≡ list ++ (slot, cell) ∷ []
      → Updates nat_eq slots later number (Some slot) → AreSlotsOf later more × (cells_of more ≡ cells_of list ++ cell ∷ [])
  pushed more slot number cell lacks is made updates =
      let seen : cells_of more ≡ cells_of list ++ cell ∷ [] = ap cells_of made ∙ map-append (λ (p : ℕ × WaitingCell). p.1) list ((slot, cell) ∷ []) in (
        record {
          exactly = λ k. changed_get slots later number (Some slot) updates k ∙ ap (cond (eqb number k) (Some slot)) (are.exactly k)
              ∙ ap (λ (n : ℕ). cond (eqb n k) (Some slot) (slot_with list k)) is ∙ sym (slot_with-push list slot cell k lacks) ∙ ap (λ (xs : Cells). slot_with xs k) (sym made);
          once = subst DoPathsDiffer (sym seen) (differ_push (cells_of list) cell are.once lacks);
        },
        seen,
      )

  pub undone : (more back : Cells) (slot : ℕ) (cell : WaitingCell) → item_at list slot ≡ None → more ≡ list ++ (slot, cell) ∷ [] → back ≡ without_slot slot more → later.entries ≡ slots.entries
      → AreSlotsOf later back × (cells_of back ≡ cells_of list)
  undone more back slot cell free made out same =
      let is : back ≡ list = out ∙ ap (without_slot slot) made ∙ without_pushed list slot cell free in (
        record {
          exactly = λ k. same_get slots later same k ∙ are.exactly k ∙ ap (λ (xs : Cells). slot_with xs k) (sym is);
          once = subst (λ (xs : Cells). DoPathsDiffer (cells_of xs)) (sym is) are.once;
        },
        ap cells_of is,
      )

  pub gone : (less : Cells) (slot number : ℕ) (path : List Side) → DoSlotsDiffer list → number ≡ number_at path → get nat_eq slots number ≡ Some slot
      → Updates nat_eq slots later number None → less ≡ without_slot slot list → AreSlotsOf later less × (cells_of less ≡ without path (cells_of list))
  gone less slot number path differ is found updates out =
      let there : slot_with list (number_at path) ≡ Some slot = ap (slot_with list) (sym is) ∙ sym (are.exactly number) ∙ found in
      let matched = are_matched list path slot there differ are.once in
      let seen : cells_of less ≡ without path (cells_of list) = ap cells_of out ∙ cells-without list path slot matched in (
        record {
          exactly = λ k. changed_get slots later number None updates k ∙ ap (cond (eqb number k) None) (are.exactly k)
              ∙ ap (λ (n : ℕ). cond (eqb n k) None (slot_with list k)) is ∙ sym (slot_with-without list path slot k matched) ∙ ap (λ (xs : Cells). slot_with xs k) (sym out);
          once = subst DoPathsDiffer (sym seen) (differ_without path (cells_of list) are.once);
        },
        seen,
      )

  pub nothing : (number : ℕ) (path : List Side) → number ≡ number_at path → get nat_eq slots number ≡ None → later.entries ≡ slots.entries
      → AreSlotsOf later list × (cells_of list ≡ without path (cells_of list))
  nothing number path is none same = (
    record { exactly = λ k. same_get slots later same k ∙ are.exactly k; once = are.once },
    sym (none_found list path (ap (slot_with list) (sym is) ∙ sym (are.exactly number) ∙ none)),
  )

-- what holds on one outcome
pub on_err : {A E : Type 0} (r : Result A E) (P : Type 0) → OnErr r P → is_err r ≡ true → P
on_err (Ok a) P h e = absurd (let f : false ≡ true = e in cc)
on_err (Err x) P h e = h

pub on_ok : {A E : Type 0} (r : Result A E) (P : Type 0) → OnOk r P → is_err r ≡ false → P
on_ok (Ok a) P h e = h
on_ok (Err x) P h e = absurd (let f : true ≡ false = e in cc)

pub on_none : {A : Type 0} (o : Option A) (P : Type 0) → IfNone o P → o ≡ None → P
on_none None P h e = h
on_none (Some a) P h e = absurd (cc e)
