-- What comes off a stack of cells.
use Rattle.std.proofs.Common.{◌≡◌, true≢false, List, [], ◌∷◌, ◌++◌, ℕ, ◌<◌, length, length-append, get_or, refl, sym, ap, subst, ◌∙◌, arith}
use Rattle.std.specs.Prelude.{All, IsSome, IsOk, OnOk, Ok, Err, is_some, MatchOption, reverse, option_to_list}
use Rattle.std.specs.List.{flat_map}
use Rattle.std.proofs.Math.Seq.{get_or-append_seam}
use Rattle.std.proofs.lemmas.List.{reverse-append}
use Rattle.std.proofs.lemmas.List.Concat.{flat_map-append}
use Rattle.std.proofs.lemmas.List.Elements.{All-head, All-tail, All-push}
use Rattle.srs_check.specs.Stacks.{KeepsRoom, IsPushed}
use Rattle.std.specs.declared.result.Result.{Result}
use Rattle.std.specs.declared.option.Option.{Option}
use Rattle.std.specs.declared.option.Option.TheVariants.{Some, None}

no_some : {X : Type 0} (o : Option X) → o ≡ None → IsSome o → ⊥
no_some o none some = true≢false (sym some ∙ ap is_some none)

-- the last place of a stack in which each place has a cell
pub taken : {X : Type 0} (next after : Option X) (old new : List (Option X)) (now : List X) (o : Option X) → option_to_list next ++ flat_map option_to_list (reverse old) ≡ now → next ≡ None → after ≡ None → old ≡ new ++ o ∷ [] → All IsSome old
    → MatchOption o (now ≡ []) (λ x. now ≡ x ∷ (option_to_list after ++ flat_map option_to_list (reverse new)))
taken next after old new now (Some x) view none gone is all = rw (sym view, none, gone, is, reverse-append new (Some x ∷ [])) refl
taken next after old new now None view none gone is all = let last : IsSome (get_or (new ++ None ∷ []) (length new) None) = subst (All IsSome) is all (length new) None (omega (arith, length-append new (None ∷ []))) in absurd (no_some (get_or (new ++ None ∷ []) (length new) None) (get_or-append_seam new None [] None) last)

one_place : {X : Type 0} (o : Option X) → IsSome o → length (flat_map option_to_list (o ∷ [])) ≡ 1
one_place {X} (Some x) some = refl
one_place {X} None some = absurd (no_some {X = X} None refl some)

-- a stack in which each place has a cell has as many cells as places
pub stack_size : {X : Type 0} (places : List (Option X)) → All IsSome places → length (flat_map option_to_list (reverse places)) ≡ length places
stack_size [] all = refl
stack_size (o ∷ os) all =
    let more = stack_size os (All-tail IsSome o os all) in
    let one = one_place o (All-head IsSome o os all) in
    let turned : reverse (o ∷ os) ≡ reverse os ++ o ∷ [] = reverse-append (o ∷ []) os in
    let parts = ap length (ap (flat_map option_to_list) turned ∙ flat_map-append option_to_list (reverse os) (o ∷ [])) in
    omega (arith, parts, length-append (flat_map option_to_list (reverse os)) (flat_map option_to_list (o ∷ [])), more, one)

-- a cell more, where there is room
pub pushed : {X E : Type 0} (old new : List (Option X)) (was is : ℕ) (x : X) → KeepsRoom old was → length old < 48 → (r : Result (Unit {0}) E) → IsOk r → OnOk r (new ≡ old ++ Some x ∷ []) → is ≡ was → IsPushed old new is x
pushed old new was is x k few (Ok u) ok e same = record {
  items = e;
  kept = record {
    cells = subst (All IsSome) (sym e) (All-push IsSome old (Some x) k.cells refl);
    few = omega (arith, ap length e, length-append old (Some x ∷ []), few);
    room = same ∙ k.room;
  };
}
pushed old new was is x k few (Err u) ok e same = absurd (true≢false (sym ok))

-- what a place more shows
pub shown : {X : Type 0} (old new : List (Option X)) (x : X) → new ≡ old ++ Some x ∷ [] → flat_map option_to_list (reverse new) ≡ x ∷ flat_map option_to_list (reverse old)
shown old new x e = rw (e, reverse-append old (Some x ∷ [])) refl

-- with no next cell, the places show all cells, and there is room for one more
pub record ShowsAll {X : Type 0} (places : List (Option X)) (capacity : ℕ) (cells : List X) : Type 0 where
  pub kept : KeepsRoom places capacity
  pub few : length places < 48
  pub shows : flat_map option_to_list (reverse places) ≡ cells

module _ {X : Type 0} (next : Option X) (later : List (Option X)) (was : ℕ) (now : List X) (view : option_to_list next ++ flat_map option_to_list (reverse later) ≡ now) (kept : KeepsRoom later was) (few : length now < 48) where
  pub shows_rest : next ≡ None → ShowsAll later was now
  shows_rest none = record {
    kept = kept;
    few = omega (arith, stack_size later kept.cells, ap length view, length-append (option_to_list next) (flat_map option_to_list (reverse later)));
    shows = rw none at view;
  }

  shows_pushed : (x : X) (new : List (Option X)) (is : ℕ) → next ≡ Some x → IsPushed later new is x → ShowsAll new is now
  shows_pushed x new is some p =
      let shows : flat_map option_to_list (reverse new) ≡ now = shown later new x p.items ∙ (rw some at view) in
      record { kept = p.kept; few = omega (arith, stack_size new p.kept.cells, ap length shows); shows = shows }

  -- the next cell is put among the others
  pub shows_more : (x : X) (new : List (Option X)) (is : ℕ) → next ≡ Some x → (KeepsRoom later was → length later < 48 → IsPushed later new is x) → ShowsAll new is now
  shows_more x new is some push =
      let one : length (option_to_list next) ≡ 1 = rw some refl in
      let room : length later < 48 = omega (arith, one, stack_size later kept.cells, ap length view, length-append (option_to_list next) (flat_map option_to_list (reverse later))) in
      shows_pushed x new is some (push kept room)
