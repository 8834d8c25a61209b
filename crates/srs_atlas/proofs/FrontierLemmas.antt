-- The numbers of cells, and lists of cells in slots.
use Rattle.std.proofs.Common.{◌≡◌, ◌≢◌, ℕ, ◌+◌, ◌*◌, ◌≤◌, Bool, true, false, not, cond, eqb, List, [], ◌∷◌, ◌++◌, refl, sym, ap, ap₂, subst, ◌∙◌, arith}
use Rattle.std.specs.Prelude.{reverse, IsSome}
use Rattle.std.specs.List.{AllByRecursion}
use Rattle.std.specs.declared.option.Option.{Option}
use Rattle.std.specs.declared.option.Option.TheVariants.{Some, None}
use Rattle.std.proofs.lemmas.List.{append-nil, append_assoc, reverse-append, reverse-reverse}
use Rattle.std.proofs.lemmas.List.Elements.{filter-append}
use Rattle.std.proofs.lemmas.Bool.{eqb-true, eqb-false, eq-eqb, ne_eqb}
use Rattle.srs_path.specs.declared.paths.Side.{Side}
use Rattle.srs_path.specs.declared.paths.Side.TheVariants.{Ge, Lt}
use Rattle.srs_path.specs.Paths.{digit_of, digits_then}
use Rattle.srs_front.specs.Walks.{item_at, HasSlot, without_slot, slots_of, DoSlotsDiffer}
use Rattle.srs_tree.specs.Tree.{path_eq}
use Rattle.srs_tree.specs.Queue.{WaitingCell, without}
use Rattle.srs_tree.proofs.HistoryLemmas.{path_eq_same, same_path}
use Rattle.srs_atlas.specs.Frontiers.{cells_of, number_at, slot_with, LacksPath, DoPathsDiffer}

-- the number of a path that is read from its end
abbrev back_number : List Side → ℕ
back_number [] = 1
back_number (s ∷ sides) = back_number sides * 2 + digit_of s

back_number-some : (sides : List Side) → 1 ≤ back_number sides
back_number-some [] = omega arith
back_number-some (s ∷ sides) = omega (arith, back_number-some sides)

digits_then-back : (path back : List Side) → digits_then (back_number back) path ≡ back_number (reverse path ++ back)
digits_then-back [] back = refl
digits_then-back (s ∷ path) back =
    digits_then-back path (s ∷ back)
    ∙ ap back_number (sym (append_assoc (reverse path) (s ∷ []) back) ∙ ap (λ (xs : List Side). xs ++ back) (sym (reverse-append (s ∷ []) path)))

number-back : (path : List Side) → number_at path ≡ back_number (reverse path)
number-back path = digits_then-back path [] ∙ ap back_number (append-nil (reverse path))

back_number-once : (p q : List Side) → back_number p ≡ back_number q → p ≡ q
back_number-once [] [] e = refl
back_number-once [] (t ∷ q) e = absurd (omega (arith, e, back_number-some q))
back_number-once (s ∷ p) [] e = absurd (omega (arith, e, back_number-some p))
back_number-once (Ge ∷ p) (Ge ∷ q) e = ap (λ (xs : List Side). Ge ∷ xs) (back_number-once p q (omega (arith, e)))
back_number-once (Ge ∷ p) (Lt ∷ q) e = absurd (omega (arith, e))
back_number-once (Lt ∷ p) (Ge ∷ q) e = absurd (omega (arith, e))
back_number-once (Lt ∷ p) (Lt ∷ q) e = ap (λ (xs : List Side). Lt ∷ xs) (back_number-once p q (omega (arith, e)))

-- two paths with one number are one
pub number-once : (p q : List Side) → number_at p ≡ number_at q → p ≡ q
number-once p q e =
    sym (reverse-reverse p) ∙ ap reverse (back_number-once (reverse p) (reverse q) (sym (number-back p) ∙ e ∙ number-back q)) ∙ reverse-reverse q

number-differs : (p q : List Side) → p ≢ q → eqb (number_at p) (number_at q) ≡ false
number-differs p q d = ne_eqb (number_at p) (number_at q) (λ e. d (number-once p q e))

path-differs : (p q : List Side) → p ≢ q → path_eq p q ≡ false
path-differs p q d = by (path_eq p q) refl
  where
    by : (b : Bool) → path_eq p q ≡ b → path_eq p q ≡ false
    by true e = absurd (d (same_path p q e))
    by false e = e

abbrev pub Cells : Type 0
Cells = List (ℕ × WaitingCell)

-- no cell of the list is at the path
abbrev pub Lacking : List Side → Cells → Type 0
Lacking path list = LacksPath path (cells_of list)

pub slot_with-lacking : (path : List Side) (list : Cells) → Lacking path list → slot_with list (number_at path) ≡ None
slot_with-lacking path [] l = refl
slot_with-lacking path (p ∷ list) l =
    ap (λ (b : Bool). cond b (Some p.0) (slot_with list (number_at path))) (number-differs p.1.path path (λ e. l.0 (sym e))) ∙ slot_with-lacking path list l.1

swap_tests : (a b : Bool) (x y z : Option ℕ) → (a ≡ true → b ≡ true → ⊥) → cond a x (cond b y z) ≡ cond b y (cond a x z)
swap_tests true true x y z d = absurd (d refl refl)
swap_tests true false x y z d = refl
swap_tests false true x y z d = refl
swap_tests false false x y z d = refl

-- one cell more
pub slot_with-push : (list : Cells) (slot : ℕ) (cell : WaitingCell) (number : ℕ) → Lacking cell.path list
    → slot_with (list ++ (slot, cell) ∷ []) number ≡ cond (eqb (number_at cell.path) number) (Some slot) (slot_with list number)
slot_with-push [] slot cell number l = refl
slot_with-push (p ∷ list) slot cell number l =
    ap (cond (eqb (number_at p.1.path) number) (Some p.0)) (slot_with-push list slot cell number l.1)
    ∙ swap_tests (eqb (number_at p.1.path) number) (eqb (number_at cell.path) number) (Some p.0) (Some slot) (slot_with list number)
    (λ e f. l.0 (number-once cell.path p.1.path (eqb-true (number_at cell.path) number f ∙ sym (eqb-true (number_at p.1.path) number e))))

-- the slot of a path is the one cell's with the path
abbrev pub AreMatched : ℕ → List Side → Cells → Type 0
AreMatched slot path list = AllByRecursion (λ p. (eqb p.0 slot ≡ eqb (number_at p.1.path) (number_at path)) × (eqb p.0 slot ≡ path_eq path p.1.path)) list

all_other : (slot : ℕ) (path : List Side) (list : Cells) → AllByRecursion (λ other. slot ≢ other) (slots_of list) → Lacking path list → AreMatched slot path list
all_other slot path [] s l = tt
all_other slot path (p ∷ list) s l = (
  (ne_eqb p.0 slot (λ e. s.0 (sym e)) ∙ sym (number-differs p.1.path path (λ e. l.0 (sym e))), ne_eqb p.0 slot (λ e. s.0 (sym e)) ∙ sym (path-differs path p.1.path l.0)),
  all_other slot path list s.1 l.1,
)

-- a slot that is found is in the list
found_differs : (list : Cells) (number slot other : ℕ) → slot_with list number ≡ Some slot → AllByRecursion (λ s. other ≢ s) (slots_of list) → other ≢ slot
found_differs [] number slot other e s = absurd (cc e)
found_differs (p ∷ list) number slot other e s = by (eqb (number_at p.1.path) number) refl (found_differs list number slot other)
  where
    by : (b : Bool) → eqb (number_at p.1.path) number ≡ b
        → (slot_with list number ≡ Some slot → AllByRecursion (λ s. other ≢ s) (slots_of list) → other ≢ slot) → other ≢ slot
    by true t later =
        let here : Some p.0 ≡ Some slot = sym (ap (λ (b : Bool). cond b (Some p.0) (slot_with list number)) t) ∙ e in
        let is : p.0 ≡ slot = cc in
        subst (λ (x : ℕ). other ≢ x) is s.0
    by false t later = later (sym (ap (λ (b : Bool). cond b (Some p.0) (slot_with list number)) t) ∙ e) s.1

pub are_matched : (list : Cells) (path : List Side) (slot : ℕ) → slot_with list (number_at path) ≡ Some slot → DoSlotsDiffer list → DoPathsDiffer (cells_of list) → AreMatched slot path list
are_matched [] path slot e s d = tt
are_matched (p ∷ list) path slot e s d = by (eqb (number_at p.1.path) (number_at path)) refl (are_matched list path slot)
  where
    by : (b : Bool) → eqb (number_at p.1.path) (number_at path) ≡ b
        → (slot_with list (number_at path) ≡ Some slot → DoSlotsDiffer list → DoPathsDiffer (cells_of list) → AreMatched slot path list) → AreMatched slot path (p ∷ list)
    by true t later =
        let here : Some p.0 ≡ Some slot = sym (ap (λ (b : Bool). cond b (Some p.0) (slot_with list (number_at path))) t) ∙ e in
        let is : p.0 ≡ slot = cc in
        let same : p.1.path ≡ path = number-once p.1.path path (eqb-true (number_at p.1.path) (number_at path) t) in (
          (eq-eqb p.0 slot is ∙ sym t, eq-eqb p.0 slot is ∙ sym (ap (path_eq path) same ∙ path_eq_same path)),
          all_other slot path list (subst (λ (x : ℕ). AllByRecursion (λ other. x ≢ other) (slots_of list)) is s.0) (subst (λ (q : List Side). Lacking q list) same d.0),
        )
    by false t later =
        let there : slot_with list (number_at path) ≡ Some slot = sym (ap (λ (b : Bool). cond b (Some p.0) (slot_with list (number_at path))) t) ∙ e in
        let apart : eqb p.0 slot ≡ false = ne_eqb p.0 slot (found_differs list (number_at path) slot p.0 there s.0) in
        let other : path ≢ p.1.path = λ q. eqb-false (number_at p.1.path) (number_at path) t (ap number_at (sym q)) in
        ((apart ∙ sym t, apart ∙ sym (path-differs path p.1.path other)), later there s.1 d.1)

-- the list without the slot has the cells but the one at the path
pub cells-without : (list : Cells) (path : List Side) (slot : ℕ) → AreMatched slot path list → cells_of (without_slot slot list) ≡ without path (cells_of list)
cells-without [] path slot m = refl
cells-without (p ∷ list) path slot m =
    ap (λ (b : Bool). cells_of (cond (not b) (p ∷ without_slot slot list) (without_slot slot list))) m.0.1
    ∙ by (path_eq path p.1.path) (cells-without list path slot m.1)
  where
    by : (b : Bool) → cells_of (without_slot slot list) ≡ without path (cells_of list)
        → cells_of (cond (not b) (p ∷ without_slot slot list) (without_slot slot list)) ≡ cond (not b) (p.1 ∷ without path (cells_of list)) (without path (cells_of list))
    by true e = e
    by false e = ap (λ (cs : List WaitingCell). p.1 ∷ cs) e

pub slot_with-without : (list : Cells) (path : List Side) (slot number : ℕ) → AreMatched slot path list
    → slot_with (without_slot slot list) number ≡ cond (eqb (number_at path) number) None (slot_with list number)
slot_with-without [] path slot number m = by (eqb (number_at path) number)
  where
    by : (b : Bool) → slot_with [] number ≡ cond b None None
    by true = refl
    by false = refl
slot_with-without (p ∷ list) path slot number m =
    ap (λ (b : Bool). slot_with (cond (not b) (p ∷ without_slot slot list) (without_slot slot list)) number) m.0.0
    ∙ by (eqb (number_at p.1.path) (number_at path)) refl (slot_with-without list path slot number m.1)
  where
    by : (b : Bool) → eqb (number_at p.1.path) (number_at path) ≡ b → slot_with (without_slot slot list) number ≡ cond (eqb (number_at path) number) None (slot_with list number)
        → slot_with (cond (not b) (p ∷ without_slot slot list) (without_slot slot list)) number
        ≡ cond (eqb (number_at path) number) None (cond (eqb (number_at p.1.path) number) (Some p.0) (slot_with list number))
    by true t e =
        let same : number_at p.1.path ≡ number_at path = eqb-true (number_at p.1.path) (number_at path) t in
        e ∙ gone (eqb (number_at path) number) ∙ ap (λ (k : ℕ). cond (eqb (number_at path) number) None (cond (eqb k number) (Some p.0) (slot_with list number))) (sym same)
      where
        gone : (b : Bool) → cond b None (slot_with list number) ≡ cond b None (cond b (Some p.0) (slot_with list number))
        gone true = refl
        gone false = refl
    by false t e =
        ap (cond (eqb (number_at p.1.path) number) (Some p.0)) e
        ∙ swap_tests (eqb (number_at p.1.path) number) (eqb (number_at path) number) (Some p.0) None (slot_with list number)
        (λ x y. eqb-false (number_at p.1.path) (number_at path) t (eqb-true (number_at p.1.path) number x ∙ sym (eqb-true (number_at path) number y)))

-- a slot that is found is the list's
pub found_slot : (list : Cells) (number slot : ℕ) → slot_with list number ≡ Some slot → HasSlot list slot
found_slot [] number slot e = absurd (cc e)
found_slot (p ∷ list) number slot e = by (eqb (number_at p.1.path) number) refl (found_slot list number slot)
  where
    by : (b : Bool) → eqb (number_at p.1.path) number ≡ b → (slot_with list number ≡ Some slot → HasSlot list slot) → IsSome (cond (eqb p.0 slot) (Some p.1) (item_at list slot))
    by true t later =
        let here : Some p.0 ≡ Some slot = sym (ap (λ (b : Bool). cond b (Some p.0) (slot_with list number)) t) ∙ e in
        let is : p.0 ≡ slot = cc in
        subst (λ (b : Bool). IsSome (cond b (Some p.1) (item_at list slot))) (sym (eq-eqb p.0 slot is)) refl
    by false t later =
        let more : HasSlot list slot = later (sym (ap (λ (b : Bool). cond b (Some p.0) (slot_with list number)) t) ∙ e) in
        elim (eqb p.0 slot) as (λ b. IsSome (cond b (Some p.1) (item_at list slot))) [ true ↦ refl | false ↦ more ]

-- where no slot is found, no cell is at the path
pub none_found : (list : Cells) (path : List Side) → slot_with list (number_at path) ≡ None → without path (cells_of list) ≡ cells_of list
none_found [] path e = refl
none_found (p ∷ list) path e = by (eqb (number_at p.1.path) (number_at path)) refl (none_found list path)
  where
    by : (b : Bool) → eqb (number_at p.1.path) (number_at path) ≡ b → (slot_with list (number_at path) ≡ None → without path (cells_of list) ≡ cells_of list)
        → cond (not (path_eq path p.1.path)) (p.1 ∷ without path (cells_of list)) (without path (cells_of list)) ≡ p.1 ∷ cells_of list
    by true t later = absurd (let here : Some p.0 ≡ None = sym (ap (λ (b : Bool). cond b (Some p.0) (slot_with list (number_at path))) t) ∙ e in cc)
    by false t later =
        let other : path ≢ p.1.path = λ q. eqb-false (number_at p.1.path) (number_at path) t (ap number_at (sym q)) in
        ap (λ (b : Bool). cond (not b) (p.1 ∷ without path (cells_of list)) (without path (cells_of list))) (path-differs path p.1.path other)
        ∙ ap (λ (cs : List WaitingCell). p.1 ∷ cs) (later (sym (ap (λ (b : Bool). cond b (Some p.0) (slot_with list (number_at path))) t) ∙ e))

-- a slot that the list doesn't have
pub without_none : (list : Cells) (slot : ℕ) → item_at list slot ≡ None → without_slot slot list ≡ list
without_none [] slot e = refl
without_none (p ∷ list) slot e = by (eqb p.0 slot) refl (without_none list slot)
  where
    by : (b : Bool) → eqb p.0 slot ≡ b → (item_at list slot ≡ None → without_slot slot list ≡ list) → cond (not (eqb p.0 slot)) (p ∷ without_slot slot list) (without_slot slot list) ≡ p ∷ list
    by true t later = absurd (let here : Some p.1 ≡ None = sym (ap (λ (b : Bool). cond b (Some p.1) (item_at list slot)) t) ∙ e in cc)
    by false t later =
        ap (λ (b : Bool). cond (not b) (p ∷ without_slot slot list) (without_slot slot list)) t
        ∙ ap (λ (xs : Cells). p ∷ xs) (later (sym (ap (λ (b : Bool). cond b (Some p.1) (item_at list slot)) t) ∙ e))

pub without_pushed : (list : Cells) (slot : ℕ) (cell : WaitingCell) → item_at list slot ≡ None → without_slot slot (list ++ (slot, cell) ∷ []) ≡ list
without_pushed list slot cell e =
    filter-append (λ (p : ℕ × WaitingCell). not (eqb p.0 slot)) list ((slot, cell) ∷ [])
    ∙ ap₂ (λ (xs ys : Cells). xs ++ ys) (without_none list slot e) (ap (λ (b : Bool). cond (not b) ((slot, cell) ∷ []) []) (eq-eqb slot slot refl)) ∙ append-nil list

pub has_pushed : (list : Cells) (slot : ℕ) (cell : WaitingCell) → HasSlot (list ++ (slot, cell) ∷ []) slot
has_pushed [] slot cell = subst (λ (b : Bool). IsSome (cond b (Some cell) None)) (sym (eq-eqb slot slot refl)) refl
has_pushed (p ∷ list) slot cell =
    elim (eqb p.0 slot) as (λ b. IsSome (cond b (Some p.1) (item_at (list ++ (slot, cell) ∷ []) slot))) [ true ↦ refl | false ↦ has_pushed list slot cell ]

-- paths that differ
lacks_push : (path : List Side) (cells : List WaitingCell) (cell : WaitingCell) → LacksPath path cells → path ≢ cell.path → LacksPath path (cells ++ cell ∷ [])
lacks_push path [] cell l d = (d, tt)
lacks_push path (c ∷ cells) cell l d = (l.0, lacks_push path cells cell l.1 d)

pub differ_push : (cells : List WaitingCell) (cell : WaitingCell) → DoPathsDiffer cells → LacksPath cell.path cells → DoPathsDiffer (cells ++ cell ∷ [])
differ_push [] cell d l = (tt, tt)
differ_push (c ∷ cells) cell d l = (lacks_push c.path cells cell d.0 (λ e. l.0 (sym e)), differ_push cells cell d.1 l.1)

lacks_without : (path gone : List Side) (cells : List WaitingCell) → LacksPath path cells → LacksPath path (without gone cells)
lacks_without path gone [] l = tt
lacks_without path gone (c ∷ cells) l =
    elim (path_eq gone c.path) as (λ b. LacksPath path (cond (not b) (c ∷ without gone cells) (without gone cells))) [
      | true ↦ lacks_without path gone cells l.1
      | false ↦ (l.0, lacks_without path gone cells l.1)
    ]

pub differ_without : (gone : List Side) (cells : List WaitingCell) → DoPathsDiffer cells → DoPathsDiffer (without gone cells)
differ_without gone [] d = tt
differ_without gone (c ∷ cells) d =
    elim (path_eq gone c.path) as (λ b. DoPathsDiffer (cond (not b) (c ∷ without gone cells) (without gone cells))) [
      | true ↦ differ_without gone cells d.1
      | false ↦ (lacks_without c.path gone cells d.0, differ_without gone cells d.1)
    ]

-- a path that no cell has
pub without_lacking : (path : List Side) (cells : List WaitingCell) → LacksPath path cells → without path cells ≡ cells
without_lacking path [] l = refl
without_lacking path (c ∷ cells) l =
    ap (λ (b : Bool). cond (not b) (c ∷ without path cells) (without path cells)) (path-differs path c.path l.0) ∙ ap (λ (cs : List WaitingCell). c ∷ cs) (without_lacking path cells l.1)

pub without_last : (cells : List WaitingCell) (cell : WaitingCell) → LacksPath cell.path cells → without cell.path (cells ++ cell ∷ []) ≡ cells
without_last cells cell l =
    filter-append (λ (c : WaitingCell). not (path_eq cell.path c.path)) cells (cell ∷ [])
    ∙ ap₂ (λ (xs ys : List WaitingCell). xs ++ ys) (without_lacking cell.path cells l) (ap (λ (b : Bool). cond (not b) (cell ∷ []) []) (path_eq_same cell.path)) ∙ append-nil cells
