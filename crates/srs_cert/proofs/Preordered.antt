-- The events of a whole tree, taken one by one: each is that of the next path that waits, a cell without an event.
use Rattle.std.proofs.Common.{◌≡◌, ◌≢◌, inl, inr, ℕ, zero, suc, ◌+◌, ◌≤◌, Bool, cond, List, [], ◌∷◌, ◌++◌, length, length-append, take, drop, get_or, slice_get, refl, sym, ap, subst, ◌∙◌, arith, take-append-drop}
use Rattle.std.specs.Prelude.{Contains}
use Rattle.std.specs.List.{AllPairs, All}
use Rattle.std.proofs.lemmas.Option.{none-some, slice_get_within, get_or_from_slice_get, slice_get-get_or}
use Rattle.std.proofs.lemmas.List.{take_more, drop_more, append_cancel_left}
use Rattle.std.proofs.lemmas.List.Elements.{Contains-append_cases, Contains-get_or}
use Rattle.std.proofs.lemmas.List.Kept.{AllPairs-cons}
use Rattle.std.specs.declared.option.Option.{Option}
use Rattle.std.specs.declared.option.Option.TheVariants.{Some, None}
use Rattle.srs_path.specs.declared.paths.Side.{Side}
use Rattle.srs_path.specs.declared.paths.Side.TheVariants.{Ge, Lt}
use Rattle.srs_path.specs.declared.outcomes.Cause.TheVariants.{Memory}
use Rattle.srs_path.specs.declared.outcomes.Outcome.{Outcome}
use Rattle.srs_path.specs.declared.outcomes.Outcome.TheVariants.{Inside, Outside, Cut, Left}
use Rattle.srs_path.specs.Views.{Entry}
use Rattle.srs_tree.specs.Tree.{History, path_eq, outcome_at, IsCellOf}
use Rattle.srs_tree.specs.Rounds.{parts_by}
use Rattle.srs_tree.specs.WholeTrees.{ListsTrees, ListsWholeTree}
use Rattle.srs_cert.specs.Preorders.{AreOpenAfter, IsWalked}
use Rattle.srs_tree.proofs.HistoryLemmas.{path_eq_same, or_else, outcome_at-append, IsCellOf_stays}
use Rattle.srs_tree.proofs.CellsLemmas.{outcome_there, outcome_cases, in_parts, part_new}

pub here_first : (p : List Side) (ps : List (List Side)) → Contains (p ∷ ps) p
here_first p ps = (0, omega arith, refl)

here_later : (p q : List Side) (ps : List (List Side)) → Contains ps q → Contains (p ∷ ps) q
here_later p q ps c = let l = c.1 in (suc c.0, omega arith, c.2)

in_one : (a p : List Side) → Contains (a ∷ []) p → a ≡ p
in_one a p (zero, l, e) = e
in_one a p (suc k, l, e) = absurd (omega arith)

pub none_or : (x : Option Outcome) → ((o : Outcome) → x ≡ Some o → ⊥) → x ≡ None
none_or None f = refl
none_or (Some o) f = absurd (f o refl)

differs_later : (p q : List Side) (ps : List (List Side)) → AllPairs ◌≢◌ (p ∷ ps) → Contains ps q → p ≢ q
differs_later p q ps once c e = let l = c.1 in once 0 (suc c.0) q (omega arith) (omega arith) (e ∙ sym c.2)

pairs_later : (p : List Side) (ps : List (List Side)) → AllPairs ◌≢◌ (p ∷ ps) → AllPairs ◌≢◌ ps
pairs_later p ps once i j d l m = once (suc i) (suc j) d (omega arith) (omega arith)

all_differ : (p : List Side) (ps : List (List Side)) → ((q : List Side) → Contains ps q → p ≢ q) → All (λ (q : List Side). p ≢ q) ps
all_differ p ps f k d l = f (get_or ps k d) (Contains-get_or ps k d l)

sides_differ : (p : List Side) → p ++ Ge ∷ [] ≡ p ++ Lt ∷ [] → ⊥
sides_differ p e = let r : Ge ∷ [] ≡ Lt ∷ [] = append_cancel_left p (Ge ∷ []) (Lt ∷ []) e in cc

pub open_first : AreOpenAfter [] ([] ∷ [])
open_first = record {
  closed = λ p o e. absurd (none-some o e);
  cells = λ p c. inl (sym (in_one [] p c));
  fresh = λ p c. refl;
  once = λ i j d l m. absurd (omega (arith, l, m));
}

module _ (G : History) (e : Entry) (rest : List (List Side)) (old : AreOpenAfter G (e.path ∷ rest)) where
  here : IsCellOf (outcome_at G) e.path
  here = old.cells e.path (here_first e.path rest)

  fresh_here : outcome_at G e.path ≡ None
  fresh_here = old.fresh e.path (here_first e.path rest)

  -- a part of the cell is no cell yet
  new_part : (s : Side) → IsCellOf (outcome_at G) (e.path ++ s ∷ []) → ⊥
  new_part s = part_new G e.path s fresh_here

  part_differs : (s : Side) (q : List Side) → Contains rest q → e.path ++ s ∷ [] ≢ q
  part_differs s q c r = new_part s (subst (IsCellOf (outcome_at G)) (sym r) (old.cells q (here_later e.path q rest c)))

  closed_next : (p : List Side) (o : Outcome) → outcome_at (G ++ e ∷ []) p ≡ Some o → IsCellOf (outcome_at (G ++ e ∷ [])) p
  closed_next p o g = elim (outcome_cases G e p o g) [
    | inl k ↦ IsCellOf_stays G (e ∷ []) p (old.closed p o k)
    | inr k ↦ IsCellOf_stays G (e ∷ []) p (subst (IsCellOf (outcome_at G)) k.0 here)
  ]

  cells_next : (p : List Side) → Contains (parts_by e.path e.outcome ++ rest) p → IsCellOf (outcome_at (G ++ e ∷ [])) p
  cells_next p c = elim (Contains-append_cases (parts_by e.path e.outcome) rest p c) [
    | inl k ↦ let t = in_parts e.path e.outcome p k in inr (record { parent = e.path; side = t.side; form = t.form; is = t.is; cut = outcome_there G e fresh_here ∙ ap Some t.cut })
    | inr k ↦ IsCellOf_stays G (e ∷ []) p (old.cells p (here_later e.path p rest k))
  ]

  fresh_next : (p : List Side) → Contains (parts_by e.path e.outcome ++ rest) p → outcome_at (G ++ e ∷ []) p ≡ None
  fresh_next p c = none_or (outcome_at (G ++ e ∷ []) p) (λ o g. elim (Contains-append_cases (parts_by e.path e.outcome) rest p c) [
    | inl k ↦
        let t = in_parts e.path e.outcome p k in
        elim (outcome_cases G e p o g) [
          | inl m ↦ new_part t.side (subst (IsCellOf (outcome_at G)) t.is (old.closed p o m))
          | inr m ↦ omega (arith, ap length (m.0 ∙ t.is), length-append e.path (t.side ∷ []))
        ]
    | inr k ↦ elim (outcome_cases G e p o g) [
      | inl m ↦ none-some o (sym (old.fresh p (here_later e.path p rest k)) ∙ m)
      | inr m ↦ differs_later e.path p rest old.once k m.0
    ]
  ])

  once_with : (o : Outcome) → AllPairs ◌≢◌ (parts_by e.path o ++ rest)
  once_with (Inside ranks) = pairs_later e.path rest old.once
  once_with (Outside cycle) = pairs_later e.path rest old.once
  once_with (Left cause) = pairs_later e.path rest old.once
  once_with (Cut h) =
      let a : List Side = e.path ++ Ge ∷ [] in
      let b : List Side = e.path ++ Lt ∷ [] in
      let one : AllPairs ◌≢◌ (b ∷ rest) = AllPairs-cons ◌≢◌ b rest (all_differ b rest (part_differs Lt)) (pairs_later e.path rest old.once) in
      AllPairs-cons ◌≢◌ a (b ∷ rest) (all_differ a (b ∷ rest) (λ q c. by_place q c)) one
    where
      by_place : (q : List Side) → Contains ((e.path ++ Lt ∷ []) ∷ rest) q → e.path ++ Ge ∷ [] ≢ q
      by_place q (zero, l, r) d = sides_differ e.path (d ∙ sym r)
      by_place q (suc k, l, r) d = part_differs Ge q (k, omega arith, r) d

  pub open_next : AreOpenAfter (G ++ e ∷ []) (parts_by e.path e.outcome ++ rest)
  open_next = record { closed = closed_next; cells = cells_next; fresh = fresh_next; once = once_with e.outcome }

pub walked_first : (H : History) → ListsWholeTree H → IsWalked H 0 ([] ∷ [])
walked_first H tree = record { lists = tree; opened = open_first }

-- the event at the place is that of the first path
pub record Takes (H : History) (i : ℕ) (waiting : List (List Side)) (e : Entry) : Type 0 where
  pub rest : List (List Side)
  pub first : waiting ≡ e.path ∷ rest
  pub next : IsWalked H (i + 1) (parts_by e.path e.outcome ++ rest)
  pub is_open : AreOpenAfter (take i H) (e.path ∷ rest)

drop_here : (H : History) (i : ℕ) (e : Entry) → slice_get H i ≡ Some e → drop i H ≡ e ∷ drop (i + 1) H
drop_here H i e at = drop_more H i e (slice_get_within H i e at) ∙ ap (λ (x : Entry). x ∷ drop (i + 1) H) (get_or_from_slice_get H i e e at)

-- the first items, and one more
pub take_here : {A : Type 0} (xs : List A) (i : ℕ) (x : A) → slice_get xs i ≡ Some x → take (i + 1) xs ≡ take i xs ++ x ∷ []
take_here {A} xs i x at = take_more xs i x (slice_get_within xs i x at) ∙ ap (λ (y : A). take i xs ++ y ∷ []) (get_or_from_slice_get xs i x x at)

pub walked_takes : (H : History) (i : ℕ) (waiting : List (List Side)) (e : Entry) → IsWalked H i waiting → slice_get H i ≡ Some e → Takes H i waiting e
walked_takes H i [] e w at = absurd (none_lists (drop i H) (drop_here H i e at) w.lists)
  where
    none_lists : (K : History) → K ≡ e ∷ drop (i + 1) H → ListsTrees [] K → ⊥
    none_lists [] q l = cc
    none_lists (x ∷ K) q l = l
walked_takes H i (p ∷ rest) e w at =
    let l : (e.path ≡ p) × ListsTrees (parts_by e.path e.outcome ++ rest) (drop (i + 1) H) = subst (ListsTrees (p ∷ rest)) (drop_here H i e at) w.lists in
    let o : AreOpenAfter (take i H) (e.path ∷ rest) = subst (λ (q : List Side). AreOpenAfter (take i H) (q ∷ rest)) (sym l.0) w.opened in
    record {
      rest = rest;
      first = ap (λ (q : List Side). q ∷ rest) (sym l.0);
      next = record { lists = l.1; opened = subst (λ (K : History). AreOpenAfter K (parts_by e.path e.outcome ++ rest)) (sym (take_here H i e at)) (open_next (take i H) e rest o) };
      is_open = o;
    }

-- the event at the place is the one that its path has
pub walked_outcome : (H : History) (i : ℕ) (e : Entry) (rest : List (List Side)) → slice_get H i ≡ Some e → AreOpenAfter (take i H) (e.path ∷ rest) → outcome_at H e.path ≡ Some e.outcome
walked_outcome H i e rest at o =
    ap (λ (K : History). outcome_at K e.path) (sym (take-append-drop i H) ∙ ap (λ (K : History). take i H ++ K) (drop_here H i e at))
    ∙ outcome_at-append (take i H) (e ∷ drop (i + 1) H) e.path
    ∙ ap (λ (x : Option Outcome). or_else x (cond (path_eq e.path e.path) (Some e.outcome) (outcome_at (drop (i + 1) H) e.path))) (o.fresh e.path (here_first e.path rest))
    ∙ ap (λ (b : Bool). cond b (Some e.outcome) (outcome_at (drop (i + 1) H) e.path)) (path_eq_same e.path)

-- at each place some paths wait
pub walked_all : (H : History) → ListsWholeTree H → (i : ℕ) → i ≤ length H → (waiting : List (List Side)) × IsWalked H i waiting
walked_all H tree zero l = ([] ∷ [], walked_first H tree)
walked_all H tree (suc i) l =
    let w = walked_all H tree i (omega arith) in
    let e : Entry = get_or H i (record { path = []; outcome = Left Memory }) in
    let t = walked_takes H i w.0 e w.1 (slice_get-get_or H i (record { path = []; outcome = Left Memory }) (omega arith)) in
    let q : i + 1 ≡ suc i = omega arith in
    (parts_by e.path e.outcome ++ t.rest, subst (λ (n : ℕ). IsWalked H n (parts_by e.path e.outcome ++ t.rest)) q t.next)
