-- The list of cells_of of a legal history, and counts of cells_of.
use Rattle.std.proofs.Common.{◌≡◌, ◌≢◌, ◌⊎◌, inl, inr, ℕ, zero, suc, ◌<◌, true, false, cond, List, [], ◌∷◌, ◌++◌, length, length-append, get_or, refl, sym, ap, subst, ◌∙◌, arith, append_assoc, append-nil}
use Rattle.std.specs.Prelude.{Contains}
use Rattle.std.specs.List.{flat_map, AllPairs}
use Rattle.std.proofs.lemmas.Option.{none-some, same_Some}
use Rattle.std.proofs.lemmas.List.{append_cancel_left}
use Rattle.std.proofs.lemmas.List.Concat.{flat_map-append}
use Rattle.std.proofs.lemmas.List.Elements.{Contains-get_or, Contains-append_left, Contains-append_right, Contains-append_cases, Contains-push_cases}
use Rattle.std.proofs.lemmas.List.Quantifiers.{all_pairs_push}
use Rattle.std.specs.declared.option.Option.TheVariants.{Some, None}
use Rattle.srs_num.specs.Points.{LinearForm}
use Rattle.srs_plane.specs.Regions.{Area}
use Rattle.srs_path.specs.declared.paths.Side.{Side}
use Rattle.srs_path.specs.declared.paths.Side.TheVariants.{Ge, Lt}
use Rattle.srs_path.specs.declared.outcomes.Outcome.{Outcome}
use Rattle.srs_path.specs.declared.outcomes.Outcome.TheVariants.{Inside, Outside, Cut, Left}
use Rattle.srs_path.specs.Views.{Entry}
use Rattle.srs_tree.specs.Tree.{History, path_eq, outcome_at, IsCellOf}
use Rattle.srs_tree.specs.Legality.{MayFollow, IsLegal}
use Rattle.srs_tree.specs.Rounds.{parts_by, cells_of}
use Rattle.srs_tree.proofs.HistoryLemmas.{same_path, path_eq_same, or_else, outcome_at-append, IsCellOf_stays, IsLegal-append, IsLegal-empty}
use Rattle.srs_tree.proofs.TreeCut.{same_parent}
use Rattle.srs_tree.proofs.Grow.{grow}

abbrev parts_of : Entry → List (List Side)
parts_of e = parts_by e.path e.outcome

-- the cells_of after one more event
pub cells-append : (H : History) (e : Entry) → cells_of (H ++ e ∷ []) ≡ cells_of H ++ parts_by e.path e.outcome
cells-append H e =
    ap (λ (x : List (List Side)). [] ∷ x) (flat_map-append parts_of H (e ∷ []) ∙ ap (λ (x : List (List Side)). flat_map parts_of H ++ x) (append-nil (parts_of e)))

-- the cells_of of two histories joined
pub cells-join : (G K : History) → cells_of (G ++ K) ≡ cells_of G ++ flat_map (λ (e : Entry). parts_by e.path e.outcome) K
cells-join G K = ap (λ (x : List (List Side)). [] ∷ x) (flat_map-append parts_of G K)

-- the outcome of the last event
pub outcome_there : (H : History) (e : Entry) → outcome_at H e.path ≡ None → outcome_at (H ++ e ∷ []) e.path ≡ Some e.outcome
outcome_there H e fresh = outcome_at-append H (e ∷ []) e.path ∙ ap (λ o. or_else o (cond (path_eq e.path e.path) (Some e.outcome) None)) fresh ∙ ap (λ b. cond b (Some e.outcome) None) (path_eq_same e.path)

-- an outcome after one more event is an old one, or that event's
pub outcome_cases : (H : History) (e : Entry) (p : List Side) (o : Outcome) → outcome_at (H ++ e ∷ []) p ≡ Some o → (outcome_at H p ≡ Some o) ⊎ ((e.path ≡ p) × (e.outcome ≡ o))
outcome_cases H e p o g =
    elim (outcome_at H p) as (λ x. outcome_at H p ≡ x → or_else x (cond (path_eq e.path p) (Some e.outcome) None) ≡ Some o → (outcome_at H p ≡ Some o) ⊎ ((e.path ≡ p) × (e.outcome ≡ o))) [
      | Some y ↦ λ q k. inl (q ∙ k)
      | None ↦ λ q k. elim (path_eq e.path p) as (λ b. path_eq e.path p ≡ b → cond b (Some e.outcome) None ≡ Some o → (outcome_at H p ≡ Some o) ⊎ ((e.path ≡ p) × (e.outcome ≡ o))) [
        | true ↦ λ m n. inr (same_path e.path p m, same_Some e.outcome o n)
        | false ↦ λ m n. absurd (none-some o n)
      ] refl k
    ] refl (sym (outcome_at-append H (e ∷ []) p) ∙ g)

in_none : (p : List Side) → Contains [] p → ⊥
in_none p c = let l : c.0 < 0 = c.1 in absurd (omega arith)

in_one : (a p : List Side) (k : ℕ) → k < 1 → get_or (a ∷ []) k p ≡ p → a ≡ p
in_one a p zero l e = e
in_one a p (suc k) l e = absurd (omega arith)

in_two : (a b p : List Side) (k : ℕ) → k < 2 → get_or (a ∷ b ∷ []) k p ≡ p → (a ≡ p) ⊎ (b ≡ p)
in_two a b p zero l e = inl e
in_two a b p (suc zero) l e = inr e
in_two a b p (suc (suc k)) l e = absurd (omega arith)

-- the parts of a cut, and of no other outcome
pub record IsPartBy (path : List Side) (o : Outcome) (p : List Side) : Type 0 where
  pub form : LinearForm
  pub side : Side
  pub cut : o ≡ Cut form
  pub is : p ≡ path ++ side ∷ []

pub in_parts : (path : List Side) (o : Outcome) (p : List Side) → Contains (parts_by path o) p → IsPartBy path o p
in_parts path (Inside rs) p c = absurd (in_none p c)
in_parts path (Outside r) p c = absurd (in_none p c)
in_parts path (Cut h) p c = elim (in_two (path ++ Ge ∷ []) (path ++ Lt ∷ []) p c.0 c.1 c.2) [
  | inl e ↦ record { form = h; side = Ge; cut = refl; is = sym e }
  | inr e ↦ record { form = h; side = Lt; cut = refl; is = sym e }
]
in_parts path (Left x) p c = absurd (in_none p c)

pub part_in : (path : List Side) (h : LinearForm) (s : Side) → Contains (parts_by path (Cut h)) (path ++ s ∷ [])
part_in path h Ge = (0, omega arith, refl)
part_in path h Lt = (1, omega arith, refl)

sides_differ : ◌≡◌ {A = Side} Ge Lt → ⊥
sides_differ e = cc

-- the list of pairwise different paths grows by the parts
pub pairs_grow : (xs : List (List Side)) (path : List Side) (o : Outcome) → AllPairs ◌≢◌ xs → ((h : LinearForm) (s : Side) → o ≡ Cut h → Contains xs (path ++ s ∷ []) → ⊥) → AllPairs ◌≢◌ (xs ++ parts_by path o)
pairs_grow xs path (Inside rs) all new = subst (AllPairs ◌≢◌) (sym (append-nil xs)) all
pairs_grow xs path (Outside c) all new = subst (AllPairs ◌≢◌) (sym (append-nil xs)) all
pairs_grow xs path (Left x) all new = subst (AllPairs ◌≢◌) (sym (append-nil xs)) all
pairs_grow xs path (Cut h) all new =
    let a : List Side = path ++ Ge ∷ [] in
    let b : List Side = path ++ Lt ∷ [] in
    let one : AllPairs ◌≢◌ (xs ++ a ∷ []) = all_pairs_push ◌≢◌ xs a all (λ k d l e. new h Ge refl (subst (Contains xs) e (Contains-get_or xs k d l))) in
    let two : AllPairs ◌≢◌ ((xs ++ a ∷ []) ++ b ∷ []) = all_pairs_push ◌≢◌ (xs ++ a ∷ []) b one (λ k d l e.
    elim (Contains-push_cases xs a b (subst (Contains (xs ++ a ∷ [])) e (Contains-get_or (xs ++ a ∷ []) k d l))) [
      | inl c ↦ new h Lt refl c
      | inr q ↦ let r : Ge ∷ [] ≡ Lt ∷ [] = append_cancel_left path (Ge ∷ []) (Lt ∷ []) q in cc
    ]) in
    subst (AllPairs ◌≢◌) (append_assoc xs (a ∷ []) (b ∷ [])) two

-- a part of a path without an outcome is no cell
pub part_new : (H : History) (p : List Side) (s : Side) → outcome_at H p ≡ None → IsCellOf (outcome_at H) (p ++ s ∷ []) → ⊥
part_new H p s fresh (inl q) = absurd (omega (arith, ap length q, length-append p (s ∷ [])))
part_new H p s fresh (inr q) = none-some _ (sym fresh ∙ ap (outcome_at H) (same_parent p q.parent s q.side q.is) ∙ q.cut)

-- the list of cells_of has exactly the cells_of, and each once
pub record AreCells (Root : Area) (W : ℕ) (H : History) : Type 0 where
  pub legal : IsLegal Root W H
  pub to : (p : List Side) → Contains (cells_of H) p → IsCellOf (outcome_at H) p
  pub from : (p : List Side) → IsCellOf (outcome_at H) p → Contains (cells_of H) p
  pub once : AllPairs ◌≢◌ (cells_of H)

cells_empty : (Root : Area) (W : ℕ) → AreCells Root W []
cells_empty Root W = record {
  legal = IsLegal-empty Root W;
  to = λ p c. inl (sym (in_one [] p c.0 c.1 c.2));
  from = λ p c. elim c [ inl e ↦ subst (Contains ([] ∷ [])) (sym e) (0, omega arith, refl) | inr c ↦ absurd (none-some _ c.cut) ];
  once = λ i j d l m. absurd (omega (arith, l, m));
}

cells_step : (Root : Area) (W : ℕ) (H : History) (e : Entry) → AreCells Root W H → MayFollow Root W H e → AreCells Root W (H ++ e ∷ [])
cells_step Root W H e old may = record {
  legal = IsLegal-append Root W H e old.legal may;
  to = to;
  from = from;
  once = subst (AllPairs ◌≢◌) (sym (cells-append H e)) (pairs_grow (cells_of H) e.path e.outcome old.once new);
}
  where
    to : (p : List Side) → Contains (cells_of (H ++ e ∷ [])) p → IsCellOf (outcome_at (H ++ e ∷ [])) p
    to p c = elim (Contains-append_cases (cells_of H) (parts_of e) p (subst (λ (x : List (List Side)). Contains x p) (cells-append H e) c)) [
      | inl k ↦ IsCellOf_stays H (e ∷ []) p (old.to p k)
      | inr k ↦ let t = in_parts e.path e.outcome p k in
          inr (record { parent = e.path; side = t.side; form = t.form; is = t.is; cut = outcome_there H e may.fresh ∙ ap Some t.cut })
    ]

    right : (p : List Side) → Contains (parts_of e) p → Contains (cells_of (H ++ e ∷ [])) p
    right p k = subst (λ (x : List (List Side)). Contains x p) (sym (cells-append H e)) (Contains-append_right (cells_of H) (parts_of e) p k)

    left : (p : List Side) → Contains (cells_of H) p → Contains (cells_of (H ++ e ∷ [])) p
    left p k = subst (λ (x : List (List Side)). Contains x p) (sym (cells-append H e)) (Contains-append_left (cells_of H) (parts_of e) p k)

    from : (p : List Side) → IsCellOf (outcome_at (H ++ e ∷ [])) p → Contains (cells_of (H ++ e ∷ [])) p
    from p (inl q) = left p (old.from p (inl q))
    from p (inr c) = elim (outcome_cases H e c.parent (Cut c.form) c.cut) [
      | inl k ↦ left p (old.from p (inr (record { parent = c.parent; side = c.side; form = c.form; is = c.is; cut = k })))
      | inr k ↦ right p (subst (Contains (parts_of e)) (ap (λ (x : List Side). x ++ c.side ∷ []) k.0 ∙ sym c.is)
          (subst (λ (o : Outcome). Contains (parts_by e.path o) (e.path ++ c.side ∷ [])) (sym k.1) (part_in e.path c.form c.side)))
    ]

    new : (h : LinearForm) (s : Side) → e.outcome ≡ Cut h → Contains (cells_of H) (e.path ++ s ∷ []) → ⊥
    new h s is c = part_new H e.path s may.fresh (old.to (e.path ++ s ∷ []) c)

pub cells_are : (Root : Area) (W : ℕ) (H : History) → IsLegal Root W H → AreCells Root W H
cells_are Root W H legal = grow (MayFollow Root W) (AreCells Root W) (cells_empty Root W) (λ G e old may. cells_step Root W G e old may) H legal
