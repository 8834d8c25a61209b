-- The queue of a legal history lists the cells that have no event.
use Rattle.std.proofs.Common.{◌≡◌, ◌≢◌, inl, inr, ℕ, zero, suc, ◌<◌, ◌≤◌, Bool, true, false, not, cond, ◌&&◌, List, [], ◌∷◌, ◌++◌, length, length-append, refl, sym, ap, subst, ◌∙◌, arith, true≢false}
use Rattle.std.specs.Prelude.{Contains, IsSome, get_or}
use Rattle.std.specs.List.{AllPairs, filter}
use Rattle.std.specs.Set.{is_member}
use Rattle.std.specs.Cmp.{decided}
use Rattle.std.proofs.lemmas.Option.{none-some}
use Rattle.std.proofs.lemmas.List.Elements.{Contains-append_left, Contains-append_right, Contains-append_cases}
use Rattle.std.proofs.lemmas.List.Kept.{AllPairs-filter}
use Rattle.std.proofs.lemmas.List.Sums.{fold_push}
use Rattle.std.proofs.lemmas.Map.Made.{is_member-filter, is_member-Decides}
use Rattle.std.specs.declared.option.Option.{Option}
use Rattle.std.specs.declared.option.Option.TheVariants.{Some, None}
use Rattle.srs_plane.specs.Regions.{Area}
use Rattle.srs_path.specs.declared.paths.Side.{Side}
use Rattle.srs_path.specs.declared.outcomes.Outcome.{Outcome}
use Rattle.srs_path.specs.declared.outcomes.Outcome.TheVariants.{Cut}
use Rattle.srs_path.specs.Views.{Budget}
use Rattle.srs_path.specs.Views.{Entry}
use Rattle.srs_tree.specs.Tree.{History, path_eq, outcome_at, IsCellOf}
use Rattle.srs_tree.specs.Legality.{MayFollow, IsLegal}
use Rattle.srs_tree.specs.Rounds.{parts_by, IsPlanned, IsWhole, IsInRounds}
use Rattle.srs_tree.proofs.HistoryLemmas.{same_path, or_else, outcome_at-append, outcome_at_stays, IsCellOf_stays, IsLegal-append, IsLegal-empty}
use Rattle.srs_tree.proofs.TreeLemmas.{cell_of_outcome}
use Rattle.srs_tree.proofs.Grow.{grow}
use Rattle.srs_tree.proofs.CellsLemmas.{outcome_there, outcome_cases, in_parts, part_in, part_new, pairs_grow}
use Rattle.srs_tree.proofs.PlannedWhole.{Closed, IsWhole-planned, IsInRounds-planned}
use Rattle.srs_tree.proofs.OnePlanLemmas.{path-decides}
use Rattle.srs_tree.specs.Queue.{queue_after, queue_of, QueueIsOpen}

-- the queue after one more event
pub queue-append : (H : History) (e : Entry) → queue_of (H ++ e ∷ []) ≡ queue_after (queue_of H) e
queue-append H e = fold_push queue_after ([] ∷ []) H e

and_parts : (a b : Bool) → (a && b) ≡ true → (a ≡ true) × (b ≡ true)
and_parts true b e = (refl, e)
and_parts false b e = absurd (true≢false (sym e))

and_both : (a b : Bool) → a ≡ true → b ≡ true → (a && b) ≡ true
and_both true b e f = f
and_both false b e f = e

not_true : (b : Bool) → not b ≡ true → b ≡ false
not_true true e = sym e
not_true false e = refl

module _ (test : List Side → Bool) (xs : List (List Side)) (p : List Side) where
  kept : is_member path_eq (filter test xs) p ≡ (is_member path_eq xs p && test p)
  kept = is_member-filter (decided path_eq path-decides) test p (λ x e. ap test (same_path p x e)) xs

  pub from_filter : Contains (filter test xs) p → Contains xs p × (test p ≡ true)
  from_filter c =
      let t = and_parts _ _ (sym kept ∙ (is_member-Decides path-decides (filter test xs) p).1 c) in
      ((is_member-Decides path-decides xs p).0 t.0, t.1)

  pub to_filter : Contains xs p → test p ≡ true → Contains (filter test xs) p
  to_filter c t = (is_member-Decides path-decides (filter test xs) p).0 (kept ∙ and_both _ _ ((is_member-Decides path-decides xs p).1 c) t)

-- the queue has exactly the cells without an event, and each once
pub record IsQueue (Root : Area) (W : ℕ) (H : History) : Type 0 where
  pub legal : IsLegal Root W H
  pub to : (p : List Side) → Contains (queue_of H) p → IsCellOf (outcome_at H) p × (outcome_at H p ≡ None)
  pub from : (p : List Side) → IsCellOf (outcome_at H) p → outcome_at H p ≡ None → Contains (queue_of H) p
  pub once : AllPairs ◌≢◌ (queue_of H)

in_one : (a p : List Side) → Contains (a ∷ []) p → a ≡ p
in_one a p c = elim (Contains-append_cases [] (a ∷ []) p c) [ inl d ↦ absurd (let l : d.0 < 0 = d.1 in omega arith) | inr d ↦ at d.0 d.1 d.2 ]
  where
    at : (k : ℕ) → k < 1 → get_or (a ∷ []) k p ≡ p → a ≡ p
    at zero l e = e
    at (suc k) l e = absurd (omega arith)

queue_empty : (Root : Area) (W : ℕ) → IsQueue Root W []
queue_empty Root W = record {
  legal = IsLegal-empty Root W;
  to = λ p c. (inl (sym (in_one [] p c)), refl);
  from = λ p c e. elim c [ inl q ↦ subst (Contains ([] ∷ [])) (sym q) (0, omega arith, refl) | inr c ↦ absurd (none-some _ c.cut) ];
  once = λ i j d l m. absurd (omega (arith, l, m));
}

-- without an outcome before, and not the event's path
still_none : (H : History) (e : Entry) (p : List Side) → outcome_at H p ≡ None → path_eq e.path p ≡ false → outcome_at (H ++ e ∷ []) p ≡ None
still_none H e p n d = outcome_at-append H (e ∷ []) p ∙ ap (λ o. or_else o (cond (path_eq e.path p) (Some e.outcome) None)) n ∙ ap (λ b. cond b (Some e.outcome) None) d

pub none_or : (x : Option Outcome) → ((o : Outcome) → x ≡ Some o → ⊥) → x ≡ None
none_or None f = refl
none_or (Some o) f = absurd (f o refl)

differ : (p q : List Side) → (p ≡ q → ⊥) → path_eq p q ≡ false
differ p q f = elim (path_eq p q) as (λ b. path_eq p q ≡ b → b ≡ false) [ true ↦ λ e. absurd (f (same_path p q e)) | false ↦ λ e. refl ] refl

queue_step : (Root : Area) (W : ℕ) (H : History) (e : Entry) → IsQueue Root W H → MayFollow Root W H e → IsQueue Root W (H ++ e ∷ [])
queue_step Root W H e old may = record {
  legal = IsLegal-append Root W H e old.legal may;
  to = to;
  from = from;
  once = subst (AllPairs ◌≢◌) (sym (queue-append H e)) (pairs_grow (filter other (queue_of H)) e.path e.outcome (AllPairs-filter ◌≢◌ other (queue_of H) old.once)
      (λ h s is c. part_new H e.path s may.fresh (old.to (e.path ++ s ∷ []) (from_filter other (queue_of H) (e.path ++ s ∷ []) c).0).0));
}
  where
    other : List Side → Bool
    other path = not (path_eq e.path path)

    to : (p : List Side) → Contains (queue_of (H ++ e ∷ [])) p → IsCellOf (outcome_at (H ++ e ∷ [])) p × (outcome_at (H ++ e ∷ []) p ≡ None)
    to p c = elim (Contains-append_cases (filter other (queue_of H)) (parts_by e.path e.outcome) p (subst (λ (x : List (List Side)). Contains x p) (queue-append H e) c)) [
      | inl k ↦ let t = from_filter other (queue_of H) p k in let u = old.to p t.0 in
          (IsCellOf_stays H (e ∷ []) p u.0, still_none H e p u.1 (not_true (path_eq e.path p) t.1))
      | inr k ↦ let t = in_parts e.path e.outcome p k in
          let empty : outcome_at H p ≡ None = none_or (outcome_at H p) (λ o g. part_new H e.path t.side may.fresh (subst (IsCellOf (outcome_at H)) t.is (cell_of_outcome Root W H old.legal p o g))) in (
            inr (record { parent = e.path; side = t.side; form = t.form; is = t.is; cut = outcome_there H e may.fresh ∙ ap Some t.cut }),
            still_none H e p empty (differ e.path p (λ q. absurd (omega (arith, ap length (q ∙ t.is), length-append e.path (t.side ∷ []))))),
          )
    ]

    left : (p : List Side) → Contains (queue_of H) p → path_eq e.path p ≡ false → Contains (queue_of (H ++ e ∷ [])) p
    left p k d = subst (λ (x : List (List Side)). Contains x p) (sym (queue-append H e)) (Contains-append_left (filter other (queue_of H)) (parts_by e.path e.outcome) p (to_filter other (queue_of H) p k (ap not d)))

    right : (p : List Side) → Contains (parts_by e.path e.outcome) p → Contains (queue_of (H ++ e ∷ [])) p
    right p k = subst (λ (x : List (List Side)). Contains x p) (sym (queue-append H e)) (Contains-append_right (filter other (queue_of H)) (parts_by e.path e.outcome) p k)

    from : (p : List Side) → IsCellOf (outcome_at (H ++ e ∷ [])) p → outcome_at (H ++ e ∷ []) p ≡ None → Contains (queue_of (H ++ e ∷ [])) p
    from p cell n =
        let before : outcome_at H p ≡ None = none_or (outcome_at H p) (λ o g. none-some o (sym n ∙ outcome_at_stays H (e ∷ []) p o g)) in
        let d : path_eq e.path p ≡ false = differ e.path p (λ q. none-some e.outcome (sym n ∙ ap (outcome_at (H ++ e ∷ [])) (sym q) ∙ outcome_there H e may.fresh)) in
        elim cell [
          | inl q ↦ left p (old.from p (inl q) before) d
          | inr c ↦ elim (outcome_cases H e c.parent (Cut c.form) c.cut) [
            | inl k ↦ left p (old.from p (inr (record { parent = c.parent; side = c.side; form = c.form; is = c.is; cut = k })) before) d
            | inr k ↦ right p (subst (Contains (parts_by e.path e.outcome)) (ap (λ (x : List Side). x ++ c.side ∷ []) k.0 ∙ sym c.is)
                (subst (λ (o : Outcome). Contains (parts_by e.path o) (e.path ++ c.side ∷ [])) (sym k.1) (part_in e.path c.form c.side)))
          ]
        ]

pub queue_is : (Root : Area) (W : ℕ) (H : History) → IsLegal Root W H → IsQueue Root W H
queue_is Root W H legal = grow (MayFollow Root W) (IsQueue Root W) (queue_empty Root W) (λ G e old may. queue_step Root W G e old may) H legal

pub queue_open : QueueIsOpen
queue_open Root W H legal =
    let q = queue_is Root W H legal in
    record {
      to = λ p c. let t = q.to p c in record { cell = t.0; open_yet = t.1 };
      from = λ p o. q.from p o.cell o.open_yet;
      once = q.once;
    }

-- where nothing waits, each cell has an event
pub none_waits : (Root : Area) (W : ℕ) (H : History) → IsLegal Root W H → queue_of H ≡ [] → (p : List Side) → IsCellOf (outcome_at H) p → IsSome (outcome_at H p)
none_waits Root W H legal empty p cell =
    elim (outcome_at H p) as (λ o. outcome_at H p ≡ o → IsSome o) [
      | None ↦ λ e. let c : Contains [] p = subst (λ (x : List (List Side)). Contains x p) empty ((queue_is Root W H legal).from p cell e) in absurd (let l : c.0 < 0 = c.1 in omega arith)
      | Some o ↦ λ e. refl
    ] refl

-- a planned history in which nothing waits is whole, and in rounds
pub done : (Root : Area) (L : Budget) (H : History) → IsPlanned Root L H → queue_of H ≡ [] → IsWhole Root L H × IsInRounds H
done Root L H planned empty = (IsWhole-planned Root L H planned (none_waits Root L.wits H planned.legal empty), IsInRounds-planned Root L H planned)

-- where each cell that waits has a path of length k at least, the rows above k are closed
pub closed_by_queue : (Root : Area) (W : ℕ) (H : History) (k : ℕ) → IsLegal Root W H → ((p : List Side) → Contains (queue_of H) p → k ≤ length p) → Closed H k
closed_by_queue Root W H k legal long p cell l =
    elim (outcome_at H p) as (λ o. outcome_at H p ≡ o → IsSome o) [
      | None ↦ λ e. let m : k ≤ length p = long p ((queue_is Root W H legal).from p cell e) in absurd (omega arith)
      | Some o ↦ λ e. refl
    ] refl
