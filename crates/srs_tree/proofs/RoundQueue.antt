-- The queue of a planned history: its paths never get shorter, and they are of two lengths at most.
use Rattle.std.proofs.Common.{◌≡◌, ◌⊎◌, inl, inr, ℕ, zero, suc, ◌+◌, ◌-◌, ◌<◌, ◌≤◌, Bool, not, List, [], ◌∷◌, ◌++◌, length, length-append, get_or, sym, ap, subst, ◌∙◌, arith}
use Rattle.std.specs.Prelude.{Contains}
use Rattle.std.specs.List.{filter}
use Rattle.std.specs.List.Sorted.{IsNonDecreasingBy}
use Rattle.std.proofs.Math.Decide.{dec_lt}
use Rattle.std.proofs.lemmas.Option.{none-some}
use Rattle.std.proofs.lemmas.List.Kept.{IsNonDecreasingBy-filter}
use Rattle.std.proofs.lemmas.List.Elements.{Contains-get_or, Contains-append_cases}
use Rattle.std.proofs.lemmas.List.{get_or_append_left, get_or-append-add}
use Rattle.srs_plane.specs.Regions.{Area}
use Rattle.srs_path.specs.declared.paths.Side.{Side}
use Rattle.srs_path.specs.Views.{Budget}
use Rattle.srs_path.specs.Views.{Entry}
use Rattle.srs_tree.specs.Tree.{History, path_eq, outcome_at}
use Rattle.srs_tree.specs.Legality.{MayFollow, IsLegal}
use Rattle.srs_tree.specs.Rounds.{parts_by, IsPlanned, MayComeNext}
use Rattle.srs_tree.proofs.HistoryLemmas.{IsLegal-append, IsLegal-empty}
use Rattle.srs_tree.proofs.Grow.{grow}
use Rattle.srs_tree.proofs.CellsLemmas.{in_parts}
use Rattle.srs_tree.proofs.PlannedWhole.{some_is}
use Rattle.srs_tree.specs.Queue.{queue_of}
use Rattle.srs_tree.proofs.QueueLemmas.{queue_is, queue-append, from_filter}

-- two lists in order, the second of them no shorter than the first, are one list in order
order_join : (xs ys : List (List Side)) (m : ℕ) → IsNonDecreasingBy (λ p. length p) xs → IsNonDecreasingBy (λ p. length p) ys → ((p : List Side) → Contains xs p → length p ≤ m) → ((p : List Side) → Contains ys p → m ≤ length p) → IsNonDecreasingBy (λ p. length p) (xs ++ ys)
order_join xs ys m one two low high i j d l h = elim (dec_lt j (length xs)) as (λ _. length (get_or (xs ++ ys) i d) ≤ length (get_or (xs ++ ys) j d)) [
  | yes a ↦ omega (arith, one i j d l a, left i (omega (arith, a)), left j a)
  | no a ↦
      let b : j - length xs < length ys = omega (arith, length-append xs ys) in
      let q : length (get_or (xs ++ ys) j d) ≡ length (get_or ys (j - length xs) d) = right j (omega (arith, a)) in
      elim (dec_lt i (length xs)) as (λ _. length (get_or (xs ++ ys) i d) ≤ length (get_or (xs ++ ys) j d)) [
        | yes c ↦ omega (arith, left i c, q, low _ (Contains-get_or xs i d c), high _ (Contains-get_or ys (j - length xs) d b))
        | no c ↦ omega (arith, right i (omega (arith, c)), q, two (i - length xs) (j - length xs) d (omega (arith, a, c)) b)
      ]
]
  where
    left : (k : ℕ) → k < length xs → length (get_or (xs ++ ys) k d) ≡ length (get_or xs k d)
    left k l = ap (λ (p : List Side). length p) (get_or_append_left xs ys d k l)

    right : (k : ℕ) → length xs ≤ k → length (get_or (xs ++ ys) k d) ≡ length (get_or ys (k - length xs) d)
    right k l = let e : length xs + (k - length xs) ≡ k = omega arith in ap (λ (n : ℕ). length (get_or (xs ++ ys) n d)) (sym e) ∙ ap (λ (p : List Side). length p) (get_or-append-add xs ys (k - length xs) d)

-- all of one length
order_flat : (ys : List (List Side)) (m : ℕ) → ((p : List Side) → Contains ys p → length p ≡ m) → IsNonDecreasingBy (λ p. length p) ys
order_flat ys m h i j d l k = omega (arith, h _ (Contains-get_or ys i d (omega arith)), h _ (Contains-get_or ys j d k))

pub record InOrder (Root : Area) (L : Budget) (H : History) : Type 0 where
  pub legal : IsLegal Root L.wits H
  pub order : IsNonDecreasingBy (λ p. length p) (queue_of H)
  pub near : (p q : List Side) → Contains (queue_of H) p → Contains (queue_of H) q → length q ≤ length p + 1

-- an event may follow, and may come next
abbrev Both : Area → Budget → History → Entry → Type 0
Both Root L G e = MayFollow Root L.wits G e × MayComeNext Root L G e

order_step : (Root : Area) (L : Budget) (H : History) (e : Entry) → InOrder Root L H → Both Root L H e → InOrder Root L (H ++ e ∷ [])
order_step Root L H e old both = record {
  legal = IsLegal-append Root L.wits H e old.legal both.0;
  order = subst (IsNonDecreasingBy (λ p. length p)) (sym (queue-append H e))
      (order_join (filter other (queue_of H)) (parts_by e.path e.outcome) (length e.path + 1)
      (IsNonDecreasingBy-filter (λ (p : List Side). length p) other (queue_of H) old.order)
      (order_flat (parts_by e.path e.outcome) (length e.path + 1) part_length)
      (λ p c. high p (from_filter other (queue_of H) p c).0)
      (λ p c. let l = part_length p c in omega (arith, l)));
  near = λ p q c d. elim (cases p c) [
    | inl a ↦ elim (cases q d) [ inl b ↦ old.near p q a b | inr b ↦ omega (arith, low p a, b) ]
    | inr a ↦ elim (cases q d) [ inl b ↦ omega (arith, high q b, a) | inr b ↦ omega (arith, a, b) ]
  ];
}
  where
    other : List Side → Bool
    other path = not (path_eq e.path path)

    waits : Contains (queue_of H) e.path
    waits = (queue_is Root L.wits H old.legal).from e.path both.0.there both.0.fresh

    part_length : (p : List Side) → Contains (parts_by e.path e.outcome) p → length p ≡ length e.path + 1
    part_length p c = let t = in_parts e.path e.outcome p c in ap length t.is ∙ length-append e.path (t.side ∷ [])

    high : (p : List Side) → Contains (queue_of H) p → length p ≤ length e.path + 1
    high p c = old.near e.path p waits c

    low : (p : List Side) → Contains (queue_of H) p → length e.path ≤ length p
    low p c =
        let t = (queue_is Root L.wits H old.legal).to p c in
        let short : length p < length e.path → ⊥ = λ l. let s = some_is (outcome_at H p) (both.1.rows_done p t.0 l) in none-some s.0 (sym t.1 ∙ s.1) in
        omega (arith, short)

    cases : (p : List Side) → Contains (queue_of (H ++ e ∷ [])) p → Contains (queue_of H) p ⊎ (length p ≡ length e.path + 1)
    cases p c = elim (Contains-append_cases (filter other (queue_of H)) (parts_by e.path e.outcome) p (subst (λ (x : List (List Side)). Contains x p) (queue-append H e) c)) [
      | inl k ↦ inl (from_filter other (queue_of H) p k).0
      | inr k ↦ inr (part_length p k)
    ]

root_length : (p : List Side) → Contains ([] ∷ []) p → length p ≡ 0
root_length p c = at c.0 c.1 c.2
  where
    at : (k : ℕ) → k < 1 → get_or ([] ∷ []) k p ≡ p → length p ≡ 0
    at zero l e = ap length (sym e)
    at (suc k) l e = absurd (omega arith)

pub queue_in_order : (Root : Area) (L : Budget) (H : History) → IsPlanned Root L H → InOrder Root L H
queue_in_order Root L H planned = grow (Both Root L) (InOrder Root L)
    (record { legal = IsLegal-empty Root L.wits; order = order_flat ([] ∷ []) 0 root_length; near = λ p q c d. omega (arith, root_length p c, root_length q d) })
    (λ G e old both. order_step Root L G e old both) H (λ k e g. (planned.legal k e g, planned.each k e g))
