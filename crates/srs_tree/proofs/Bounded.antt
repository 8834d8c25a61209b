-- A whole history has at most C cells, and no path longer than D.
use Rattle.std.proofs.Common.{◌≡◌, ◌≢◌, ◌⊎◌, inl, inr, ℕ, zero, suc, ◌+◌, ◌-◌, ◌*◌, ◌<◌, ◌≤◌, Bool, true, false, cond, ◌&&◌, List, [], ◌∷◌, ◌++◌, map, length, length-append, get_or, refl, sym, ap, ap₂, subst, ◌∙◌, arith, true≢false}
use Rattle.std.specs.Prelude.{◌==◌, nat_le, nat_lt, if◌then◌else◌, count_by, Contains}
use Rattle.std.specs.List.{flat_map, AllPairs, AllByRecursion, filter}
use Rattle.std.specs.Cmp.{decided}
use Rattle.std.specs.Set.{is_member}
use Rattle.std.proofs.lemmas.Bool.Decides.{nat_tests, Decides-eqb}
use Rattle.std.proofs.lemmas.Option.{none-some}
use Rattle.std.proofs.lemmas.List.{map-append, length-map}
use Rattle.std.proofs.lemmas.List.Elements.{Contains-push_cases, Contains-get_or}
use Rattle.std.proofs.lemmas.List.Kept.{AllPairs-filter}
use Rattle.std.proofs.lemmas.List.Quantifiers.{all_pairs_push}
use Rattle.std.proofs.lemmas.List.Sums.{sum_by-append, sum_by-cons, length-filter, get_or-le-sum_by}
use Rattle.std.proofs.lemmas.Map.Made.{length-le_from_is_member, is_member-filter, is_member-Decides, IsDistinct-from_AllPairs}
use Rattle.std.specs.declared.option.Option.{Option}
use Rattle.std.specs.declared.option.Option.TheVariants.{Some, None}
use Rattle.srs_plane.specs.Regions.{Area}
use Rattle.srs_path.specs.declared.paths.Side.{Side}
use Rattle.srs_path.specs.declared.paths.Side.TheVariants.{Ge as GeSide, Lt as LtSide}
use Rattle.srs_path.specs.declared.outcomes.Outcome.{Outcome}
use Rattle.srs_path.specs.declared.outcomes.Outcome.TheVariants.{Inside, Outside, Cut, Left}
use Rattle.srs_path.specs.declared.limits.Last.{Last}
use Rattle.srs_path.specs.declared.limits.Last.TheVariants.{Depth, Cells}
use Rattle.srs_path.specs.Views.{Budget, last_of}
use Rattle.srs_path.specs.Views.{Entry}
use Rattle.srs_path.specs.Refinement.{Refines}
use Rattle.srs_tree.specs.Tree.{History, path_eq, outcome_at, IsCellOf}
use Rattle.srs_tree.specs.Legality.{MayFollow, IsLegal}
use Rattle.srs_tree.specs.Rounds.{parts_by, cells_of, upto, row_of, last_in, IsByPlan, IsWhole, IsPlanned}
use Rattle.srs_tree.proofs.HistoryLemmas.{same_path, outcome_at_stays, IsLegal-append, IsLegal-empty}
use Rattle.srs_tree.proofs.TreeLemmas.{cell_of_outcome}
use Rattle.srs_tree.proofs.Grow.{grow}
use Rattle.srs_tree.proofs.CellsLemmas.{outcome_there, cells_are}
use Rattle.srs_tree.proofs.PlannedWhole.{none_counted, le_fails, events_by_plan}
use Rattle.srs_tree.proofs.OnePlanLemmas.{path-decides}

abbrev one_if : Bool → ℕ
one_if b = cond b 1 0

abbrev pub is_cut : Outcome → Bool
is_cut (Inside rs) = false
is_cut (Outside c) = false
is_cut (Cut h) = true
is_cut (Left x) = false

-- how many cuts have paths of length k
abbrev pub cuts : History → ℕ → ℕ
cuts H k = count_by (λ e. is_cut e.outcome && (length e.path == k)) H

eq_more : (a n k : ℕ) → a ≡ n + 1 → (a == k + 1) ≡ (n == k)
eq_more a n k e = grind (arith, nat_tests)

le_split : (a k : ℕ) → one_if (nat_le a (k + 1)) ≡ one_if (nat_le a k) + one_if (a == k + 1)
le_split a k = grind (arith, nat_tests)

twice : (b : Bool) → (0 + one_if b) + one_if b ≡ 2 * one_if b
twice true = refl
twice false = refl

-- the next row has two cells for each cut of the row
parts_next : (k : ℕ) (path : List Side) (o : Outcome) → count_by (λ (p : List Side). length p == k + 1) (parts_by path o) ≡ 2 * one_if (is_cut o && (length path == k))
parts_next k path (Inside rs) = refl
parts_next k path (Outside c) = refl
parts_next k path (Cut h) =
    ap₂ (λ (x y : Bool). (0 + one_if x) + one_if y) (eq_more _ (length path) k (length-append path (GeSide ∷ []))) (eq_more _ (length path) k (length-append path (LtSide ∷ [])))
    ∙ twice (length path == k)
parts_next k path (Left x) = refl

abbrev parts_all : History → List (List Side)
parts_all H = flat_map (λ (e : Entry). parts_by e.path e.outcome) H

flat_next : (k : ℕ) (H : History) → count_by (λ (p : List Side). length p == k + 1) (parts_all H) ≡ 2 * cuts H k
flat_next k [] = refl
flat_next k (f ∷ H) =
    let a : count_by (λ (p : List Side). length p == k + 1) (parts_all (f ∷ H)) ≡ count_by (λ (p : List Side). length p == k + 1) (parts_by f.path f.outcome) + count_by (λ (p : List Side). length p == k + 1) (parts_all H) =
    sum_by-append _ (parts_by f.path f.outcome) (parts_all H) in
    let b : cuts (f ∷ H) k ≡ one_if (is_cut f.outcome && (length f.path == k)) + cuts H k = sum_by-cons _ f H in
    let c = parts_next k f.path f.outcome in
    let d = flat_next k H in
    omega (arith, a, b, c, d)

zero_differs : (k : ℕ) → (0 == k + 1) ≡ false
zero_differs k = grind (arith, nat_tests)

pub row_next : (H : History) (k : ℕ) → row_of H (k + 1) ≡ 2 * cuts H k
row_next H k =
    let a : row_of H (k + 1) ≡ one_if (0 == k + 1) + count_by (λ (p : List Side). length p == k + 1) (parts_all H) = sum_by-cons _ [] (parts_all H) in
    let b : one_if (0 == k + 1) ≡ 0 = ap (λ (x : Bool). one_if x) (zero_differs k) in
    omega (arith, a, b, flat_next k H)

count_next : (k : ℕ) (xs : List (List Side)) → count_by (λ (p : List Side). nat_le (length p) (k + 1)) xs ≡ count_by (λ (p : List Side). nat_le (length p) k) xs + count_by (λ (p : List Side). length p == k + 1) xs
count_next k [] = refl
count_next k (x ∷ xs) =
    let a : count_by (λ (p : List Side). nat_le (length p) (k + 1)) (x ∷ xs) ≡ one_if (nat_le (length x) (k + 1)) + count_by (λ (p : List Side). nat_le (length p) (k + 1)) xs = sum_by-cons _ x xs in
    let b : count_by (λ (p : List Side). nat_le (length p) k) (x ∷ xs) ≡ one_if (nat_le (length x) k) + count_by (λ (p : List Side). nat_le (length p) k) xs = sum_by-cons _ x xs in
    let c : count_by (λ (p : List Side). length p == k + 1) (x ∷ xs) ≡ one_if (length x == k + 1) + count_by (λ (p : List Side). length p == k + 1) xs = sum_by-cons _ x xs in
    omega (arith, a, b, c, le_split (length x) k, count_next k xs)

pub upto_next : (H : History) (k : ℕ) → upto H (k + 1) ≡ upto H k + row_of H (k + 1)
upto_next H k = count_next k (cells_of H)

-- counts that come out as none, all, or some
module _ {X : Type 0} (test : X → Bool) where
  cons_has : (x : X) (xs : List X) (y : X) → Contains xs y → Contains (x ∷ xs) y
  cons_has x xs y c = let l = c.1 in (suc c.0, omega arith, c.2)

  pub count_none : (xs : List X) → ((x : X) → Contains xs x → test x ≡ false) → count_by test xs ≡ 0
  count_none [] h = refl
  count_none (x ∷ xs) h =
      let a : count_by test (x ∷ xs) ≡ one_if (test x) + count_by test xs = sum_by-cons _ x xs in
      let b : one_if (test x) ≡ 0 = ap (λ (b : Bool). one_if b) (h x (0, omega arith, refl)) in
      let c = count_none xs (λ y k. h y (cons_has x xs y k)) in
      omega (arith, a, b, c)

  pub count_all : (xs : List X) → ((x : X) → Contains xs x → test x ≡ true) → count_by test xs ≡ length xs
  count_all [] h = refl
  count_all (x ∷ xs) h =
      let a : count_by test (x ∷ xs) ≡ one_if (test x) + count_by test xs = sum_by-cons _ x xs in
      let b : one_if (test x) ≡ 1 = ap (λ (b : Bool). one_if b) (h x (0, omega arith, refl)) in
      let c = count_all xs (λ y k. h y (cons_has x xs y k)) in
      omega (arith, a, b, c)

  pub count_some : (xs : List X) (x : X) → Contains xs x → test x ≡ true → 1 ≤ count_by test xs
  count_some xs x c t =
      let a : one_if (test (get_or xs c.0 x)) ≤ count_by test xs = get_or-le-sum_by (λ (y : X). one_if (test y)) xs c.0 x c.1 in
      let b : one_if (test (get_or xs c.0 x)) ≡ 1 = ap (λ (b : Bool). one_if b) (ap test c.2 ∙ t) in
      omega (arith, a, b)

-- the paths of events differ
abbrev paths : History → List (List Side)
paths H = map (λ (e : Entry). e.path) H

record ArePaths (Root : Area) (W : ℕ) (H : History) : Type 0 where
  legal : IsLegal Root W H
  to : (p : List Side) → Contains (paths H) p → (o : Outcome) × (outcome_at H p ≡ Some o)
  once : AllPairs ◌≢◌ (paths H)

paths_step : (Root : Area) (W : ℕ) (H : History) (e : Entry) → ArePaths Root W H → MayFollow Root W H e → ArePaths Root W (H ++ e ∷ [])
paths_step Root W H e old may = record {
  legal = IsLegal-append Root W H e old.legal may;
  to = λ p c. elim (Contains-push_cases (paths H) e.path p (subst (λ (x : List (List Side)). Contains x p) same c)) [
    | inl k ↦ let t = old.to p k in (t.0, outcome_at_stays H (e ∷ []) p t.0 t.1)
    | inr q ↦ (e.outcome, subst (λ (x : List Side). outcome_at (H ++ e ∷ []) x ≡ Some e.outcome) q (outcome_there H e may.fresh))
  ];
  once = subst (AllPairs ◌≢◌) (sym same) (all_pairs_push ◌≢◌ (paths H) e.path old.once (λ k d l q.
      let t = old.to e.path (subst (Contains (paths H)) q (Contains-get_or (paths H) k d l)) in none-some t.0 (sym may.fresh ∙ t.1)));
}
  where
    same : paths (H ++ e ∷ []) ≡ paths H ++ e.path ∷ []
    same = map-append (λ (x : Entry). x.path) H (e ∷ [])

paths_are : (Root : Area) (W : ℕ) (H : History) → IsLegal Root W H → ArePaths Root W H
paths_are Root W H legal = grow (MayFollow Root W) (ArePaths Root W)
    (record { legal = IsLegal-empty Root W; to = λ p c. absurd (let l : c.0 < 0 = c.1 in omega arith); once = λ i j d l m. absurd (omega (arith, m)) })
    (λ G e old may. paths_step Root W G e old may) H legal

-- a row has no more cuts than cells
cuts_paths : (k : ℕ) (H : History) → cuts H k ≤ count_by (λ (p : List Side). length p == k) (paths H)
cuts_paths k [] = omega arith
cuts_paths k (f ∷ H) =
    let a : cuts (f ∷ H) k ≡ one_if (is_cut f.outcome && (length f.path == k)) + cuts H k = sum_by-cons _ f H in
    let b : count_by (λ (p : List Side). length p == k) (paths (f ∷ H)) ≡ one_if (length f.path == k) + count_by (λ (p : List Side). length p == k) (paths H) = sum_by-cons _ f.path (paths H) in
    omega (arith, a, b, fewer (is_cut f.outcome) (length f.path == k), cuts_paths k H)
  where
    fewer : (b c : Bool) → one_if (b && c) ≤ one_if c
    fewer true c = omega arith
    fewer false true = omega arith
    fewer false false = omega arith

count_fewer : (test : List Side → Bool) (xs ys : List (List Side)) → AllPairs ◌≢◌ xs → ((p : List Side) → Contains xs p → Contains ys p) → count_by test xs ≤ count_by test ys
count_fewer test xs ys one sub =
    let a : length (filter test xs) ≡ count_by test xs = length-filter test xs in
    let b : length (filter test ys) ≡ count_by test ys = length-filter test ys in
    let c : length (filter test xs) ≤ length (filter test ys) = length-le_from_is_member (decided path_eq path-decides) (filter test xs) (filter test ys)
    (IsDistinct-from_AllPairs path-decides (filter test xs) (AllPairs-filter ◌≢◌ test xs one)) each in
    omega (arith, a, b, c)
  where
    kept : (zs : List (List Side)) (q : List Side) → is_member path_eq (filter test zs) q ≡ (is_member path_eq zs q && test q)
    kept zs q = is_member-filter (decided path_eq path-decides) test q (λ x e. ap test (same_path q x e)) zs

    and_first : (a b c : Bool) → (a ≡ true → c ≡ true) → (a && b) ≡ true → (c && b) ≡ true
    and_first true b c f e = ap (λ (x : Bool). x && b) (f refl) ∙ e
    and_first false b c f e = absurd (true≢false (sym e))

    each : (q : List Side) → is_member path_eq (filter test xs) q ≡ true → is_member path_eq (filter test ys) q ≡ true
    each q e = kept ys q ∙ and_first _ (test q) _ (λ m. (is_member-Decides path-decides ys q).1 (sub q ((is_member-Decides path-decides xs q).0 m))) (sym (kept xs q) ∙ e)

pub cuts_row : (Root : Area) (W : ℕ) (H : History) (k : ℕ) → IsLegal Root W H → cuts H k ≤ row_of H k
cuts_row Root W H k legal =
    let p = paths_are Root W H legal in
    let a : count_by (λ (p : List Side). length p == k) (paths H) ≤ row_of H k = count_fewer (λ (p : List Side). length p == k) (paths H) (cells_of H) p.once
    (λ q c. let t = p.to q c in (cells_are Root W H legal).from q (cell_of_outcome Root W H legal q t.0 t.1)) in
    omega (arith, a, cuts_paths k H)

-- no more events than cells
pub events_few : (Root : Area) (W : ℕ) (H : History) → IsLegal Root W H → length H ≤ length (cells_of H)
events_few Root W H legal =
    let p = paths_are Root W H legal in
    let a = count_fewer (λ (q : List Side). true) (paths H) (cells_of H) p.once
    (λ q c. let t = p.to q c in (cells_are Root W H legal).from q (cell_of_outcome Root W H legal q t.0 t.1)) in
    let b = count_all (λ (q : List Side). true) (paths H) (λ q c. refl) in
    let d = count_all (λ (q : List Side). true) (cells_of H) (λ q c. refl) in
    omega (arith, a, b, d, length-map H (λ (e : Entry). e.path))

-- no cut where the row is a last one
refine_no_cut : (R : Area) (last : Option Last) (W : ℕ) (o : Outcome) → (last ≡ None → ⊥) → Refines R last W o → is_cut o ≡ false
refine_no_cut R last W (Inside rs) n r = refl
refine_no_cut R last W (Outside c) n r = refl
refine_no_cut R last W (Cut h) n r = absurd (n r.0)
refine_no_cut R last W (Left x) n r = refl

last_room : (b : Bool) (c n : ℕ) → ◌≡◌ {A = Option Last} (if b then Some Depth else (if nat_lt c n then Some Cells else None)) None → n ≤ c
last_room true c n e = absurd (none-some Depth (sym e))
last_room false c n e = by_test (nat_lt c n) refl e
  where
    lt_false : nat_lt c n ≡ false → n ≤ c
    lt_false e = grind (arith, nat_tests)

    by_test : (t : Bool) → nat_lt c n ≡ t → ◌≡◌ {A = Option Last} (if t then Some Cells else None) None → n ≤ c
    by_test true q e = absurd (none-some Cells (sym e))
    by_test false q e = lt_false q

-- where no limit is spent, there is room for two cells more for each that is pending
pub last_fits : (L : Budget) (k c n : ℕ) → last_of L k c n ≡ None → c + 2 * n ≤ L.cells
last_fits L k c n e = last_room (k == L.depth) L.cells (c + 2 * n) e

-- at the greatest depth a limit is spent
pub last_at_depth : (L : Budget) (k c n : ℕ) → k ≡ L.depth → last_of L k c n ≡ None → ⊥
last_at_depth L k c n q e = none-some Depth (sym e ∙ ap (λ (b : Bool). if b then Some Depth else (if nat_lt L.cells (c + 2 * n) then Some Cells else None)) ((Decides-eqb k L.depth).1 q))

none_or_not : (x : Option Last) → (x ≡ None) ⊎ (x ≡ None → ⊥)
none_or_not None = inl refl
none_or_not (Some y) = inr (λ e. none-some y (sym e))

all_zero : (H : History) → AllByRecursion (λ (f : Entry). 0 ≤ length f.path) H
all_zero [] = tt
all_zero (f ∷ H) = (omega arith, all_zero H)

-- a legal history, each event of which is by the plan of the whole
pub record GoesByPlan (Root : Area) (L : Budget) (H : History) : Type 0 where
  pub legal : IsLegal Root L.wits H
  pub each_event : (e : Entry) → Contains H e → IsByPlan Root L H e

pub by_whole : (Root : Area) (L : Budget) (H : History) → IsWhole Root L H → GoesByPlan Root L H
by_whole Root L H whole = record { legal = whole.legal; each_event = whole.each_event }

pub by_planned : (Root : Area) (L : Budget) (H : History) → IsPlanned Root L H → GoesByPlan Root L H
by_planned Root L H planned = record { legal = planned.legal; each_event = events_by_plan Root L H planned }

module _ (Root : Area) (L : Budget) (H : History) (whole : GoesByPlan Root L H) where
  pub last_no_cuts : (k : ℕ) → (last_in L H k ≡ None → ⊥) → cuts H k ≡ 0
  last_no_cuts k n = count_none (λ (e : Entry). is_cut e.outcome && (length e.path == k)) H fails
    where
      and_false : (a b : Bool) → (b ≡ true → a ≡ false) → (a && b) ≡ false
      and_false true true f = f refl
      and_false true false f = refl
      and_false false b f = refl

      fails : (e : Entry) → Contains H e → (is_cut e.outcome && (length e.path == k)) ≡ false
      fails e c = and_false _ _ (λ t.
          let same : length e.path ≡ k = (Decides-eqb (length e.path) k).0 t in
          elim (whole.each_event e c) [
            | inl m ↦ ap is_cut m
            | inr r ↦ refine_no_cut _ (last_in L H (length e.path)) L.wits e.outcome (λ q. n (subst (λ (i : ℕ). last_in L H i ≡ None) same q)) r
          ])

  first_row : upto H 0 ≡ 1
  first_row =
      let a : upto H 0 ≡ 1 + count_by (λ (p : List Side). nat_le (length p) 0) (parts_all H) = sum_by-cons _ [] (parts_all H) in
      let b : count_by (λ (p : List Side). nat_le (length p) 0) (parts_all H) ≡ 0 = none_counted (λ (p : List Side). nat_le (length p) 0) 0 (λ f s l. le_fails _ (length f.path) 0 (length-append f.path (s ∷ [])) l) H (all_zero H) in
      omega (arith, a, b)

  -- at most C cells down to each row
  pub upto_within : 1 ≤ L.cells → (k : ℕ) → upto H k ≤ L.cells
  upto_within some zero = omega (arith, first_row)
  upto_within some (suc k) =
      let rest : upto H k ≤ L.cells = upto_within some k in
      let grown : upto H (k + 1) ≤ L.cells = elim (none_or_not (last_in L H k)) [
        | inl e ↦ let room : upto H k + 2 * row_of H k ≤ L.cells = last_room (k == L.depth) L.cells (upto H k + 2 * row_of H k) e in
            omega (arith, room, upto_next H k, row_next H k, cuts_row Root L.wits H k whole.legal)
        | inr n ↦ omega (arith, rest, upto_next H k, row_next H k, last_no_cuts k n)
      ] in
      let same : k + 1 ≡ suc k = omega arith in
      subst (λ (i : ℕ). upto H i ≤ L.cells) same grown

  depth_last : last_in L H L.depth ≡ None → ⊥
  depth_last e = none-some Depth (sym e ∙ ap (λ (b : Bool). if b then Some Depth else (if nat_lt L.cells (upto H L.depth + 2 * row_of H L.depth) then Some Cells else None)) ((Decides-eqb L.depth L.depth).1 refl))

  below_none : (j : ℕ) → row_of H (L.depth + j + 1) ≡ 0
  below_none zero = let a = last_no_cuts L.depth depth_last in let b = row_next H L.depth in let same : L.depth + 0 + 1 ≡ L.depth + 1 = omega arith in ap (row_of H) same ∙ (omega (arith, a, b))
  below_none (suc j) =
      let a : row_of H (L.depth + j + 1) ≡ 0 = below_none j in
      let b = row_next H (L.depth + j + 1) in
      let c = cuts_row Root L.wits H (L.depth + j + 1) whole.legal in
      let same : L.depth + suc j + 1 ≡ L.depth + j + 1 + 1 = omega arith in
      ap (row_of H) same ∙ (omega (arith, a, b, c))

  -- no cell is deeper than D
  pub depth_within : (p : List Side) → IsCellOf (outcome_at H) p → length p ≤ L.depth
  depth_within p c =
      let no : L.depth < length p → ⊥ = λ l.
      let j : ℕ = length p - (L.depth + 1) in
      let same : L.depth + j + 1 ≡ length p = omega arith in
      let a : 1 ≤ row_of H (length p) = count_some (λ (q : List Side). length q == length p) (cells_of H) p ((cells_are Root L.wits H whole.legal).from p c) ((Decides-eqb (length p) (length p)).1 refl) in
      let b : row_of H (length p) ≡ 0 = ap (row_of H) (sym same) ∙ below_none j in
      omega (arith, a, b) in
      omega (arith, no)

  -- at most C cells in all
  pub cells_within : 1 ≤ L.cells → length (cells_of H) ≤ L.cells
  cells_within some =
      let a : upto H L.depth ≡ length (cells_of H) = count_all (λ (p : List Side). nat_le (length p) L.depth) (cells_of H) (λ p c. le_holds (length p) L.depth (depth_within p ((cells_are Root L.wits H whole.legal).to p c))) in
      omega (arith, a, upto_within some L.depth)
    where
      le_holds : (a k : ℕ) → a ≤ k → nat_le a k ≡ true
      le_holds a k l = grind (arith, nat_tests)

module _ (Root : Area) (L : Budget) (H : History) (whole : IsWhole Root L H) where
  pub depth_bound : (p : List Side) → IsCellOf (outcome_at H) p → length p ≤ L.depth
  depth_bound = depth_within Root L H (by_whole Root L H whole)

  pub cells_bound : 1 ≤ L.cells → length (cells_of H) ≤ L.cells
  cells_bound = cells_within Root L H (by_whole Root L H whole)
