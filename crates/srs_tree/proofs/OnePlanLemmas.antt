-- There is one plan at most.
use Rattle.std.proofs.Common.{◌≡◌, ◌≢◌, inl, inr, ℕ, zero, suc, ◌+◌, ◌<◌, ◌≤◌, Bool, true, false, cond, ◌&&◌, List, [], ◌∷◌, ◌++◌, take, drop, slice_get, length, length-append, refl, sym, ap, ap₂, subst, ◌∙◌, arith, append-nil, take-append-drop}
use Rattle.std.specs.Prelude.{◌==◌, nat_le, count_by, Contains}
use Rattle.std.specs.Bool.{Decides}
use Rattle.std.specs.List.{AllPairs, filter}
use Rattle.std.specs.Set.{is_member}
use Rattle.std.specs.Cmp.{decided}
use Rattle.std.proofs.Math.Decide.{dec_lt}
use Rattle.std.proofs.lemmas.Bool.Decides.{nat_tests, same_from_decides, Decides-eqb}
use Rattle.std.proofs.lemmas.Option.{none-some, same_Some, slice_get_within, get_or_from_slice_get}
use Rattle.std.proofs.lemmas.List.Kept.{AllPairs-filter}
use Rattle.std.proofs.lemmas.List.Sums.{length-filter}
use Rattle.std.proofs.lemmas.Map.Made.{length-from_same_keys, is_member-filter, is_member-Decides, IsDistinct-from_AllPairs}
use Rattle.std.specs.declared.option.Option.{Option}
use Rattle.std.specs.declared.option.Option.TheVariants.{Some, None}
use Rattle.srs_num.specs.Points.{Point, LinearForm, value}
use Rattle.srs_plane.specs.Regions.{Area, IsIn, HasPoint}
use Rattle.srs_plane.proofs.Members.{IsIn-push}
use Rattle.srs_path.specs.declared.paths.Side.{Side}
use Rattle.srs_path.specs.declared.paths.Side.TheVariants.{Ge, Lt}
use Rattle.srs_path.specs.declared.outcomes.Outcome.{Outcome}
use Rattle.srs_path.specs.declared.outcomes.Outcome.TheVariants.{Cut}
use Rattle.srs_path.specs.declared.limits.Last.{Last}
use Rattle.srs_path.specs.Views.{Budget}
use Rattle.srs_path.specs.Views.{Entry}
use Rattle.srs_path.specs.Refinement.{Refines}
use Rattle.srs_path.specs.Soundness.{IsSound}
use Rattle.srs_path.proofs.OutcomeOnce.{outcome_once}
use Rattle.srs_tree.specs.Tree.{History, path_eq, outcome_at, IsCellOf, region_at, halves_along, cut_half, half_on}
use Rattle.srs_tree.specs.Legality.{MayFollow, IsLegal}
use Rattle.srs_tree.specs.Rounds.{cells_of, upto, row_of, last_in, IsPlan, HaveSameEntries, PlansAreSame}
use Rattle.srs_tree.proofs.HistoryLemmas.{path_eq_same, same_path, region_at-snoc}
use Rattle.srs_tree.proofs.TreeLemmas.{cell_of_outcome, region_at_stays}
use Rattle.srs_tree.proofs.TreeCut.{on_side, Sign}
use Rattle.srs_tree.proofs.CellsLemmas.{cells_are}
use Rattle.srs_tree.proofs.PartitionAll.{IsLegal-first}
use Rattle.srs_tree.proofs.PlannedWhole.{some_is, last_same}

pub path-decides : (p q : List Side) → Decides (path_eq p q) (p ≡ q)
path-decides p q = (same_path p q, λ e. subst (λ (x : List Side). path_eq p x ≡ true) e (path_eq_same p))

-- lists of pairwise different paths with the same paths that pass a test have as many of them
module _ (test : List Side → Bool) (xs ys : List (List Side)) (forth : (p : List Side) → test p ≡ true → Contains xs p → Contains ys p) (back : (p : List Side) → test p ≡ true → Contains ys p → Contains xs p) where
  none_passes : (a b : Bool) → (a && false) ≡ (b && false)
  none_passes true true = refl
  none_passes true false = refl
  none_passes false true = refl
  none_passes false false = refl

  members : (q : List Side) → test q ≡ true → is_member path_eq xs q ≡ is_member path_eq ys q
  members q t =
      let d = is_member-Decides path-decides xs q in
      let e = is_member-Decides path-decides ys q in
      same_from_decides _ _ d (λ g. back q t (e.0 g), λ c. e.1 (forth q t c))

  both : (q : List Side) → (is_member path_eq xs q && test q) ≡ (is_member path_eq ys q && test q)
  both q = elim (test q) as (λ b. test q ≡ b → (is_member path_eq xs q && b) ≡ (is_member path_eq ys q && b)) [
    | true ↦ λ t. ap (λ (b : Bool). b && true) (members q t)
    | false ↦ λ t. none_passes _ _
  ] refl

  kept : (zs : List (List Side)) (q : List Side) → is_member path_eq (filter test zs) q ≡ (is_member path_eq zs q && test q)
  kept zs q = is_member-filter (decided path_eq path-decides) test q (λ x e. ap test (same_path q x e)) zs

  pub count_same : AllPairs ◌≢◌ xs → AllPairs ◌≢◌ ys → count_by test xs ≡ count_by test ys
  count_same one two =
      sym (length-filter test xs)
      ∙ length-from_same_keys (decided path_eq path-decides) (filter test xs) (filter test ys)
      (IsDistinct-from_AllPairs path-decides (filter test xs) (AllPairs-filter ◌≢◌ test xs one))
      (IsDistinct-from_AllPairs path-decides (filter test ys) (AllPairs-filter ◌≢◌ test ys two))
      (λ q. kept xs q ∙ both q ∙ sym (kept ys q))
      ∙ length-filter test ys

-- the two histories have the same outcomes on paths shorter than k
abbrev pub Agree : History → History → ℕ → Type 0
Agree G H k = (p : List Side) → length p < k → outcome_at G p ≡ outcome_at H p

turned : (G H : History) (k : ℕ) → Agree G H k → Agree H G k
turned G H k agree p l = sym (agree p l)

pub cell_agree : (G H : History) (k : ℕ) → Agree G H k → (p : List Side) → length p ≤ k → IsCellOf (outcome_at G) p → IsCellOf (outcome_at H) p
cell_agree G H k agree p l (inl e) = inl e
cell_agree G H k agree p l (inr c) =
    inr (record { parent = c.parent; side = c.side; form = c.form; is = c.is; cut = sym (agree c.parent (omega (arith, ap length c.is, length-append c.parent (c.side ∷ [])))) ∙ c.cut })

halves_agree : (G H : History) (k : ℕ) → Agree G H k → (above rest : List Side) → length above + length rest ≤ k → halves_along (outcome_at G) above rest ≡ halves_along (outcome_at H) above rest
halves_agree G H k agree above [] l = refl
halves_agree G H k agree above (s ∷ rest) l =
    ap₂ (λ (o : Option Outcome) (x : Area). cut_half o s ++ x) (agree above (omega arith)) (halves_agree G H k agree (above ++ s ∷ []) rest (omega (arith, length-append above (s ∷ []))))

pub region_agree : (Root : Area) (G H : History) (k : ℕ) → Agree G H k → (p : List Side) → length p ≤ k → region_at Root (outcome_at G) p ≡ region_at Root (outcome_at H) p
region_agree Root G H k agree p l = ap (λ (x : Area). Root ++ x) (halves_agree G H k agree [] p (omega arith))

le_holds : (a k : ℕ) → nat_le a k ≡ true → a ≤ k
le_holds a k e = grind (arith, nat_tests)

module _ (Root : Area) (W : ℕ) (G H : History) (k : ℕ) (one : IsLegal Root W G) (two : IsLegal Root W H) (agree : Agree G H k) where
  listed : (K M : History) → IsLegal Root W K → IsLegal Root W M → Agree K M k → (p : List Side) → length p ≤ k → Contains (cells_of K) p → Contains (cells_of M) p
  listed K M a b g p l c = (cells_are Root W M b).from p (cell_agree K M k g p l ((cells_are Root W K a).to p c))

  pub upto_agree : upto G k ≡ upto H k
  upto_agree = count_same (λ p. nat_le (length p) k) (cells_of G) (cells_of H)
      (λ p t c. listed G H one two agree p (le_holds _ k t) c) (λ p t c. listed H G two one (turned G H k agree) p (le_holds _ k t) c)
      (cells_are Root W G one).once (cells_are Root W H two).once

  pub row_agree : row_of G k ≡ row_of H k
  row_agree = count_same (λ p. length p == k) (cells_of G) (cells_of H)
      (λ p t c. let e : length p ≡ k = (Decides-eqb (length p) k).0 t in listed G H one two agree p (omega arith) c)
      (λ p t c. let e : length p ≡ k = (Decides-eqb (length p) k).0 t in listed H G two one (turned G H k agree) p (omega arith) c)
      (cells_are Root W G one).once (cells_are Root W H two).once

abbrev entry_at : List Side → Outcome → Entry
entry_at p o = record { path = p; outcome = o }

-- the place of the event that gives a path its outcome
pub place_of : (H : History) (p : List Side) (o : Outcome) → outcome_at H p ≡ Some o → (k : ℕ) × (slice_get H k ≡ Some (entry_at p o))
place_of [] p o e = absurd (none-some o e)
place_of (x ∷ H) p o e =
    let rest = place_of H p o in
    elim (path_eq x.path p) as (λ b. path_eq x.path p ≡ b → cond b (Some x.outcome) (outcome_at H p) ≡ Some o → (k : ℕ) × (slice_get (x ∷ H) k ≡ Some (entry_at p o))) [
      | true ↦ λ q f. (0, ap₂ (λ (u : List Side) (v : Outcome). Some (entry_at u v)) (same_path x.path p q) (same_Some x.outcome o f))
      | false ↦ λ q f. let t = rest f in (suc t.0, t.1)
    ] refl e

pub has_event : (H : History) (p : List Side) (o : Outcome) → outcome_at H p ≡ Some o → Contains H (entry_at p o)
has_event H p o e = let t = place_of H p o e in
    (t.0, slice_get_within H t.0 (entry_at p o) t.1, get_or_from_slice_get H t.0 (entry_at p o) (entry_at p o) t.1)

-- each outcome of a legal history is sound on its cell
pub sound_at : (Root : Area) (W : ℕ) (H : History) → IsLegal Root W H → (p : List Side) (o : Outcome) → outcome_at H p ≡ Some o → IsSound (region_at Root (outcome_at H) p) W o
sound_at Root W H legal p o e =
    let t = place_of H p o e in
    let G : History = take t.0 H in
    let K : History = drop t.0 H in
    let joined : G ++ K ≡ H = take-append-drop t.0 H in
    let may : MayFollow Root W G (entry_at p o) = legal t.0 (entry_at p o) t.1 in
    let early : IsLegal Root W G = IsLegal-first Root W G K (subst (IsLegal Root W) (sym joined) legal) in
    let same : region_at Root (outcome_at (G ++ K)) p ≡ region_at Root (outcome_at G) p = region_at_stays Root W G early K p may.there in
    subst (λ (u : History). IsSound (region_at Root (outcome_at u) p) W o) joined (subst (λ (R : Area). IsSound R W o) (sym same) may.sound)

-- each cell of a legal history has a point
module _ (Root : Area) (W : ℕ) (H : History) (some : HasPoint Root) (legal : IsLegal Root W H) where
  pub side_point : (p : List Side) (h : LinearForm) (s : Side) → outcome_at H p ≡ Some (Cut h) → (r : Point) × IsIn (region_at Root (outcome_at H) p) r × Sign s (value h r)
  side_point p h Ge e = (sound_at Root W H legal p (Cut h) e).not_below
  side_point p h Lt e = (sound_at Root W H legal p (Cut h) e).below

  pub cell_point : (p : List Side) → IsCellOf (outcome_at H) p → HasPoint (region_at Root (outcome_at H) p)
  cell_point p (inl e) = subst HasPoint (sym (append-nil Root) ∙ ap (region_at Root (outcome_at H)) (sym e)) some
  cell_point p (inr c) =
      let t = side_point c.parent c.form c.side c.cut in
      let same : region_at Root (outcome_at H) p ≡ region_at Root (outcome_at H) c.parent ++ half_on c.side c.form ∷ [] =
      ap (region_at Root (outcome_at H)) c.is ∙ region_at-snoc Root (outcome_at H) c.parent c.side ∙ ap (λ (o : Option Outcome). region_at Root (outcome_at H) c.parent ++ cut_half o c.side) c.cut in
      (t.0, subst (λ (R : Area). IsIn R t.0) (sym same) (IsIn-push (region_at Root (outcome_at H) c.parent) (half_on c.side c.form) t.0 t.1 (on_side c.side c.form t.0 t.2)))

-- what a plan has at a path is the outcome of its cell
pub refined_at : (Root : Area) (L : Budget) (H : History) → IsPlan Root L H → (p : List Side) (o : Outcome) → outcome_at H p ≡ Some o → Refines (region_at Root (outcome_at H) p) (last_in L H (length p)) L.wits o
refined_at Root L H plan p o e =
    let c : Contains H (entry_at p o) = has_event H p o e in
    elim (plan.whole.each_event (entry_at p o) c) [ inl m ↦ absurd (plan.no_memory (entry_at p o) c m) | inr r ↦ r ]

by_lt : {P : Type 0} (a b : ℕ) → (a < b → P) → (a ≡ b → P) → (b < a → P) → P
by_lt {P} a b l e g = elim (dec_lt a b) as (λ _. P) [ yes h ↦ l h | no h ↦ elim (dec_lt b a) as (λ _. P) [ yes k ↦ g k | no k ↦ e (omega arith) ] ]

module _ (Root : Area) (L : Budget) where
  -- what the first plan has at a path of length k, the second has too
  has_too : (G H : History) → IsPlan Root L G → IsPlan Root L H → (k : ℕ) → Agree G H k → (p : List Side) → length p ≡ k → (o : Outcome) → outcome_at G p ≡ Some o → outcome_at H p ≡ Some o
  has_too G H one two k agree p l o e =
      let short : length p ≤ k = omega arith in
      let here : IsCellOf (outcome_at G) p = cell_of_outcome Root L.wits G one.whole.legal p o e in
      let there : IsCellOf (outcome_at H) p = cell_agree G H k agree p short here in
      let t = some_is (outcome_at H p) (two.whole.each_cell p there) in
      let last : last_in L G k ≡ last_in L H k = last_same L G H k (upto_agree Root L.wits G H k one.whole.legal two.whole.legal agree) (row_agree Root L.wits G H k one.whole.legal two.whole.legal agree) in
      let last_p : last_in L G (length p) ≡ last_in L H (length p) = subst (λ (n : ℕ). last_in L G n ≡ last_in L H n) (sym l) last in
      let region : region_at Root (outcome_at G) p ≡ region_at Root (outcome_at H) p = region_agree Root G H k agree p short in
      let a : Refines (region_at Root (outcome_at H) p) (last_in L H (length p)) L.wits o =
      subst (λ (R : Area). Refines R (last_in L H (length p)) L.wits o) region (subst (λ (x : Option Last). Refines (region_at Root (outcome_at G) p) x L.wits o) last_p (refined_at Root L G one p o e)) in
      let same : o ≡ t.0 = outcome_once (region_at Root (outcome_at H) p) L.wits (last_in L H (length p)) o t.0 a (refined_at Root L H two p t.0 t.1) in
      t.1 ∙ ap Some (sym same)

  both_ways : (x y : Option Outcome) → ((o : Outcome) → x ≡ Some o → y ≡ Some o) → ((o : Outcome) → y ≡ Some o → x ≡ Some o) → x ≡ y
  both_ways None None f g = refl
  both_ways None (Some o) f g = g o refl
  both_ways (Some o) y f g = sym (f o refl)

  agree_to : (G H : History) → IsPlan Root L G → IsPlan Root L H → (k : ℕ) → Agree G H k
  agree_to G H one two zero p l = absurd (omega arith)
  agree_to G H one two (suc k) p l =
      let below : Agree G H k = agree_to G H one two k in
      by_lt (length p) k (below p)
      (λ e. both_ways (outcome_at G p) (outcome_at H p) (has_too G H one two k below p e) (has_too H G two one k (turned G H k below) p e))
      (λ m. absurd (omega arith))

  plans_agree : (G H : History) → IsPlan Root L G → IsPlan Root L H → HaveSameEntries G H
  plans_agree G H one two p = agree_to G H one two (suc (length p)) p (omega arith)

pub one_plan : PlansAreSame
one_plan Root L G H one two = plans_agree Root L G H one two
