-- What the spots of a tree say of it.
use Rattle.std.proofs.Common.{◌≡◌, ◌≢◌, ℕ, zero, suc, ◌<◌, Bool, true, false, cond, List, [], ◌∷◌, map, length, get_or, slice_get, refl, sym, ap, subst, ◌∙◌, arith, Some, None}
use Rattle.std.specs.List.{AllPairs}
use Rattle.std.specs.declared.option.Option.{Option}
use Rattle.std.specs.FinMap as finite
use Rattle.std.specs.Cmp.Lexicographic.{slice_cmp}
use Rattle.std.proofs.lemmas.Option.{none-some, same_Some, slice_get_within}
use Rattle.std.proofs.lemmas.List.{length-map}
use Rattle.srs_path.specs.declared.paths.Side.{Side}
use Rattle.srs_path.specs.declared.outcomes.Outcome.{Outcome}
use Rattle.srs_tree.specs.Tree.{path_eq}
use Rattle.srs_tree.specs.Snapshots.{side_cmp}
use Rattle.srs_tree.specs.Nodes.{Spot, entered, entries_of, spots_tree}
use Rattle.srs_tree.proofs.HistoryLemmas.{same_path, path_eq_same, or_else}
use Rattle.srs_tree.proofs.StandsLemmas.{path_total, ties}

abbrev pub paths_of : List Spot → List (List Side)
paths_of xs = map (λ x. x.path) xs

-- what the first spot has at a path
abbrev pub here : Spot → List Side → Option Outcome
here x p = cond (path_eq x.path p) x.outcome None

pub tree-cons : (x : Spot) (xs : List Spot) (p : List Side) → spots_tree (x ∷ xs) p ≡ or_else (here x p) (spots_tree xs p)
tree-cons x xs p = by_outcome x.outcome
  where
    by_outcome : (o : Option Outcome) → finite.get (entered (entries_of xs) x.path o) p ≡ or_else (cond (path_eq x.path p) o None) (spots_tree xs p)
    by_outcome None = elim (path_eq x.path p) as (λ b. spots_tree xs p ≡ or_else (cond b None None) (spots_tree xs p)) [ true ↦ refl | false ↦ refl ]
    by_outcome (Some o) =
        finite.get-insert path_total (entries_of xs) x.path o p
        ∙ ap (λ (b : Bool). cond b (Some o) (spots_tree xs p)) (ties p x.path)
        ∙ elim (path_eq x.path p) as (λ b. cond b (Some o) (spots_tree xs p) ≡ or_else (cond b (Some o) None) (spots_tree xs p)) [ true ↦ refl | false ↦ refl ]

-- a spot with this path and this outcome
pub record HasSpot (xs : List Spot) (p : List Side) (o : Outcome) : Type 0 where
  pub place : ℕ
  pub spot : Spot
  pub is : slice_get xs place ≡ Some spot
  pub path : spot.path ≡ p
  pub outcome : spot.outcome ≡ Some o

further : (x : Spot) (xs : List Spot) (p : List Side) (o : Outcome) → HasSpot xs p o → HasSpot (x ∷ xs) p o
further x xs p o t = record { place = suc t.place; spot = t.spot; is = t.is; path = t.path; outcome = t.outcome }

by_outcome : (x : Spot) (xs : List Spot) (p : List Side) (o : Outcome) → (spots_tree xs p ≡ Some o → HasSpot (x ∷ xs) p o) → x.path ≡ p → or_else x.outcome (spots_tree xs p) ≡ Some o → HasSpot (x ∷ xs) p o
by_outcome x xs p o rest q f = elim x.outcome as (λ w. x.outcome ≡ w → or_else w (spots_tree xs p) ≡ Some o → HasSpot (x ∷ xs) p o) [
  | None ↦ λ is g. rest g
  | Some u ↦ λ is g. record { place = 0; spot = x; is = refl; path = q; outcome = is ∙ g }
] refl f

pub tree_some : (xs : List Spot) (p : List Side) (o : Outcome) → spots_tree xs p ≡ Some o → HasSpot xs p o
tree_some [] p o e = absurd (none-some o (sym (finite.get-empty (slice_cmp side_cmp) p) ∙ e))
tree_some (x ∷ xs) p o e =
    let rest : spots_tree xs p ≡ Some o → HasSpot (x ∷ xs) p o = λ f. further x xs p o (tree_some xs p o f) in
    elim (path_eq x.path p) as (λ b. path_eq x.path p ≡ b → or_else (cond b x.outcome None) (spots_tree xs p) ≡ Some o → HasSpot (x ∷ xs) p o) [
      | true ↦ λ q f. by_outcome x xs p o rest (same_path x.path p q) f
      | false ↦ λ q f. rest f
    ] refl (sym (tree-cons x xs p) ∙ e)

pub tail_once : (x : Spot) (xs : List Spot) → AllPairs ◌≢◌ (paths_of (x ∷ xs)) → AllPairs ◌≢◌ (paths_of xs)
tail_once x xs once i j d l m = once (suc i) (suc j) d (omega arith) (omega arith)

pub path_at : (xs : List Spot) (i : ℕ) (x : Spot) (d : List Side) → slice_get xs i ≡ Some x → get_or (paths_of xs) i d ≡ x.path
path_at [] i x d e = absurd (none-some x e)
path_at (y ∷ xs) zero x d e = ap (λ (z : Spot). z.path) (same_Some y x e)
path_at (y ∷ xs) (suc i) x d e = path_at xs i x d e

-- the first spot has no path of a later one
pub head_apart : (x : Spot) (xs : List Spot) → AllPairs ◌≢◌ (paths_of (x ∷ xs)) → (i : ℕ) (y : Spot) → slice_get xs i ≡ Some y → x.path ≡ y.path → ⊥
head_apart x xs once i y e q =
    let l : i < length (paths_of xs) = omega (arith, slice_get_within xs i y e, length-map xs (λ (z : Spot). z.path)) in
    once 0 (suc i) x.path (omega arith) (omega arith) (q ∙ sym (path_at xs i y x.path e))

-- where no spot has the path, the tree has nothing there
pub tree_none : (xs : List Spot) (p : List Side) → ((i : ℕ) (x : Spot) → slice_get xs i ≡ Some x → x.path ≡ p → ⊥) → spots_tree xs p ≡ None
tree_none xs p none = by_tree (spots_tree xs p) refl
  where
    by_tree : (w : Option Outcome) → spots_tree xs p ≡ w → spots_tree xs p ≡ None
    by_tree None e = e
    by_tree (Some o) e = let t = tree_some xs p o e in absurd (none t.place t.spot t.is t.path)

-- the tree has each spot's outcome at its path
pub tree_there : (xs : List Spot) → AllPairs ◌≢◌ (paths_of xs) → (i : ℕ) (x : Spot) → slice_get xs i ≡ Some x → spots_tree xs x.path ≡ x.outcome
tree_there [] once i x e = absurd (none-some x e)
tree_there (y ∷ xs) once zero x e =
    let same : y ≡ x = same_Some y x e in
    subst (λ (z : Spot). spots_tree (y ∷ xs) z.path ≡ z.outcome) same
    (tree-cons y xs y.path ∙ ap (λ (b : Bool). or_else (cond b y.outcome None) (spots_tree xs y.path)) (path_eq_same y.path)
    ∙ ap (or_else y.outcome) (tree_none xs y.path (λ i x e q. head_apart y xs once i x e (sym q))) ∙ or_none y.outcome)
  where
    or_none : (w : Option Outcome) → or_else w None ≡ w
    or_none None = refl
    or_none (Some o) = refl
tree_there (y ∷ xs) once (suc i) x e =
    tree-cons y xs x.path
    ∙ ap (λ (w : Option Outcome). or_else w (spots_tree xs x.path)) (apart (path_eq y.path x.path) refl)
    ∙ tree_there xs (tail_once y xs once) i x e
  where
    apart : (b : Bool) → path_eq y.path x.path ≡ b → here y x.path ≡ None
    apart true q = absurd (head_apart y xs once i x e (same_path y.path x.path q))
    apart false q = ap (λ (b : Bool). cond b y.outcome None) q
