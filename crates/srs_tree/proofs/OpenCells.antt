-- The open cells of a tree, and how they change with an outcome.
use Rattle.std.proofs.Common.{◌≡◌, ◌≢◌, ℕ, zero, suc, ◌+◌, Bool, true, false, not, cond, List, [], ◌∷◌, ◌++◌, map, take, length, slice_get, refl, sym, ap, ap₂, ◌∙◌, arith, append_assoc, append-nil, Some, None}
use Rattle.std.specs.Prelude.{slice_set}
use Rattle.std.specs.List.{AllPairs}
use Rattle.std.specs.declared.option.Option.{Option}
use Rattle.std.proofs.lemmas.Option.{none-some, same_Some}
use Rattle.srs_path.specs.declared.paths.Side.{Side}
use Rattle.srs_path.specs.declared.outcomes.Outcome.{Outcome}
use Rattle.srs_path.specs.declared.outcomes.Outcome.TheVariants.{Inside, Outside, Cut, Left}
use Rattle.srs_tree.specs.Tree.{path_eq}
use Rattle.srs_tree.specs.Queue.{WaitingCell, without}
use Rattle.srs_tree.specs.Nodes.{Spot, waiting_of, if_open, open_cells, parts_from, spot_with, grown}
use Rattle.srs_tree.proofs.HistoryLemmas.{same_path, path_eq_same}
use Rattle.srs_tree.proofs.Spots.{paths_of, tail_once, head_apart}

pub open-append : (xs ys : List Spot) → open_cells (xs ++ ys) ≡ open_cells xs ++ open_cells ys
open-append [] ys = refl
open-append (x ∷ xs) ys = ap (λ (u : List WaitingCell). if_open x x.outcome ++ u) (open-append xs ys) ∙ sym (append_assoc (if_open x x.outcome) (open_cells xs) (open_cells ys))

pub open_one : (x : Spot) → open_cells (x ∷ []) ≡ if_open x x.outcome
open_one x = append-nil (if_open x x.outcome)

-- the parts are open
pub open_parts : (x : Spot) (o : Outcome) → open_cells (parts_from x o) ≡ map waiting_of (parts_from x o)
open_parts x (Inside ranks) = refl
open_parts x (Outside cycle) = refl
open_parts x (Cut h) = refl
open_parts x (Left cause) = refl

differs : (p q : List Side) → (p ≡ q → ⊥) → (b : Bool) → path_eq p q ≡ b → b ≡ false
differs p q n true t = absurd (n (same_path p q t))
differs p q n false t = refl

-- a spot with another path stays
other_stays : (path : List Side) (x : Spot) (u : Option Outcome) (cells : List WaitingCell) → (x.path ≡ path → ⊥) → without path (if_open x u ++ cells) ≡ if_open x u ++ without path cells
other_stays path x None cells n =
    ap (λ (b : Bool). cond (not b) (waiting_of x ∷ without path cells) (without path cells)) (differs path x.path (λ e. n (sym e)) (path_eq path x.path) refl)
other_stays path x (Some o) cells n = refl

all_stay : (path : List Side) (xs : List Spot) → ((i : ℕ) (y : Spot) → slice_get xs i ≡ Some y → y.path ≡ path → ⊥) → without path (open_cells xs) ≡ open_cells xs
all_stay path [] n = refl
all_stay path (x ∷ xs) n =
    other_stays path x x.outcome (open_cells xs) (n 0 x refl)
    ∙ ap (λ (u : List WaitingCell). if_open x x.outcome ++ u) (all_stay path xs (λ i y e. n (suc i) y e))

-- where the open spot x gets an outcome, it is no longer among the open cells
settled : (xs : List Spot) (i : ℕ) (x v : Spot) (o : Outcome) → AllPairs ◌≢◌ (paths_of xs) → slice_get xs i ≡ Some x → x.outcome ≡ None → v.outcome ≡ Some o → open_cells (slice_set xs i v) ≡ without x.path (open_cells xs)
settled [] i x v o once e fresh q = absurd (none-some x e)
settled (y ∷ xs) zero x v o once e fresh q =
    let same : y ≡ x = same_Some y x e in
    let mine : without x.path (open_cells (y ∷ xs)) ≡ without x.path (waiting_of x ∷ open_cells xs)
    = ap (λ (z : Spot). without x.path (if_open z z.outcome ++ open_cells xs)) same ∙ ap (λ (u : Option Outcome). without x.path (if_open x u ++ open_cells xs)) fresh in
    let gone : without x.path (waiting_of x ∷ open_cells xs) ≡ without x.path (open_cells xs)
    = ap (λ (b : Bool). cond (not b) (waiting_of x ∷ without x.path (open_cells xs)) (without x.path (open_cells xs))) (path_eq_same x.path) in
    let apart : (j : ℕ) (z : Spot) → slice_get xs j ≡ Some z → z.path ≡ x.path → ⊥
    = λ j z f g. head_apart y xs once j z f (ap (λ (u : Spot). u.path) same ∙ sym g) in
    ap (λ (u : Option Outcome). if_open v u ++ open_cells xs) q ∙ sym (mine ∙ gone ∙ all_stay x.path xs apart)
settled (y ∷ xs) (suc i) x v o once e fresh q =
    ap (λ (u : List WaitingCell). if_open y y.outcome ++ u) (settled xs i x v o (tail_once y xs once) e fresh q)
    ∙ sym (other_stays x.path y y.outcome (open_cells xs) (λ g. head_apart y xs once i x e g))

-- the open cells after an outcome
pub open_after : (xs : List Spot) (i : ℕ) (x : Spot) (o : Outcome) → AllPairs ◌≢◌ (paths_of xs) → slice_get xs i ≡ Some x → x.outcome ≡ None → open_cells (grown xs i x o) ≡ without x.path (open_cells xs) ++ map waiting_of (parts_from x o)
open_after xs i x o once e fresh =
    open-append (slice_set xs i (spot_with x o (length xs))) (parts_from x o)
    ∙ ap₂ (λ (u v : List WaitingCell). u ++ v) (settled xs i x (spot_with x o (length xs)) o once e fresh refl) (open_parts x o)

-- one spot more
pub open_next : (xs : List Spot) (i : ℕ) (x : Spot) (u : Option Outcome) → slice_get xs i ≡ Some x → x.outcome ≡ u → open_cells (take (i + 1) xs) ≡ open_cells (take i xs) ++ if_open x u
open_next [] i x u e q = absurd (none-some x e)
open_next (y ∷ xs) zero x u e q =
    open_one y ∙ ap (λ (z : Spot). if_open z z.outcome) (same_Some y x e) ∙ ap (if_open x) q
open_next (y ∷ xs) (suc i) x u e q =
    let n : suc i + 1 ≡ suc (i + 1) = omega arith in
    ap (λ (m : ℕ). open_cells (take m (y ∷ xs))) n
    ∙ ap (λ (w : List WaitingCell). if_open y y.outcome ++ w) (open_next xs i x u e q)
    ∙ sym (append_assoc (if_open y y.outcome) (open_cells (take i xs)) (if_open x u))
