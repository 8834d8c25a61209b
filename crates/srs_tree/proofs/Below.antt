-- The part of the preorder below a spot.
use Rattle.std.proofs.Common.{◌≡◌, ℕ, ◌+◌, ◌<◌, Bool, true, false, List, [], ◌∷◌, ◌++◌, map, length, length-append, get_or, slice_get, refl, sym, ap, ap₂, subst, ◌∙◌, arith, append_assoc, append-nil, Some, None}
use Rattle.std.specs.Prelude.{OnOk, Ok, Err}
use Rattle.std.specs.declared.result.Result.{Result}
use Rattle.std.specs.List.{filter}
use Rattle.std.specs.declared.option.Option.{Option}
use Rattle.std.specs.FinMap as finite
use Rattle.std.proofs.lemmas.Option.{none-some}
use Rattle.std.proofs.lemmas.List.{map-append}
use Rattle.srs_num.specs.Points.{LinearForm}
use Rattle.srs_path.specs.declared.paths.Side.{Side}
use Rattle.srs_path.specs.declared.paths.Side.TheVariants.{Ge, Lt}
use Rattle.srs_path.specs.declared.outcomes.Outcome.{Outcome}
use Rattle.srs_path.specs.declared.outcomes.Outcome.TheVariants.{Cut}
use Rattle.srs_path.specs.Views.{Entry}
use Rattle.srs_tree.specs.Tree.{History, IsCellOf}
use Rattle.srs_tree.specs.Snapshots.{Entries, Snapshot}
use Rattle.srs_tree.specs.Nodes.{Spot, entries_of, snapshot_of, spots_tree, AreSpots}
use Rattle.srs_tree.specs.Preorder.{event_of, begins, preorder_of, preorder_below}
use Rattle.srs_tree.proofs.Trees.{none_below}
use Rattle.srs_tree.proofs.Spots.{tree_there}
use Rattle.srs_tree.proofs.Descent.{spots_closed}
use Rattle.srs_tree.proofs.Sorted.{Pair, before, below, entry_list, split, own_entry, entry_found, none_pass, begun}

abbrev depth_of : Option Spot → ℕ
depth_of None = 0
depth_of (Some x) = length x.path

-- how long the path at the place i is
abbrev pub depth_at : List Spot → ℕ → ℕ
depth_at xs i = depth_of (slice_get xs i)

module _ (m : Entries) (closed : (p : List Side) (o : Outcome) → finite.get m p ≡ Some o → IsCellOf (finite.get m) p) where
  abbrev pairs : List Pair
  pairs = finite.entries m

  found : (p : List Side) → finite.find before p pairs ≡ finite.get m p
  found p = sym (finite.get-entries m p)

  -- the entries below p: its own, and those below its sides
  pub parts : (p : List Side) → preorder_below m p ≡ map event_of (entry_list p (finite.get m p)) ++ (preorder_below m (p ++ Ge ∷ []) ++ preorder_below m (p ++ Lt ∷ []))
  parts p =
      ap (map event_of) (split p pairs (finite.entries_sorted m)
      ∙ ap (λ (u : List Pair). u ++ (below (p ++ Ge ∷ []) pairs ++ below (p ++ Lt ∷ []) pairs))
      (own_entry p pairs (finite.entries_sorted m) ∙ ap (entry_list p) (found p)))
      ∙ map-append event_of (entry_list p (finite.get m p)) (below (p ++ Ge ∷ []) pairs ++ below (p ++ Lt ∷ []) pairs)
      ∙ ap (λ (u : History). map event_of (entry_list p (finite.get m p)) ++ u) (map-append event_of (below (p ++ Ge ∷ []) pairs) (below (p ++ Lt ∷ []) pairs))

  -- below a path without a cut there are no entries
  none_on : (p : List Side) (s : Side) → ((h : LinearForm) → finite.get m p ≡ Some (Cut h) → ⊥) → below (p ++ s ∷ []) pairs ≡ []
  none_on p s plain = none_pass (λ (e : Pair). begins (p ++ s ∷ []) e.0) pairs fails
    where
      fails : (k : ℕ) (d : Pair) → k < length pairs → begins (p ++ s ∷ []) (get_or pairs k d).0 ≡ false
      fails k d l = by_test (begins (p ++ s ∷ []) (get_or pairs k d).0) refl
        where
          by_test : (b : Bool) → begins (p ++ s ∷ []) (get_or pairs k d).0 ≡ b → begins (p ++ s ∷ []) (get_or pairs k d).0 ≡ false
          by_test false q = q
          by_test true q =
              let t = begun (p ++ s ∷ []) (get_or pairs k d).0 q in
              let there : finite.get m (get_or pairs k d).0 ≡ Some (get_or pairs k d).1 = sym (found (get_or pairs k d).0) ∙ entry_found pairs (finite.entries_sorted m) k d l in
              let cell : IsCellOf (finite.get m) (get_or pairs k d).0 = closed _ _ there in
              absurd (none_below (finite.get m) closed p t.0 s plain (subst (IsCellOf (finite.get m)) (t.1 ∙ append_assoc p (s ∷ []) t.0) cell))

  pub leaf_parts : (p : List Side) → ((h : LinearForm) → finite.get m p ≡ Some (Cut h) → ⊥) → preorder_below m p ≡ map event_of (entry_list p (finite.get m p))
  leaf_parts p plain =
      parts p ∙ ap₂ (λ (u v : List Pair). map event_of (entry_list p (finite.get m p)) ++ (map event_of u ++ map event_of v)) (none_on p Ge plain) (none_on p Lt plain)
      ∙ append-nil (map event_of (entry_list p (finite.get m p)))

module _ (xs : List Spot) (tree : AreSpots xs) where
  module _ (i : ℕ) (x : Spot) (e : slice_get xs i ≡ Some x) where
    there : spots_tree xs x.path ≡ x.outcome
    there = tree_there xs tree.once i x e

    pub walk_none : x.outcome ≡ None → preorder_below (entries_of xs) x.path ≡ []
    walk_none q =
        leaf_parts (entries_of xs) (spots_closed xs tree) x.path (λ h r. none-some (Cut h) (sym q ∙ sym there ∙ r))
        ∙ ap (λ (u : Option Outcome). map event_of (entry_list x.path u)) (there ∙ q)

    pub walk_leaf : (o : Outcome) → x.outcome ≡ Some o → ((h : LinearForm) → x.outcome ≡ Some (Cut h) → ⊥) → preorder_below (entries_of xs) x.path ≡ event_of (x.path, o) ∷ []
    walk_leaf o q plain =
        leaf_parts (entries_of xs) (spots_closed xs tree) x.path (λ h r. plain h (sym there ∙ r))
        ∙ ap (λ (u : Option Outcome). map event_of (entry_list x.path u)) (there ∙ q)

    pub walk_cut : (o : Outcome) → x.outcome ≡ Some o → preorder_below (entries_of xs) x.path ≡ event_of (x.path, o) ∷ (preorder_below (entries_of xs) (x.path ++ Ge ∷ []) ++ preorder_below (entries_of xs) (x.path ++ Lt ∷ []))
    walk_cut o q =
        parts (entries_of xs) (spots_closed xs tree) x.path
        ∙ ap (λ (u : Option Outcome). map event_of (entry_list x.path u) ++ (preorder_below (entries_of xs) (x.path ++ Ge ∷ []) ++ preorder_below (entries_of xs) (x.path ++ Lt ∷ []))) (there ∙ q)

    -- a part is one side deeper
    pub part_deeper : (y : Spot) (j : ℕ) (s : Side) → slice_get xs j ≡ Some y → y.path ≡ x.path ++ s ∷ [] → depth_at xs j ≡ depth_at xs i + 1
    part_deeper y j s f q =
        let a : depth_at xs j ≡ length y.path = ap depth_of f in
        let b : depth_at xs i ≡ length x.path = ap depth_of e in
        omega (arith, a, b, ap length q, length-append x.path (s ∷ []))

pub path_depth : (xs : List Spot) (i : ℕ) (x : Spot) → slice_get xs i ≡ Some x → (p : List Side) → p ≡ x.path → depth_at xs i ≡ length p
path_depth xs i x e p q = ap depth_of e ∙ sym (ap length q)

-- what holds of the answer where it is Ok
pub on_ok : {A E P Q : Type 0} (r : Result A E) → (P → Q) → OnOk r P → OnOk r Q
on_ok (Ok a) f p = f p
on_ok (Err e) f p = p

-- the journal after both parts
pub joined : (J0 J1 J2 J3 A B C : History) (e : Entry) → J1 ≡ J0 ++ e ∷ [] → J2 ≡ J1 ++ A → J3 ≡ J2 ++ B → C ≡ e ∷ (A ++ B) → J3 ≡ J0 ++ C
joined J0 J1 J2 J3 A B C e a b c d =
    c ∙ ap (λ (u : History). u ++ B) (b ∙ ap (λ (u : History). u ++ A) a)
    ∙ append_assoc (J0 ++ e ∷ []) A B ∙ append_assoc J0 (e ∷ []) (A ++ B) ∙ ap (λ (u : History). J0 ++ u) (sym d)

pub all_begin : (ps : List Pair) → filter (λ (e : Pair). begins [] e.0) ps ≡ ps
all_begin [] = refl
all_begin (e ∷ ps) = ap (λ (u : List Pair). e ∷ u) (all_begin ps)

-- the part below the root is all
pub whole_walk : (xs : List Spot) → preorder_below (entries_of xs) [] ≡ preorder_of (snapshot_of xs)
whole_walk xs = ap (map event_of) (all_begin (finite.entries (entries_of xs)))

-- the walk from the first spot
pub walked : (xs ds : List Spot) (v : Snapshot) (J0 J : History) → AreSpots xs → ds ≡ xs → snapshot_of xs ≡ v → J0 ≡ [] → ((x : Spot) → slice_get ds 0 ≡ Some x → J ≡ J0 ++ preorder_below (entries_of ds) x.path) → J ≡ preorder_of v
walked xs ds v J0 J tree d is none walk =
    walk tree.first (ap (λ (zs : List Spot). slice_get zs 0) d ∙ tree.is_first)
    ∙ ap (λ (u : History). u ++ preorder_below (entries_of ds) tree.first.path) none
    ∙ ap₂ (λ (zs : List Spot) (p : List Side). preorder_below (entries_of zs) p) d tree.root
    ∙ whole_walk xs ∙ ap preorder_of is
