-- The spots of a tree after one outcome more.
use Rattle.std.proofs.Common.{◌≡◌, ◌≢◌, inl, inr, ℕ, zero, suc, ◌+◌, ◌≤◌, ◌<◌, Bool, true, false, cond, List, [], ◌∷◌, ◌++◌, length, length-append, length-set, get_or, slice_get, refl, sym, ap, ap₂, subst, ◌∙◌, arith, Some, None}
use Rattle.std.specs.Prelude.{slice_set, is_some, Contains}
use Rattle.std.specs.List.{AllPairs}
use Rattle.std.specs.declared.option.Option.{Option}
use Rattle.std.specs.FinMap as finite
use Rattle.std.specs.Cmp.Lexicographic.{slice_cmp}
use Rattle.std.proofs.lemmas.Option.{none-some, same_Some, slice_get-get_or}
use Rattle.std.proofs.lemmas.List.{length-map, map-append}
use Rattle.srs_num.specs.Points.{LinearForm}
use Rattle.srs_plane.specs.Regions.{HasPoint}
use Rattle.srs_path.specs.declared.paths.Side.{Side}
use Rattle.srs_path.specs.declared.paths.Side.TheVariants.{Ge, Lt}
use Rattle.srs_path.specs.declared.outcomes.Outcome.{Outcome}
use Rattle.srs_path.specs.declared.outcomes.Outcome.TheVariants.{Inside, Outside, Cut, Left}
use Rattle.srs_tree.specs.Tree.{path_eq, IsCellOf, half_on}
use Rattle.srs_tree.specs.Rounds.{parts_by}
use Rattle.srs_tree.specs.Growth.{IsProvedOf}
use Rattle.srs_tree.specs.Snapshots.{side_cmp, Entries, with_entry}
use Rattle.srs_tree.specs.Nodes.{Spot, entered, entries_of, root_of, snapshot_of, spots_tree, part_place, IsPartAt, IsSpotOf, AreSpots, part_of, parts_from, grown}
use Rattle.srs_path.proofs.ChosenOnce.{by_lt}
use Rattle.srs_tree.proofs.HistoryLemmas.{same_path, path_eq_same, or_else}
use Rattle.srs_tree.proofs.CellsLemmas.{pairs_grow}
use Rattle.srs_tree.proofs.StandsLemmas.{path_total, path_same, ties}
use Rattle.srs_tree.proofs.Trees.{parent_cut}
use Rattle.srs_tree.proofs.Places.{get_left, get_right, get_cases, get_set_same, get_set_other, map_set}
use Rattle.srs_tree.proofs.Spots.{paths_of, path_at, here, tree-cons, tree_there, tail_once, head_apart}

-- the spot x with the outcome o
abbrev pub settled : List Spot → Spot → Outcome → Spot
settled xs x o = record { path = x.path; region = x.region; outcome = Some o; parts = length xs }

-- parts have no outcome
none_new : (x : Spot) (o : Outcome) (p : List Side) → spots_tree (parts_from x o) p ≡ None
none_new x (Inside rs) p = finite.get-empty _ p
none_new x (Outside c) p = finite.get-empty _ p
none_new x (Cut h) p = finite.get-empty _ p
none_new x (Left l) p = finite.get-empty _ p

tree-append : (xs ys : List Spot) (p : List Side) → spots_tree ys p ≡ None → spots_tree (xs ++ ys) p ≡ spots_tree xs p
tree-append [] ys p e = e ∙ sym (finite.get-empty _ p)
tree-append (x ∷ xs) ys p e = tree-cons x (xs ++ ys) p ∙ ap (or_else (here x p)) (tree-append xs ys p e) ∙ sym (tree-cons x xs p)

-- the outcome comes to its path, and other paths keep theirs
tree-set : (xs : List Spot) (i : ℕ) (x v : Spot) (o : Outcome) (p : List Side) → AllPairs ◌≢◌ (paths_of xs) → slice_get xs i ≡ Some x → x.outcome ≡ None → v.path ≡ x.path → v.outcome ≡ Some o → spots_tree (slice_set xs i v) p ≡ cond (path_eq x.path p) (Some o) (spots_tree xs p)
tree-set [] i x v o p once e fresh q w = absurd (none-some x e)
tree-set (y ∷ xs) zero x v o p once e fresh q w =
    let same : y ≡ x = same_Some y x e in
    let empty : y.outcome ≡ None = ap (λ (z : Spot). z.outcome) same ∙ fresh in
    tree-cons v xs p
    ∙ ap₂ (λ (r : List Side) (u : Option Outcome). or_else (cond (path_eq r p) u None) (spots_tree xs p)) q w
    ∙ by_test (path_eq x.path p) (spots_tree xs p)
    ∙ ap (cond (path_eq x.path p) (Some o)) (sym (tree-cons y xs p ∙ ap (λ (u : Option Outcome). or_else (cond (path_eq y.path p) u None) (spots_tree xs p)) empty ∙ nothing (path_eq y.path p) (spots_tree xs p)))
  where
    by_test : (b : Bool) (t : Option Outcome) → or_else (cond b (Some o) None) t ≡ cond b (Some o) t
    by_test true t = refl
    by_test false t = refl

    nothing : (b : Bool) (t : Option Outcome) → or_else (cond b None None) t ≡ t
    nothing true t = refl
    nothing false t = refl
tree-set (y ∷ xs) (suc i) x v o p once e fresh q w =
    let rest = tree-set xs i x v o p (tail_once y xs once) e fresh q w in
    tree-cons y (slice_set xs i v) p
    ∙ ap (or_else (here y p)) rest
    ∙ by_test (path_eq x.path p) refl
    ∙ ap (cond (path_eq x.path p) (Some o)) (sym (tree-cons y xs p))
  where
    elsewhere : (b : Bool) → path_eq y.path p ≡ b → path_eq x.path p ≡ true → here y p ≡ None
    elsewhere true f g = absurd (head_apart y xs once i x e (same_path y.path p f ∙ sym (same_path x.path p g)))
    elsewhere false f g = ap (λ (b : Bool). cond b y.outcome None) f

    by_test : (b : Bool) → path_eq x.path p ≡ b → or_else (here y p) (cond b (Some o) (spots_tree xs p)) ≡ cond b (Some o) (or_else (here y p) (spots_tree xs p))
    by_test true g = ap (λ (u : Option Outcome). or_else u (Some o)) (elsewhere (path_eq y.path p) refl g)
    by_test false g = refl

paths_new : (x : Spot) (o : Outcome) → paths_of (parts_from x o) ≡ parts_by x.path o
paths_new x (Inside rs) = refl
paths_new x (Outside c) = refl
paths_new x (Cut h) = refl
paths_new x (Left l) = refl

-- a spot among the parts
pub record IsNew (x : Spot) (o : Outcome) (z : Spot) : Type 0 where
  pub side : Side
  pub form : LinearForm
  pub cut : o ≡ Cut form
  pub is : z ≡ part_of x side form

new_spot : (x : Spot) (o : Outcome) (m : ℕ) (z : Spot) → slice_get (parts_from x o) m ≡ Some z → IsNew x o z
new_spot x (Inside rs) m z e = absurd (none-some z e)
new_spot x (Outside c) m z e = absurd (none-some z e)
new_spot x (Left l) m z e = absurd (none-some z e)
new_spot x (Cut h) zero z e = record { side = Ge; form = h; cut = refl; is = sym (same_Some (part_of x Ge h) z e) }
new_spot x (Cut h) (suc zero) z e = record { side = Lt; form = h; cut = refl; is = sym (same_Some (part_of x Lt h) z e) }
new_spot x (Cut h) (suc (suc m)) z e = absurd (none-some z e)

-- one entry more at most
entered_few : (m : Entries) (p : List Side) (u : Option Outcome) → finite.len (entered m p u) ≤ finite.len m + 1
entered_few m p None = omega arith
entered_few m p (Some o) = by_test (finite.contains_key m p) (finite.len-insert path_total m p o)
  where
    by_test : (b : Bool) → finite.len (finite.insert m p o) ≡ cond b (finite.len m) (finite.len m + 1) → finite.len (finite.insert m p o) ≤ finite.len m + 1
    by_test true e = omega (arith, e)
    by_test false e = omega (arith, e)

-- at most as many entries as spots, and fewer where a spot has no outcome
entries_few : (xs : List Spot) → finite.len (entries_of xs) ≤ length xs
entries_few [] = let e = finite.len-empty (slice_cmp side_cmp) Outcome in omega (arith, e)
entries_few (x ∷ xs) = let e = entered_few (entries_of xs) x.path x.outcome in let f = entries_few xs in omega (arith, e, f)

pub entries_fewer : (xs : List Spot) (i : ℕ) (x : Spot) → slice_get xs i ≡ Some x → x.outcome ≡ None → finite.len (entries_of xs) < length xs
entries_fewer [] i x e fresh = absurd (none-some x e)
entries_fewer (y ∷ xs) zero x e fresh =
    let empty : y.outcome ≡ None = ap (λ (z : Spot). z.outcome) (same_Some y x e) ∙ fresh in
    let same : finite.len (entries_of (y ∷ xs)) ≡ finite.len (entries_of xs) = ap (λ (u : Option Outcome). finite.len (entered (entries_of xs) y.path u)) empty in
    let f = entries_few xs in
    omega (arith, same, f)
entries_fewer (y ∷ xs) (suc i) x e fresh =
    let a = entered_few (entries_of xs) y.path y.outcome in
    let b = entries_fewer xs i x e fresh in
    omega (arith, a, b)

module _ (xs : List Spot) (i : ℕ) (x : Spot) (o : Outcome) (tree : AreSpots xs) (there : slice_get xs i ≡ Some x) (fresh : x.outcome ≡ None) (proved : IsProvedOf x.region o) where
  abbrev after : List Spot
  after = grown xs i x o

  paths_after : paths_of after ≡ paths_of xs ++ parts_by x.path o
  paths_after =
      map-append (λ (z : Spot). z.path) (slice_set xs i (settled xs x o)) (parts_from x o)
      ∙ ap₂ (λ (a b : List (List Side)). a ++ b) (map_set (λ (z : Spot). z.path) xs i x (settled xs x o) there refl) (paths_new x o)

  pub tree_after : (p : List Side) → spots_tree after p ≡ cond (path_eq x.path p) (Some o) (spots_tree xs p)
  tree_after p =
      tree-append (slice_set xs i (settled xs x o)) (parts_from x o) p (none_new x o p)
      ∙ tree-set xs i x (settled xs x o) o p tree.once there fresh refl refl

  pub entries_after : entries_of after ≡ finite.insert (entries_of xs) x.path o
  entries_after = finite.same_map path_total path_same _ _ (λ p.
      tree_after p ∙ ap (λ (b : Bool). cond b (Some o) (spots_tree xs p)) (sym (ties p x.path)) ∙ sym (finite.get-insert path_total (entries_of xs) x.path o p))

  fresh_there : spots_tree xs x.path ≡ None
  fresh_there = tree_there xs tree.once i x there ∙ fresh

  cut_there : spots_tree after x.path ≡ Some o
  cut_there = tree_after x.path ∙ ap (λ (b : Bool). cond b (Some o) (spots_tree xs x.path)) (path_eq_same x.path)

  -- an outcome stays
  stays : (p : List Side) (u : Outcome) → spots_tree xs p ≡ Some u → spots_tree after p ≡ Some u
  stays p u e = tree_after p ∙ by_test (path_eq x.path p) refl
    where
      by_test : (b : Bool) → path_eq x.path p ≡ b → cond b (Some o) (spots_tree xs p) ≡ Some u
      by_test true q = absurd (none-some u (sym fresh_there ∙ ap (spots_tree xs) (same_path x.path p q) ∙ e))
      by_test false q = e

  cell_stays : (p : List Side) → IsCellOf (spots_tree xs) p → IsCellOf (spots_tree after) p
  cell_stays p (inl e) = inl e
  cell_stays p (inr c) = inr (record { parent = c.parent; side = c.side; form = c.form; is = c.is; cut = stays c.parent (Cut c.form) c.cut })

  -- a spot keeps its place, its path and its region
  record IsKept (k : ℕ) (y : Spot) : Type 0 where
    spot : Spot
    is : slice_get after k ≡ Some spot
    path : spot.path ≡ y.path
    region : spot.region ≡ y.region

  kept : (k : ℕ) (y : Spot) → slice_get xs k ≡ Some y → IsKept k y
  kept k y e = by_lt k i (λ l. other (λ q. let f : k ≡ i = q in omega (arith, f, l))) at_i (λ l. other (λ q. let f : k ≡ i = q in omega (arith, f, l)))
    where
      other : k ≢ i → IsKept k y
      other n = record { spot = y; is = get_left (slice_set xs i (settled xs x o)) (parts_from x o) k y (get_set_other xs i k (settled xs x o) n ∙ e); path = refl; region = refl }

      at_i : k ≡ i → IsKept k y
      at_i q =
          let same : x ≡ y = same_Some x y (sym there ∙ ap (slice_get xs) (sym q) ∙ e) in
          record {
            spot = settled xs x o;
            is = get_left (slice_set xs i (settled xs x o)) (parts_from x o) k (settled xs x o) (ap (slice_get (slice_set xs i (settled xs x o))) q ∙ get_set_same xs i x (settled xs x o) there);
            path = ap (λ (z : Spot). z.path) same;
            region = ap (λ (z : Spot). z.region) same;
          }

  -- a spot that was there
  old_spot : (k : ℕ) (y : Spot) → slice_get xs k ≡ Some y → IsSpotOf after y
  old_spot k y e =
      let was = tree.each k y e in
      record { cell = cell_stays y.path was.cell; few = was.few; proved = was.proved; parts = parts was }
    where
      parts : IsSpotOf xs y → (h : LinearForm) → y.outcome ≡ Some (Cut h) → (s : Side) → IsPartAt after (part_place y.parts s) y s h
      parts was h q s =
          let t = was.parts h q s in
          let u = kept (part_place y.parts s) t.spot t.is in
          record { spot = u.spot; is = u.is; path = u.path ∙ t.path; region = u.region ∙ t.region }

  -- the spot to which the outcome came
  settled_spot : IsSpotOf after (settled xs x o)
  settled_spot =
      let was = tree.each i x there in
      record {
        cell = cell_stays x.path was.cell;
        few = was.few;
        proved = λ u e. subst (IsProvedOf x.region) (same_Some o u e) proved;
        parts = λ h e s. part_at h s (same_Some o (Cut h) e);
      }
    where
      at_end : (h : LinearForm) (s : Side) → slice_get (slice_set xs i (settled xs x o) ++ parts_from x (Cut h)) (part_place (length xs) s) ≡ Some (part_of x s h)
      at_end h Ge = let l = length-set xs i (settled xs x o) in
          subst (λ (n : ℕ). slice_get (slice_set xs i (settled xs x o) ++ parts_from x (Cut h)) n ≡ Some (part_of x Ge h)) (omega (arith, l))
          (get_right (slice_set xs i (settled xs x o)) (parts_from x (Cut h)) 0 (part_of x Ge h) refl)
      at_end h Lt = let l = length-set xs i (settled xs x o) in
          subst (λ (n : ℕ). slice_get (slice_set xs i (settled xs x o) ++ parts_from x (Cut h)) n ≡ Some (part_of x Lt h)) (omega (arith, l))
          (get_right (slice_set xs i (settled xs x o)) (parts_from x (Cut h)) 1 (part_of x Lt h) refl)

      part_at : (h : LinearForm) (s : Side) → o ≡ Cut h → IsPartAt after (part_place (length xs) s) (settled xs x o) s h
      part_at h s q = record {
        spot = part_of x s h;
        is = subst (λ (u : Outcome). slice_get (slice_set xs i (settled xs x o) ++ parts_from x u) (part_place (length xs) s) ≡ Some (part_of x s h)) (sym q) (at_end h s);
        path = refl;
        region = refl;
      }

  -- a part
  new_spot_of : (z : Spot) → IsNew x o z → IsSpotOf after z
  new_spot_of z new = subst (IsSpotOf after) (sym new.is) (record {
    cell = inr (record { parent = x.path; side = new.side; form = new.form; is = refl; cut = cut_there ∙ ap Some new.cut });
    few = few (tree.each i x there).few;
    proved = λ u e. absurd (none-some u e);
    parts = λ h e s. absurd (none-some (Cut h) e);
  })
    where
      few : length x.region ≤ 16 + length x.path → length (x.region ++ half_on new.side new.form ∷ []) ≤ 16 + length (x.path ++ new.side ∷ [])
      few l = omega (arith, length-append x.region (half_on new.side new.form ∷ []), length-append x.path (new.side ∷ []))

  each_after : (k : ℕ) (z : Spot) → slice_get after k ≡ Some z → IsSpotOf after z
  each_after k z e = elim (get_cases (slice_set xs i (settled xs x o)) (parts_from x o) k z e) [
    | inl f ↦ by_lt k i
        (λ l. old_spot k z (sym (get_set_other xs i k (settled xs x o) (λ q. let n : k ≡ i = q in omega (arith, n, l))) ∙ f))
        (λ q. subst (IsSpotOf after) (same_Some (settled xs x o) z (sym (get_set_same xs i x (settled xs x o) there) ∙ ap (slice_get (slice_set xs i (settled xs x o))) (sym q) ∙ f)) settled_spot)
        (λ l. old_spot k z (sym (get_set_other xs i k (settled xs x o) (λ q. let n : k ≡ i = q in omega (arith, n, l))) ∙ f))
    | inr t ↦ new_spot_of z (new_spot x o t.0 z t.1)
  ]

  new_path : (h : LinearForm) (s : Side) → o ≡ Cut h → Contains (paths_of xs) (x.path ++ s ∷ []) → ⊥
  new_path h s q c =
      let l : c.0 < length xs = omega (arith, c.1, length-map xs (λ (z : Spot). z.path)) in
      let y : Spot = get_or xs c.0 x in
      let e : slice_get xs c.0 ≡ Some y = slice_get-get_or xs c.0 x l in
      let same : y.path ≡ x.path ++ s ∷ [] = sym (path_at xs c.0 y (x.path ++ s ∷ []) e) ∙ c.2 in
      let cut = parent_cut (spots_tree xs) x.path s (subst (IsCellOf (spots_tree xs)) same (tree.each c.0 y e).cell) in
      none-some (Cut cut.0) (sym fresh_there ∙ cut.1)

  pub are_spots : AreSpots after
  are_spots =
      let f = kept 0 tree.first tree.is_first in
      record {
        first = f.spot;
        is_first = f.is;
        root = f.path ∙ tree.root;
        has_point = subst HasPoint (sym f.region) tree.has_point;
        once = subst (AllPairs ◌≢◌) (sym paths_after) (pairs_grow (paths_of xs) x.path o tree.once new_path);
        each = each_after;
      }

  pub snapshot_after : snapshot_of after ≡ with_entry (snapshot_of xs) x.path o
  snapshot_after = λ k. record { region = root_after k; entries = entries_after k }
    where
      root_of_first : (ys : List Spot) (y : Spot) → slice_get ys 0 ≡ Some y → root_of ys ≡ y.region
      root_of_first [] y e = absurd (none-some y e)
      root_of_first (z ∷ ys) y e = ap (λ (u : Spot). u.region) (same_Some z y e)

      root_after : root_of after ≡ root_of xs
      root_after = let f = kept 0 tree.first tree.is_first in root_of_first after f.spot f.is ∙ f.region ∙ sym (root_of_first xs tree.first tree.is_first)

  pub len_after : finite.len (entries_of after) ≡ finite.len (entries_of xs) + 1
  len_after =
      ap finite.len entries_after ∙ finite.len-insert path_total (entries_of xs) x.path o
      ∙ ap (λ (u : Option Outcome). cond (is_some u) (finite.len (entries_of xs)) (finite.len (entries_of xs) + 1)) fresh_there
