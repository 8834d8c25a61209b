-- The regions of spots, and what a version keeps.
use Rattle.std.proofs.Common.{◌≡◌, ◌≢◌, inl, inr, ℕ, zero, suc, ◌+◌, ◌≤◌, List, [], ◌∷◌, ◌++◌, length, length-append, slice_get, sym, ap, ap₂, subst, ◌∙◌, arith, Some, None, append-nil}
use Rattle.std.specs.List.{AllPairs}
use Rattle.std.specs.declared.option.Option.{Option}
use Rattle.std.proofs.lemmas.Option.{none-some, same_Some}
use Rattle.srs_plane.specs.Regions.{Area, HasPoint}
use Rattle.srs_path.specs.declared.paths.Side.{Side}
use Rattle.srs_path.specs.declared.outcomes.Outcome.{Outcome}
use Rattle.srs_path.specs.declared.outcomes.Outcome.TheVariants.{Inside, Outside, Cut, Left}
use Rattle.srs_path.specs.Views.{Found}
use Rattle.srs_path.specs.Soundness.{IsSound}
use Rattle.srs_tree.specs.Tree.{IsCellOf, region_at, cut_half}
use Rattle.srs_tree.specs.Growth.{IsProvedOf, IsVersion, IsOpenIn, MayEnter}
use Rattle.srs_tree.specs.Nodes.{Spot, root_of, snapshot_of, spots_tree, part_place, AreSpots}
use Rattle.srs_tree.proofs.HistoryLemmas.{region_at-snoc}
use Rattle.srs_tree.proofs.Spots.{paths_of, tree_some, tree_there, tail_once, head_apart}
use Rattle.srs_tree.proofs.Descent.{spots_closed}

-- spots with one path are one spot
pub same_spot : (xs : List Spot) → AllPairs ◌≢◌ (paths_of xs) → (i j : ℕ) (x y : Spot) → slice_get xs i ≡ Some x → slice_get xs j ≡ Some y → x.path ≡ y.path → x ≡ y
same_spot [] once i j x y e f q = absurd (none-some x e)
same_spot (z ∷ xs) once zero zero x y e f q = sym (same_Some z x e) ∙ same_Some z y f
same_spot (z ∷ xs) once zero (suc j) x y e f q = absurd (head_apart z xs once j y f (ap (λ (u : Spot). u.path) (same_Some z x e) ∙ q))
same_spot (z ∷ xs) once (suc i) zero x y e f q = absurd (head_apart z xs once i x e (ap (λ (u : Spot). u.path) (same_Some z y f) ∙ sym q))
same_spot (z ∷ xs) once (suc i) (suc j) x y e f q = same_spot xs (tail_once z xs once) i j x y e f q

pub root_of_first : (xs : List Spot) (x : Spot) → slice_get xs 0 ≡ Some x → root_of xs ≡ x.region
root_of_first [] x e = absurd (none-some x e)
root_of_first (y ∷ xs) x e = ap (λ (u : Spot). u.region) (same_Some y x e)

module _ (xs : List Spot) (tree : AreSpots xs) where
  region_by : (n i : ℕ) (x : Spot) → length x.path ≤ n → slice_get xs i ≡ Some x → IsCellOf (spots_tree xs) x.path → x.region ≡ region_at (root_of xs) (spots_tree xs) x.path
  region_by n i x l e (inl q) =
      let same : tree.first ≡ x = same_spot xs tree.once 0 i tree.first x tree.is_first e (tree.root ∙ sym q) in
      sym (root_of_first xs tree.first tree.is_first ∙ ap (λ (u : Spot). u.region) same)
      ∙ sym (append-nil (root_of xs)) ∙ ap (region_at (root_of xs) (spots_tree xs)) (sym q)
  region_by zero i x l e (inr c) = absurd (omega (arith, ap length c.is, length-append c.parent (c.side ∷ [])))
  region_by (suc n) i x l e (inr c) =
      let p = tree_some xs c.parent (Cut c.form) c.cut in
      let up : p.spot.region ≡ region_at (root_of xs) (spots_tree xs) p.spot.path
      = region_by n p.place p.spot (omega (arith, ap length c.is, length-append c.parent (c.side ∷ []), ap length p.path)) p.is (tree.each p.place p.spot p.is).cell in
      let t = (tree.each p.place p.spot p.is).parts c.form p.outcome c.side in
      let same : t.spot ≡ x = same_spot xs tree.once (part_place p.spot.parts c.side) i t.spot x t.is e (t.path ∙ ap (λ (q : List Side). q ++ c.side ∷ []) p.path ∙ sym c.is) in
      ap (λ (u : Spot). u.region) (sym same) ∙ t.region
      ∙ ap₂ (λ (R : Area) (o : Option Outcome). R ++ cut_half o c.side) (up ∙ ap (region_at (root_of xs) (spots_tree xs)) p.path) (sym c.cut)
      ∙ sym (region_at-snoc (root_of xs) (spots_tree xs) c.parent c.side) ∙ ap (region_at (root_of xs) (spots_tree xs)) (sym c.is)

  -- a spot has the region of its cell
  pub spot_region : (i : ℕ) (x : Spot) → slice_get xs i ≡ Some x → x.region ≡ region_at (root_of xs) (spots_tree xs) x.path
  spot_region i x e = region_by (length x.path) i x (omega arith) e (tree.each i x e).cell

  pub is_version : IsVersion (snapshot_of xs)
  is_version =
      let root = root_of_first xs tree.first tree.is_first in
      record {
        few = few root (tree.each 0 tree.first tree.is_first).few;
        has_point = subst HasPoint (sym root) tree.has_point;
        at_cells = spots_closed xs tree;
        proved = proved;
      }
    where
      few : root_of xs ≡ tree.first.region → length tree.first.region ≤ 16 + length tree.first.path → length (root_of xs) ≤ 16
      few e l = omega (arith, l, ap length e, ap length tree.root)

      proved : (p : List Side) (o : Outcome) → spots_tree xs p ≡ Some o → IsProvedOf (region_at (root_of xs) (spots_tree xs) p) o
      proved p o e =
          let t = tree_some xs p o e in
          subst (λ (R : Area). IsProvedOf R o) (spot_region t.place t.spot t.is ∙ ap (region_at (root_of xs) (spots_tree xs)) t.path)
          ((tree.each t.place t.spot t.is).proved o t.outcome)

  -- a spot without an outcome is an open cell
  pub is_open : (i : ℕ) (x : Spot) → slice_get xs i ≡ Some x → x.outcome ≡ None → IsOpenIn (spots_tree xs) x.path
  is_open i x e fresh = record { cell = (tree.each i x e).cell; open_yet = tree_there xs tree.once i x e ∙ fresh }

  pub may_enter : (i : ℕ) (x : Spot) (p : List Side) (f : Found) → slice_get xs i ≡ Some x → x.path ≡ p → x.outcome ≡ None → x.region ≡ f.region → MayEnter (snapshot_of xs) p f
  may_enter i x p f e q fresh same = record {
    is_open = subst (IsOpenIn (spots_tree xs)) q (is_open i x e fresh);
    same = sym same ∙ spot_region i x e ∙ ap (region_at (root_of xs) (spots_tree xs)) q;
  }

-- what is sound for some number of witnesses
pub proved_of : (R : Area) (W : ℕ) (o : Outcome) → IsSound R W o → IsProvedOf R o
proved_of R W (Inside ranks) s = s
proved_of R W (Outside cycle) s = s
proved_of R W (Cut h) s = s
proved_of R W (Left cause) s = tt
