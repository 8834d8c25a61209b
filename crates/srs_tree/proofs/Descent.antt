-- The descent along a path, from the root's spot down.
use Rattle.std.proofs.Common.{◌≡◌, ℕ, ◌+◌, ◌<◌, List, [], ◌∷◌, ◌++◌, length, take, drop, slice_get, sym, ap, subst, ◌∙◌, take-append-drop, Some}
use Rattle.std.proofs.lemmas.Option.{same_Some, slice_get_within, get_or_from_slice_get}
use Rattle.std.proofs.lemmas.List.{take_more}
use Rattle.std.proofs.Math.Seq.{drop-cons}
use Rattle.srs_num.specs.Points.{LinearForm}
use Rattle.srs_path.specs.declared.paths.Side.{Side}
use Rattle.srs_path.specs.declared.paths.Side.TheVariants.{Ge, Lt}
use Rattle.srs_path.specs.declared.outcomes.Outcome.TheVariants.{Cut}
use Rattle.srs_tree.specs.Tree.{IsCellOf}
use Rattle.srs_tree.specs.Growth.{IsLongestCell}
use Rattle.srs_tree.specs.Nodes.{Spot, spots_tree, part_place, AreSpots, IsPlaceOf}
use Rattle.srs_tree.proofs.Trees.{IsClosed, none_below, longest_cell}
use Rattle.srs_tree.proofs.Spots.{tree_some, tree_there}

-- a spot that was read at a place
pub read_spot : (xs : List Spot) (p : List Side) (i : ℕ) (x : Spot) → IsPlaceOf xs p i → slice_get xs i ≡ Some x → (slice_get xs i ≡ Some x) × (x.path ≡ p)
read_spot xs p i x at e =
    let same : at.spot ≡ x = same_Some at.spot x (sym at.is ∙ e) in
    (e, ap (λ (z : Spot). z.path) (sym same) ∙ at.path)

module _ (xs : List Spot) (tree : AreSpots xs) where
  -- entries stand at cells
  pub spots_closed : IsClosed (spots_tree xs)
  spots_closed p o e = let t = tree_some xs p o e in subst (IsCellOf (spots_tree xs)) t.path (tree.each t.place t.spot t.is).cell

  -- the Lt part of a cut has a place
  pub lt_within : (i : ℕ) (x : Spot) (h : LinearForm) → slice_get xs i ≡ Some x → x.outcome ≡ Some (Cut h) → x.parts + 1 < length xs
  lt_within i x h e cut = let t = (tree.each i x e).parts h cut Lt in slice_get_within xs (x.parts + 1) t.spot t.is

  pub next_place : (path : List Side) (k i : ℕ) (x : Spot) (s : Side) (h : LinearForm) → slice_get xs i ≡ Some x → x.path ≡ take k path → k < length path → slice_get path k ≡ Some s → x.outcome ≡ Some (Cut h) → IsPlaceOf xs (take (k + 1) path) (part_place x.parts s)
  next_place path k i x s h e at l side cut =
      let t = (tree.each i x e).parts h cut s in
      let more : take (k + 1) path ≡ take k path ++ s ∷ [] = take_more path k s l ∙ ap (λ (z : Side). take k path ++ z ∷ []) (get_or_from_slice_get path k s s side) in
      record { spot = t.spot; is = t.is; path = t.path ∙ ap (λ (p : List Side). p ++ s ∷ []) at ∙ sym more }

  module _ (path : List Side) (k i : ℕ) (x : Spot) (e : slice_get xs i ≡ Some x) (at : x.path ≡ take k path) (plain : (h : LinearForm) → x.outcome ≡ Some (Cut h) → ⊥) where
    cell : IsCellOf (spots_tree xs) x.path
    cell = (tree.each i x e).cell

    no_cut : (h : LinearForm) → spots_tree xs x.path ≡ Some (Cut h) → ⊥
    no_cut h q = plain h (sym (tree_there xs tree.once i x e) ∙ q)

    whole : x.path ++ drop k path ≡ path
    whole = ap (λ (p : List Side). p ++ drop k path) at ∙ take-append-drop k path

    pub stops_at : IsLongestCell (spots_tree xs) path x.path
    stops_at = subst (λ (p : List Side). IsLongestCell (spots_tree xs) p x.path) whole (longest_cell (spots_tree xs) spots_closed x.path (drop k path) cell no_cut)

    pub stops_short : k < length path → IsCellOf (spots_tree xs) path → ⊥
    stops_short l c =
        let cut : drop k path ≡ _ = drop-cons path k Ge l in
        none_below (spots_tree xs) spots_closed x.path _ _ no_cut (subst (IsCellOf (spots_tree xs)) (sym whole ∙ ap (λ (q : List Side). x.path ++ q) cut) c)
