-- The way of a point down a tree, and the one leaf that holds it.
use Rattle.std.proofs.Common.{◌≡◌, ℕ, ◌+◌, ◌-◌, ◌<◌, ◌≤◌, List, [], ◌∷◌, ◌++◌, length, length-append, slice_get, refl, sym, ap, ap₂, subst, ◌∙◌, arith, append_assoc, append-nil, Some}
use Rattle.std.specs.List.{AllByRecursion}
use Rattle.std.specs.declared.option.Option.{Option}
use Rattle.std.proofs.lemmas.Option.{same_Some, slice_get_within}
use Rattle.srs_num.specs.Points.{Point, LinearForm, value}
use Rattle.srs_plane.specs.declared.halves.Half.{Half}
use Rattle.srs_plane.specs.Regions.{Area, IsIn, IsInHalf}
use Rattle.srs_plane.proofs.Members.{IsIn-push, IsIn-front, IsIn-last}
use Rattle.srs_path.specs.declared.paths.Side.{Side}
use Rattle.srs_path.specs.declared.paths.Side.TheVariants.{Ge}
use Rattle.srs_path.specs.declared.outcomes.Outcome.{Outcome}
use Rattle.srs_path.specs.declared.outcomes.Outcome.TheVariants.{Cut}
use Rattle.srs_tree.specs.Tree.{Tree, IsCellOf, IsLeafOf, HoldsAt, cut_half, half_on, halves_along}
use Rattle.srs_tree.specs.Nodes.{Spot, spots_tree, root_of, snapshot_of, part_place, AreSpots, HoldsAll, IsLeafFor, IsPartWith}
use Rattle.srs_tree.specs.Snapshots.{Snapshot, tree_of}
use Rattle.srs_tree.specs.Answers.{IsDescent}
use Rattle.srs_tree.proofs.Descent.{spots_closed}
use Rattle.srs_tree.proofs.Trees.{IsClosed, prefix_cell, none_below, parent_cut}
use Rattle.srs_tree.proofs.TreeCut.{Sign, one_sign, sign_of, on_side}
use Rattle.srs_tree.proofs.Spots.{tree_there}
use Rattle.srs_tree.proofs.Regions.{spot_region}
use Rattle.srs_tree.proofs.Below.{depth_at, part_deeper, path_depth}

module _ {X : Type 0} (P : X → Type 0) where
  pub all_left : (xs ys : List X) → AllByRecursion P (xs ++ ys) → AllByRecursion P xs
  all_left [] ys h = tt
  all_left (x ∷ xs) ys h = (h.0, all_left xs ys h.1)

  pub all_right : (xs ys : List X) → AllByRecursion P (xs ++ ys) → AllByRecursion P ys
  all_right [] ys h = h
  all_right (x ∷ xs) ys h = all_right xs ys h.1

module _ (T : Tree) (closed : IsClosed T) (r : Point) where
  abbrev InAll : List Half → Type 0
  InAll = AllByRecursion (λ h. IsInHalf h r)

  cut_above : (above p : List Side) (s : Side) → IsLeafOf T (above ++ s ∷ p) → (h : LinearForm) × (T above ≡ Some (Cut h))
  cut_above above p s leaf =
      parent_cut T above s (prefix_cell T closed (above ++ s ∷ []) p (subst (IsCellOf T) (sym (append_assoc above (s ∷ []) p)) leaf.cell))

  ends_here : (above p : List Side) (s : Side) → IsLeafOf T (above ++ []) → IsLeafOf T (above ++ s ∷ p) → ⊥
  ends_here above p s here there = none_below T closed above p s (λ h e. here.no_cut h (ap T (append-nil above) ∙ e)) there.cell

  along : (above p : List Side) (s : Side) (h : LinearForm) → T above ≡ Some (Cut h) → InAll (halves_along T above (s ∷ p)) → IsInHalf (half_on s h) r × InAll (halves_along T (above ++ s ∷ []) p)
  along above p s h e k = subst (λ (o : Option Outcome). InAll (cut_half o s ++ halves_along T (above ++ s ∷ []) p)) e k

  one_way : (above p q : List Side) → IsLeafOf T (above ++ p) → IsLeafOf T (above ++ q) → InAll (halves_along T above p) → InAll (halves_along T above q) → p ≡ q
  one_way above [] [] a b j k = refl
  one_way above [] (t ∷ q) a b j k = absurd (ends_here above q t a b)
  one_way above (s ∷ p) [] a b j k = absurd (ends_here above p s b a)
  one_way above (s ∷ p) (t ∷ q) a b j k =
      let cut = cut_above above p s a in
      let x = along above p s cut.0 cut.1 j in
      let y = along above q t cut.0 cut.1 k in
      let same : t ≡ s = one_sign t s (value cut.0 r) (sign_of t cut.0 r y.0) (sign_of s cut.0 r x.0) in
      let rest : p ≡ q = one_way (above ++ s ∷ []) p q (subst (IsLeafOf T) (sym (append_assoc above (s ∷ []) p)) a)
      (subst (IsLeafOf T) (ap (λ (u : Side). above ++ u ∷ q) same ∙ sym (append_assoc above (s ∷ []) q)) b)
      x.1 (subst (λ (u : Side). InAll (halves_along T (above ++ u ∷ []) q)) same y.1) in
      ap₂ (λ (u : Side) (v : List Side). u ∷ v) (sym same) rest

  -- one leaf holds the point
  pub one_leaf : (Root : Area) (p q : List Side) → HoldsAt Root T r p → HoldsAt Root T r q → p ≡ q
  one_leaf Root p q a b =
      one_way [] p q a.leaf b.leaf (all_right (λ h. IsInHalf h r) Root (halves_along T [] p) a.point.halves) (all_right (λ h. IsInHalf h r) Root (halves_along T [] q) b.point.halves)

-- a leaf's points are in the root
pub in_root : (Root : Area) (T : Tree) (r : Point) (p : List Side) → HoldsAt Root T r p → IsIn Root r
in_root Root T r p a = record { is_point = a.point.is_point; halves = all_left (λ h. IsInHalf h r) Root (halves_along T [] p) a.point.halves }

-- the steps on the way to the leaf that was found
pub descent : (xs ds : List Spot) (v : Snapshot) (r : Point) (before after : ℕ) (y : Spot) → AreSpots xs → ds ≡ xs → snapshot_of xs ≡ v → IsLeafFor ds r y → after ≤ before + length (root_of ds) + length y.path → IsDescent v.region (tree_of v) r before after
descent xs ds v r before after y tree moved is leaf few =
    subst (λ (w : Snapshot). IsDescent w.region (tree_of w) r before after) is (record {
      beyond = λ out. absurd (out (in_root (root_of xs) (spots_tree xs) r y.path here.holds));
      on_path = λ p h. bound p (one_leaf (spots_tree xs) (spots_closed xs tree) r (root_of xs) p y.path h here.holds);
    })
  where
    here : IsLeafFor xs r y
    here = subst (λ (zs : List Spot). IsLeafFor zs r y) moved leaf

    bound : (p : List Side) → p ≡ y.path → after ≤ before + length (root_of xs) + length p
    bound p e = omega (arith, few, ap length e, ap (λ (zs : List Spot). length (root_of zs)) moved)

-- the spot at the place j is a part of the spot x
pub record IsBelow (xs : List Spot) (x : Spot) (s : Side) (h : LinearForm) (j : ℕ) : Type 0 where
  pub spot : Spot
  pub is : slice_get xs j ≡ Some spot
  pub path : spot.path ≡ x.path ++ s ∷ []
  pub region : spot.region ≡ x.region ++ half_on s h ∷ []

module _ (xs : List Spot) (tree : AreSpots xs) (i : ℕ) (x : Spot) (e : slice_get xs i ≡ Some x) where
  -- a spot without a cut that holds the point is its leaf
  pub leaf_for : (r : Point) → ((h : LinearForm) → x.outcome ≡ Some (Cut h) → ⊥) → IsIn x.region r → IsLeafFor xs r x
  leaf_for r plain inside = record {
    holds = record {
      leaf = record { cell = (tree.each i x e).cell; no_cut = λ h q. plain h (sym (tree_there xs tree.once i x e) ∙ q) };
      point = subst (λ (R : Area). IsIn R r) (spot_region xs tree i x e) inside;
    };
    outcome = tree_there xs tree.once i x e;
  }

  pub part_below : (h : LinearForm) → x.outcome ≡ Some (Cut h) → (s : Side) (j : ℕ) → j ≡ part_place x.parts s → IsBelow xs x s h j
  part_below h cut s j q =
      let t = (tree.each i x e).parts h cut s in
      record { spot = t.spot; is = ap (slice_get xs) q ∙ t.is; path = t.path; region = t.region }

  -- the part that is on the point's side holds it
  pub below_holds : (r : Point) (j : ℕ) → IsIn x.region r → (part : IsPartWith x r j) → (y : Spot) → slice_get xs j ≡ Some y → IsIn y.region r
  below_holds r j inside part y f =
      let t = part_below part.form part.cut part.side j part.place in
      subst (λ (R : Area). IsIn R r) (sym t.region ∙ ap (λ (z : Spot). z.region) (same_Some t.spot y (sym t.is ∙ f))) (IsIn-push x.region (half_on part.side part.form) r inside part.inside)

  -- what is in the region and on a side of its cut is in that part
  pub below_all : (C D : Area) (h : LinearForm) → x.outcome ≡ Some (Cut h) → (s : Side) (j : ℕ) → j ≡ part_place x.parts s → HoldsAll xs i C → ((r : Point) → IsIn D r → IsIn C r × IsInHalf (half_on s h) r) → HoldsAll xs j D
  below_all C D h cut s j q all within y f r k =
      below_holds r j (all x e r (within r k).0) (record { form = h; side = s; cut = cut; place = q; inside = (within r k).1 }) y f

  -- the path of a cell with a cut is shorter than its part's
  pub shorter : (h : LinearForm) → x.outcome ≡ Some (Cut h) → (j : ℕ) → j ≡ x.parts → (p : List Side) → ((y : Spot) → slice_get xs j ≡ Some y → p ≡ y.path) → length p ≤ 48 → length x.path < 48
  shorter h cut j q p is l =
      let t = part_below h cut Ge j q in
      omega (arith, ap length (is t.spot t.is), ap length t.path, length-append x.path (Ge ∷ []))

  -- the region D of a part of x
  pub record IsPiece (C D : Area) (h : LinearForm) (s : Side) (j : ℕ) : Type 0 where
    pub cut : x.outcome ≡ Some (Cut h)
    pub place : j ≡ part_place x.parts s
    pub within : (r : Point) → IsIn D r → IsIn C r × IsInHalf (half_on s h) r
    pub few : length D ≤ length C + 1

  module _ (C D : Area) (h : LinearForm) (s : Side) (j : ℕ) (piece : IsPiece C D h s j) where
    t : IsBelow xs x s h j
    t = part_below h piece.cut s j piece.place

    pub piece_there : j < length xs
    piece_there = slice_get_within xs j t.spot t.is

    pub piece_holds : HoldsAll xs i C → HoldsAll xs j D
    piece_holds all = below_all C D h piece.cut s j piece.place all piece.within

    pub piece_few : length C ≤ 32 + length x.path → (y : Spot) → slice_get xs j ≡ Some y → length D ≤ 32 + length y.path
    piece_few l y f =
        let same : t.spot ≡ y = same_Some t.spot y (sym t.is ∙ f) in
        omega (arith, l, piece.few, ap length t.path, ap (λ (z : Spot). length z.path) same, length-append x.path (s ∷ []))

    pub piece_falls : length x.path < 48 → 49 - depth_at xs j < 49 - depth_at xs i
    piece_falls l =
        let deeper = part_deeper xs tree i x e t.spot j s t.is t.path in
        let short = path_depth xs i x e x.path refl in
        omega (arith, deeper, short, l)

    -- what is asked of a walk that goes down to the part
    pub goes : HoldsAll xs i C → length C ≤ 32 + length x.path → length x.path < 48 → (t : ℕ) → 49 - depth_at xs i ≡ t
        → (49 - depth_at xs j < t) × (AreSpots xs × ((j < length xs) × (HoldsAll xs j D × ((y : Spot) → slice_get xs j ≡ Some y → length D ≤ 32 + length y.path))))
    goes all few short t is = (subst (λ (n : ℕ). 49 - depth_at xs j < n) is (piece_falls short), (tree, (piece_there, (piece_holds all, piece_few few))))

  -- the part of a region on the side s, cut off by the form
  pub cut_piece : (C D : Area) (h : LinearForm) (s : Side) (j : ℕ) → x.outcome ≡ Some (Cut h) → j ≡ part_place x.parts s → D ≡ C ++ half_on s h ∷ [] → IsPiece C D h s j
  cut_piece C D h s j cut place is = record {
    cut = cut;
    place = place;
    within = λ r k. let both : IsIn (C ++ half_on s h ∷ []) r = subst (λ (R : Area). IsIn R r) is k in (IsIn-front C (half_on s h) r both, IsIn-last C (half_on s h) r both);
    few = omega (arith, ap length is, length-append C (half_on s h ∷ []));
  }

  -- a region that is on the side s whole
  pub whole_piece : (C : Area) (h : LinearForm) (s : Side) (j : ℕ) → x.outcome ≡ Some (Cut h) → j ≡ part_place x.parts s → ((r : Point) → IsIn C r → Sign s (value h r)) → IsPiece C C h s j
  whole_piece C h s j cut place all = record { cut = cut; place = place; within = λ r k. (k, on_side s h r (all r k)); few = omega arith }
