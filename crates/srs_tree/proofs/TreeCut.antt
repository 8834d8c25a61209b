-- The partition after a cut.
use Rattle.std.proofs.Common.{◌≡◌, ◌≢◌, ◌⊎◌, inl, inr, ℕ, true, false, cond, List, [], ◌∷◌, ◌++◌, length, length-append, refl, sym, ap, ap₂, subst, ◌∙◌, arith, true≢false, ℤ, pos, ◌≤ℤ◌, ◌<ℤ◌}
use Rattle.std.proofs.lemmas.Int.{ints, by_lt_z}
use Rattle.std.specs.declared.option.Option.{Option}
use Rattle.std.specs.declared.option.Option.TheVariants.{Some, None}
use Rattle.srs_num.specs.Points.{Point, LinearForm, value}
use Rattle.srs_plane.specs.Regions.{Area, IsIn, IsInHalf, HasPoint}
use Rattle.srs_plane.proofs.Members.{IsIn-push, IsIn-front, IsIn-last}
use Rattle.srs_num.proofs.Identities.{value-opposite}
use Rattle.srs_path.specs.declared.paths.Side.{Side}
use Rattle.srs_path.specs.declared.paths.Side.TheVariants.{Ge, Lt}
use Rattle.srs_path.specs.declared.outcomes.Outcome.{Outcome}
use Rattle.srs_path.specs.declared.outcomes.Outcome.TheVariants.{Cut}
use Rattle.srs_tree.specs.Tree.{History, path_eq, outcome_at, IsLeafOf, HoldsAt, IsPartition, region_at, cut_half, half_on}
use Rattle.srs_tree.specs.Legality.{MayFollow, IsLegal}
use Rattle.srs_tree.proofs.HistoryLemmas.{same_path, path_eq_same, outcome_at_stays, IsCellOf_stays, region_at-snoc, or_else, outcome_at-append}
use Rattle.srs_tree.proofs.TreeLemmas.{cell_of_outcome, region_at_stays}

-- the side of the form's sign
abbrev pub Sign : Side → ℤ → Type 0
Sign Ge v = pos 0 ≤ℤ v
Sign Lt v = v <ℤ pos 0

pub on_side : (s : Side) (h : LinearForm) (r : Point) → Sign s (value h r) → IsInHalf (half_on s h) r
on_side Ge h r k = k
on_side Lt h r k = let e = value-opposite h r in omega (arith, ints, e)

pub sign_of : (s : Side) (h : LinearForm) (r : Point) → IsInHalf (half_on s h) r → Sign s (value h r)
sign_of Ge h r k = k
sign_of Lt h r k = let e = value-opposite h r in omega (arith, ints, e)

pub one_sign : (s t : Side) (v : ℤ) → Sign s v → Sign t v → s ≡ t
one_sign Ge Ge v h k = refl
one_sign Ge Lt v h k = absurd (omega (arith, ints))
one_sign Lt Ge v h k = absurd (omega (arith, ints))
one_sign Lt Lt v h k = refl

pub some_sign : (v : ℤ) → (s : Side) × Sign s v
some_sign v = by_lt_z v (pos 0) (λ l. (Lt, l)) (λ g. (Ge, g))

-- two paths with a last side
pub same_parent : (p q : List Side) (s t : Side) → p ++ s ∷ [] ≡ q ++ t ∷ [] → p ≡ q
same_parent [] [] s t e = refl
same_parent [] (y ∷ q) s t e = absurd (omega (arith, ap length e, length-append q (t ∷ [])))
same_parent (x ∷ p) [] s t e = absurd (omega (arith, ap length e, length-append p (s ∷ [])))
same_parent (x ∷ p) (y ∷ q) s t e =
    let a : x ≡ y = cc in let b : p ++ s ∷ [] ≡ q ++ t ∷ [] = cc in ap₂ (λ (u : Side) (v : List Side). u ∷ v) a (same_parent p q s t b)

module _ (Root : Area) (W : ℕ) (H : History) (legal : IsLegal Root W H) (parts : IsPartition Root (outcome_at H)) (p0 : List Side) (h : LinearForm) (may : MayFollow Root W H (record { path = p0; outcome = Cut h })) where
  abbrev after : History
  after = H ++ record { path = p0; outcome = Cut h } ∷ []

  cut_there : outcome_at after p0 ≡ Some (Cut h)
  cut_there = outcome_at-append H _ p0 ∙ ap (λ o. or_else o (cond (path_eq p0 p0) (Some (Cut h)) None)) may.fresh ∙ ap (λ b. cond b (Some (Cut h)) None) (path_eq_same p0)

  -- p0 was a leaf
  old_leaf : IsLeafOf (outcome_at H) p0
  old_leaf = record { cell = may.there; no_cut = λ g e. let u : true ≡ false = cc (may.fresh, e) in true≢false u }

  -- a part of p0 has no outcome
  part_fresh : (s : Side) (o : Outcome) → outcome_at H (p0 ++ s ∷ []) ≡ Some o → ⊥
  part_fresh s o e = elim (cell_of_outcome Root W H legal (p0 ++ s ∷ []) o e) [
    | inl f ↦ absurd (omega (arith, ap length f, length-append p0 (s ∷ [])))
    | inr c ↦ let g : p0 ≡ c.parent = same_parent p0 c.parent s c.side c.is in
        let k : outcome_at H p0 ≡ Some (Cut c.form) = ap (outcome_at H) g ∙ c.cut in
        let u : true ≡ false = cc (may.fresh, k) in true≢false u
  ]

  none_some : (g : LinearForm) → ◌≡◌ {A = Option Outcome} None (Some (Cut g)) → ⊥
  none_some g e = let u : true ≡ false = cc in true≢false u

  -- a cut of the longer history is one of H, or it is at p0
  after_cases : (p : List Side) (g : LinearForm) → outcome_at after p ≡ Some (Cut g) → (outcome_at H p ≡ Some (Cut g)) ⊎ (p ≡ p0)
  after_cases p g e =
      elim (outcome_at H p) as (λ o. outcome_at H p ≡ o → or_else o (cond (path_eq p0 p) (Some (Cut h)) None) ≡ Some (Cut g) → (outcome_at H p ≡ Some (Cut g)) ⊎ (p ≡ p0)) [
        | Some o ↦ λ q k. inl (q ∙ k)
        | None ↦ λ q k. elim (path_eq p0 p) as (λ b. path_eq p0 p ≡ b → cond b (Some (Cut h)) None ≡ Some (Cut g) → (outcome_at H p ≡ Some (Cut g)) ⊎ (p ≡ p0)) [
          | true ↦ λ m n. inr (sym (same_path p0 p m))
          | false ↦ λ m n. absurd (none_some g n)
        ] refl k
      ] refl (sym (outcome_at-append H _ p) ∙ e)

  -- a leaf after the cut is an old leaf other than p0, or a part of p0
  leaf_after : (p : List Side) → IsLeafOf (outcome_at after) p → (IsLeafOf (outcome_at H) p × (p ≢ p0)) ⊎ ((s : Side) × (p ≡ p0 ++ s ∷ []))
  leaf_after p leaf =
      let no_cut : (g : LinearForm) → outcome_at H p ≢ Some (Cut g) = λ g e. leaf.no_cut g (outcome_at_stays H _ p (Cut g) e) in
      let other : p ≢ p0 = λ e. leaf.no_cut h (ap (outcome_at after) e ∙ cut_there) in
      elim leaf.cell [
        | inl e ↦ inl (record { cell = inl e; no_cut = no_cut }, other)
        | inr c ↦ elim (after_cases c.parent c.form c.cut) [
          | inl k ↦ inl (record { cell = inr (record { parent = c.parent; side = c.side; form = c.form; is = c.is; cut = k }); no_cut = no_cut }, other)
          | inr q ↦ inr (c.side, c.is ∙ ap (λ (x : List Side). x ++ c.side ∷ []) q)
        ]
      ]

  old_stays : (p : List Side) → IsLeafOf (outcome_at H) p → p ≢ p0 → IsLeafOf (outcome_at after) p
  old_stays p leaf other = record {
    cell = IsCellOf_stays H _ p leaf.cell;
    no_cut = λ g e. elim (after_cases p g e) [ inl k ↦ leaf.no_cut g k | inr q ↦ other q ];
  }

  part_leaf : (s : Side) → IsLeafOf (outcome_at after) (p0 ++ s ∷ [])
  part_leaf s = record {
    cell = inr (record { parent = p0; side = s; form = h; is = refl; cut = cut_there });
    no_cut = λ g e. elim (after_cases (p0 ++ s ∷ []) g e) [ inl k ↦ part_fresh s (Cut g) k | inr q ↦ absurd (omega (arith, ap length q, length-append p0 (s ∷ []))) ];
  }

  part_region : (s : Side) → region_at Root (outcome_at after) (p0 ++ s ∷ []) ≡ region_at Root (outcome_at H) p0 ++ half_on s h ∷ []
  part_region s = region_at-snoc Root (outcome_at after) p0 s ∙ ap₂ (λ (x : Area) (o : Option Outcome). x ++ cut_half o s) (region_at_stays Root W H legal _ p0 may.there) cut_there

  part_holds : (r : Point) (s : Side) → HoldsAt Root (outcome_at H) r p0 → Sign s (value h r) → HoldsAt Root (outcome_at after) r (p0 ++ s ∷ [])
  part_holds r s old k = record {
    leaf = part_leaf s;
    point = subst (λ (R : Area). IsIn R r) (sym (part_region s)) (IsIn-push (region_at Root (outcome_at H) p0) (half_on s h) r old.point (on_side s h r k));
  }

  part_point : (r : Point) (s : Side) → HoldsAt Root (outcome_at after) r (p0 ++ s ∷ []) → HoldsAt Root (outcome_at H) r p0 × Sign s (value h r)
  part_point r s new =
      let i : IsIn (region_at Root (outcome_at H) p0 ++ half_on s h ∷ []) r = subst (λ (R : Area). IsIn R r) (part_region s) new.point in
      (record { leaf = old_leaf; point = IsIn-front _ (half_on s h) r i }, sign_of s h r (IsIn-last (region_at Root (outcome_at H) p0) (half_on s h) r i))

  back : (r : Point) (p : List Side) → IsLeafOf (outcome_at H) p → HoldsAt Root (outcome_at after) r p → HoldsAt Root (outcome_at H) r p
  back r p leaf new = record { leaf = leaf; point = subst (λ (R : Area). IsIn R r) (region_at_stays Root W H legal _ p leaf.cell) new.point }

  forth : (r : Point) (p : List Side) → p ≢ p0 → HoldsAt Root (outcome_at H) r p → HoldsAt Root (outcome_at after) r p
  forth r p other old = record { leaf = old_stays p old.leaf other; point = subst (λ (R : Area). IsIn R r) (sym (region_at_stays Root W H legal _ p old.leaf.cell)) old.point }

  covered : (r : Point) → IsIn Root r → (p : List Side) × HoldsAt Root (outcome_at after) r p
  covered r i =
      let t = parts.covered r i in
      elim (path_eq p0 t.0) as (λ b. path_eq p0 t.0 ≡ b → (p : List Side) × HoldsAt Root (outcome_at after) r p) [
        | true ↦ λ m. let s = some_sign (value h r) in (p0 ++ s.0 ∷ [], part_holds r s.0 (subst (HoldsAt Root (outcome_at H) r) (sym (same_path p0 t.0 m)) t.1) s.1)
        | false ↦ λ m. (t.0, forth r t.0 (λ e. true≢false (sym (path_eq_same p0) ∙ ap (path_eq p0) (sym e) ∙ m)) t.1)
      ] refl

  once : (r : Point) (p q : List Side) → HoldsAt Root (outcome_at after) r p → HoldsAt Root (outcome_at after) r q → p ≡ q
  once r p q a b = elim (leaf_after p a.leaf) [
    | inl u ↦ elim (leaf_after q b.leaf) [
      | inl v ↦ parts.once r p q (back r p u.0 a) (back r q v.0 b)
      | inr v ↦ absurd (u.1 (parts.once r p p0 (back r p u.0 a) (part_point r v.0 (subst (HoldsAt Root (outcome_at after) r) v.1 b)).0))
    ]
    | inr u ↦ elim (leaf_after q b.leaf) [
      | inl v ↦ absurd (v.1 (parts.once r q p0 (back r q v.0 b) (part_point r u.0 (subst (HoldsAt Root (outcome_at after) r) u.1 a)).0))
      | inr v ↦ u.1 ∙ ap (λ (s : Side). p0 ++ s ∷ []) (one_sign u.0 v.0 (value h r) (part_point r u.0 (subst (HoldsAt Root (outcome_at after) r) u.1 a)).1 (part_point r v.0 (subst (HoldsAt Root (outcome_at after) r) v.1 b)).1) ∙ sym v.1
    ]
  ]

  side_point : (s : Side) → (r : Point) × IsIn (region_at Root (outcome_at H) p0) r × Sign s (value h r)
  side_point Ge = may.sound.not_below
  side_point Lt = may.sound.below

  pointed : (p : List Side) → IsLeafOf (outcome_at after) p → HasPoint (region_at Root (outcome_at after) p)
  pointed p leaf = elim (leaf_after p leaf) [
    | inl u ↦ subst HasPoint (sym (region_at_stays Root W H legal _ p u.0.cell)) (parts.pointed p u.0)
    | inr u ↦ let t = side_point u.0 in
        (t.0, subst (λ (q : List Side). IsIn (region_at Root (outcome_at after) q) t.0) (sym u.1) (part_holds t.0 u.0 (record { leaf = old_leaf; point = t.1 }) t.2).point)
  ]

  within : (r : Point) (p : List Side) → HoldsAt Root (outcome_at after) r p → IsIn Root r
  within r p a = elim (leaf_after p a.leaf) [
    | inl u ↦ parts.within r p (back r p u.0 a)
    | inr u ↦ parts.within r p0 (part_point r u.0 (subst (HoldsAt Root (outcome_at after) r) u.1 a)).0
  ]

  -- the leaves still partition Root
  pub IsPartition-cut : IsPartition Root (outcome_at after)
  IsPartition-cut = record { covered = covered; once = once; pointed = pointed; within = within }
