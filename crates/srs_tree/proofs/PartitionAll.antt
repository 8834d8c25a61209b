-- The leaves of each legal history partition a region that has a point.
use Rattle.std.proofs.Common.{◌≡◌, ◌≢◌, ◌⊎◌, inl, inr, ℕ, List, [], ◌∷◌, ◌++◌, refl, sym, ap, subst}
use Rattle.std.specs.declared.option.Option.TheVariants.{Some}
use Rattle.srs_num.specs.Points.{Point, LinearForm}
use Rattle.srs_plane.specs.Regions.{Area, IsIn, HasPoint}
use Rattle.srs_path.specs.declared.paths.Side.{Side}
use Rattle.srs_path.specs.declared.outcomes.Outcome.{Outcome}
use Rattle.srs_path.specs.declared.outcomes.Outcome.TheVariants.{Inside, Outside, Cut, Left}
use Rattle.srs_path.specs.Views.{Entry}
use Rattle.srs_tree.specs.Tree.{History, outcome_at, IsCellOf, IsLeafOf, HoldsAt, IsPartition, region_at}
use Rattle.srs_tree.specs.Legality.{MayFollow, IsLegal}
use Rattle.srs_tree.proofs.HistoryLemmas.{outcome_at_stays, IsCellOf_stays, IsLegal-append, IsLegal-empty, IsPartition-empty}
use Rattle.srs_tree.proofs.TreeLemmas.{region_at_stays}
use Rattle.srs_tree.proofs.TreeCut.{IsPartition-cut}
use Rattle.srs_tree.proofs.Grow.{grow, Each-first}
use Rattle.srs_tree.proofs.CellsLemmas.{outcome_cases}

-- an event that isn't a cut: the leaves and their regions stay
module _ (Root : Area) (W : ℕ) (H : History) (legal : IsLegal Root W H) (parts : IsPartition Root (outcome_at H)) (e : Entry) (plain : (h : LinearForm) → e.outcome ≢ Cut h) where
  abbrev after : History
  after = H ++ e ∷ []

  cut_before : (p : List Side) (h : LinearForm) → outcome_at after p ≡ Some (Cut h) → outcome_at H p ≡ Some (Cut h)
  cut_before p h g = elim (outcome_cases H e p (Cut h) g) [ inl k ↦ k | inr k ↦ absurd (plain h k.1) ]

  cell_before : (p : List Side) → IsCellOf (outcome_at after) p → IsCellOf (outcome_at H) p
  cell_before p (inl q) = inl q
  cell_before p (inr c) = inr (record { parent = c.parent; side = c.side; form = c.form; is = c.is; cut = cut_before c.parent c.form c.cut })

  leaf_before : (p : List Side) → IsLeafOf (outcome_at after) p → IsLeafOf (outcome_at H) p
  leaf_before p leaf = record { cell = cell_before p leaf.cell; no_cut = λ h g. leaf.no_cut h (outcome_at_stays H (e ∷ []) p (Cut h) g) }

  leaf_after : (p : List Side) → IsLeafOf (outcome_at H) p → IsLeafOf (outcome_at after) p
  leaf_after p leaf = record { cell = IsCellOf_stays H (e ∷ []) p leaf.cell; no_cut = λ h g. leaf.no_cut h (cut_before p h g) }

  same : (p : List Side) → IsLeafOf (outcome_at H) p → region_at Root (outcome_at after) p ≡ region_at Root (outcome_at H) p
  same p leaf = region_at_stays Root W H legal (e ∷ []) p leaf.cell

  back : (r : Point) (p : List Side) → HoldsAt Root (outcome_at after) r p → HoldsAt Root (outcome_at H) r p
  back r p new = let leaf = leaf_before p new.leaf in record { leaf = leaf; point = subst (λ (R : Area). IsIn R r) (same p leaf) new.point }

  forth : (r : Point) (p : List Side) → HoldsAt Root (outcome_at H) r p → HoldsAt Root (outcome_at after) r p
  forth r p old = record { leaf = leaf_after p old.leaf; point = subst (λ (R : Area). IsIn R r) (sym (same p old.leaf)) old.point }

  pub IsPartition-plain : IsPartition Root (outcome_at after)
  IsPartition-plain = record {
    covered = λ r i. let t = parts.covered r i in (t.0, forth r t.0 t.1);
    once = λ r p q a b. parts.once r p q (back r p a) (back r q b);
    pointed = λ p leaf. let old = leaf_before p leaf in subst HasPoint (sym (same p old)) (parts.pointed p old);
    within = λ r p a. parts.within r p (back r p a);
  }

-- an outcome is a cut or it isn't
pub cut_or_plain : (o : Outcome) → ((h : LinearForm) × (o ≡ Cut h)) ⊎ ((h : LinearForm) → o ≢ Cut h)
cut_or_plain (Inside rs) = inr (λ h e. cc)
cut_or_plain (Outside c) = inr (λ h e. cc)
cut_or_plain (Cut h) = inl (h, refl)
cut_or_plain (Left x) = inr (λ h e. cc)

pub IsPartition-append : (Root : Area) (W : ℕ) (H : History) (e : Entry) → IsLegal Root W H → IsPartition Root (outcome_at H) → MayFollow Root W H e → IsPartition Root (outcome_at (H ++ e ∷ []))
IsPartition-append Root W H e legal parts may = elim (cut_or_plain e.outcome) [
  | inl t ↦
      let same : e ≡ record { path = e.path; outcome = Cut t.0 } = ap (λ (o : Outcome). let x : Entry = record { path = e.path; outcome = o } in x) t.1 in
      subst (λ (x : Entry). IsPartition Root (outcome_at (H ++ x ∷ []))) (sym same) (IsPartition-cut Root W H legal parts e.path t.0 (subst (MayFollow Root W H) same may))
  | inr plain ↦ IsPartition-plain Root W H legal parts e plain
]

record Kept (Root : Area) (W : ℕ) (H : History) : Type 0 where
  legal : IsLegal Root W H
  parts : IsPartition Root (outcome_at H)

-- each legal history
pub IsPartition-legal : (Root : Area) (W : ℕ) (H : History) → HasPoint Root → IsLegal Root W H → IsPartition Root (outcome_at H)
IsPartition-legal Root W H some legal =
    let kept : Kept Root W H = grow (MayFollow Root W) (Kept Root W) (record { legal = IsLegal-empty Root W; parts = IsPartition-empty Root some })
    (λ G e old may. record { legal = IsLegal-append Root W G e old.legal may; parts = IsPartition-append Root W G e old.legal old.parts may }) H legal in
    kept.parts

-- and each of its prefixes
pub IsLegal-first : (Root : Area) (W : ℕ) (G K : History) → IsLegal Root W (G ++ K) → IsLegal Root W G
IsLegal-first Root W G K legal = Each-first (MayFollow Root W) G K legal

pub IsPartition-first : (Root : Area) (W : ℕ) (G K : History) → HasPoint Root → IsLegal Root W (G ++ K) → IsPartition Root (outcome_at G)
IsPartition-first Root W G K some legal = IsPartition-legal Root W G some (IsLegal-first Root W G K legal)
