-- Paths in a tree whose entries stand at cells.
use Rattle.std.proofs.Common.{◌≡◌, ◌⊎◌, inl, inr, ℕ, zero, suc, ◌≤◌, ◌<◌, List, [], ◌∷◌, ◌++◌, length, length-append, refl, sym, ap, subst, ◌∙◌, arith, append_assoc, append-nil, Some}
use Rattle.srs_num.specs.Points.{LinearForm}
use Rattle.srs_path.specs.declared.paths.Side.{Side}
use Rattle.srs_path.specs.declared.outcomes.Outcome.{Outcome}
use Rattle.srs_path.specs.declared.outcomes.Outcome.TheVariants.{Cut}
use Rattle.srs_tree.specs.Tree.{Tree, IsCellOf}
use Rattle.srs_tree.specs.Growth.{IsLongestCell}
use Rattle.srs_tree.proofs.TreeCut.{same_parent}

-- each path that has something is a cell
abbrev pub IsClosed : Tree → Type 0
IsClosed T = (p : List Side) (o : Outcome) → T p ≡ Some o → IsCellOf T p

-- a list is empty, or it has a last element
pub front_last : (q : List Side) → (q ≡ []) ⊎ ((f : List Side) × (t : Side) × (q ≡ f ++ t ∷ []))
front_last [] = inl refl
front_last (x ∷ q) = elim (front_last q) [
  | inl e ↦ inr ([], x, ap (λ (u : List Side). x ∷ u) e)
  | inr t ↦ inr (x ∷ t.0, t.1, ap (λ (u : List Side). x ∷ u) t.2)
]

-- the cut that a part is a part of
pub parent_cut : (T : Tree) (p : List Side) (s : Side) → IsCellOf T (p ++ s ∷ []) → (h : LinearForm) × (T p ≡ Some (Cut h))
parent_cut T p s (inl e) = absurd (omega (arith, ap length e, length-append p (s ∷ [])))
parent_cut T p s (inr c) = (c.form, ap T (same_parent p c.parent s c.side c.is) ∙ c.cut)

module _ (T : Tree) (closed : IsClosed T) where
  prefix_by : (n : ℕ) (p q : List Side) → length q ≤ n → IsCellOf T (p ++ q) → IsCellOf T p
  prefix_by zero p [] l c = subst (IsCellOf T) (append-nil p) c
  prefix_by zero p (x ∷ q) l c = absurd (omega arith)
  prefix_by (suc n) p q l c = elim (front_last q) [
    | inl e ↦ subst (IsCellOf T) (ap (λ (u : List Side). p ++ u) e ∙ append-nil p) c
    | inr t ↦
        let part : IsCellOf T ((p ++ t.0) ++ t.1 ∷ []) = subst (IsCellOf T) (ap (λ (u : List Side). p ++ u) t.2 ∙ sym (append_assoc p t.0 (t.1 ∷ []))) c in
        let cut = parent_cut T (p ++ t.0) t.1 part in
        prefix_by n p t.0 (omega (arith, ap length t.2, length-append t.0 (t.1 ∷ []))) (closed (p ++ t.0) (Cut cut.0) cut.1)
  ]

  -- a prefix of a cell is a cell
  pub prefix_cell : (p q : List Side) → IsCellOf T (p ++ q) → IsCellOf T p
  prefix_cell p q c = prefix_by (length q) p q (omega arith) c

  -- below a path without a cut there are no cells
  pub none_below : (p q : List Side) (s : Side) → ((h : LinearForm) → T p ≡ Some (Cut h) → ⊥) → IsCellOf T (p ++ s ∷ q) → ⊥
  none_below p q s plain c =
      let part : IsCellOf T (p ++ s ∷ []) = prefix_cell (p ++ s ∷ []) q (subst (IsCellOf T) (sym (append_assoc p (s ∷ []) q)) c) in
      let cut = parent_cut T p s part in
      plain cut.0 cut.1

  -- of two beginnings of a path the longer begins with the shorter
  longer : (p q r u : List Side) → p ++ q ≡ r ++ u → length p < length r → (s : Side) × (v : List Side) × (r ≡ p ++ s ∷ v)
  longer [] q [] u e l = absurd (omega arith)
  longer [] q (s ∷ r) u e l = (s, r, refl)
  longer (x ∷ p) q [] u e l = absurd (omega arith)
  longer (x ∷ p) q (y ∷ r) u e l =
      let head : x ≡ y = cc in
      let rest : p ++ q ≡ r ++ u = cc in
      let t = longer p q r u rest (omega arith) in
      (t.0, t.1, ap (λ (v : List Side). y ∷ v) t.2 ∙ ap (λ (z : Side). z ∷ p ++ t.0 ∷ t.1) (sym head))

  -- a cell without a cut is the longest beginning that is a cell
  pub longest_cell : (p q : List Side) → IsCellOf T p → ((h : LinearForm) → T p ≡ Some (Cut h) → ⊥) → IsLongestCell T (p ++ q) p
  longest_cell p q cell plain = record { rest = q; is = refl; cell = cell; longest = longest }
    where
      longest : (r u : List Side) → p ++ q ≡ r ++ u → IsCellOf T r → length r ≤ length p
      longest r u e c =
          let no : length p < length r → ⊥ = λ l. let t = longer p q r u e l in none_below p t.1 t.0 plain (subst (IsCellOf T) t.2 c) in
          omega (arith, no)
