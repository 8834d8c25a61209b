-- One event more.
use Rattle.std.proofs.Common.{◌≡◌, ◌⊎◌, inl, inr, ℕ, zero, suc, true, false, cond, List, [], ◌∷◌, ◌++◌, take, slice_get, refl, sym, ap, subst, ◌∙◌, true≢false, append_assoc, append-nil}
use Rattle.std.specs.declared.option.Option.{Option}
use Rattle.std.specs.declared.option.Option.TheVariants.{Some, None}
use Rattle.srs_path.specs.declared.paths.Side.{Side}
use Rattle.srs_path.specs.declared.paths.Side.TheVariants.{Ge, Lt}
use Rattle.srs_path.specs.declared.outcomes.Outcome.{Outcome}
use Rattle.srs_path.specs.Views.{Entry}
use Rattle.srs_tree.specs.Tree.{History, Tree, path_eq, outcome_at, IsCellOf, IsLeafOf, IsPartition, region_at, halves_along, cut_half}
use Rattle.srs_tree.specs.Legality.{MayFollow, IsLegal}
use Rattle.srs_plane.specs.Regions.{Area, IsIn, HasPoint}

pub path_eq_same : (p : List Side) → path_eq p p ≡ true
path_eq_same [] = refl
path_eq_same (Ge ∷ p) = path_eq_same p
path_eq_same (Lt ∷ p) = path_eq_same p

pub same_path : (p q : List Side) → path_eq p q ≡ true → p ≡ q
same_path [] [] e = refl
same_path [] (t ∷ q) e = absurd (true≢false (sym e))
same_path (s ∷ p) [] e = absurd (true≢false (sym e))
same_path (Ge ∷ p) (Ge ∷ q) e = ap (λ r. Ge ∷ r) (same_path p q e)
same_path (Ge ∷ p) (Lt ∷ q) e = absurd (true≢false (sym e))
same_path (Lt ∷ p) (Ge ∷ q) e = absurd (true≢false (sym e))
same_path (Lt ∷ p) (Lt ∷ q) e = ap (λ r. Lt ∷ r) (same_path p q e)

-- the first of two outcomes
abbrev pub or_else : Option Outcome → Option Outcome → Option Outcome
or_else None y = y
or_else (Some x) y = Some x

pub outcome_at-append : (H K : History) (p : List Side) → outcome_at (H ++ K) p ≡ or_else (outcome_at H p) (outcome_at K p)
outcome_at-append [] K p = refl
outcome_at-append (e ∷ H) K p =
    let rest = outcome_at-append H K p in
    elim (path_eq e.path p) as (λ b. cond b (Some e.outcome) (outcome_at (H ++ K) p) ≡ or_else (cond b (Some e.outcome) (outcome_at H p)) (outcome_at K p)) [ true ↦ refl | false ↦ rest ]

-- an outcome stays
pub outcome_at_stays : (H K : History) (p : List Side) (o : Outcome) → outcome_at H p ≡ Some o → outcome_at (H ++ K) p ≡ Some o
outcome_at_stays H K p o e = outcome_at-append H K p ∙ ap (λ x. or_else x (outcome_at K p)) e

-- a cell stays
pub IsCellOf_stays : (H K : History) (p : List Side) → IsCellOf (outcome_at H) p → IsCellOf (outcome_at (H ++ K)) p
IsCellOf_stays H K p (inl e) = inl e
IsCellOf_stays H K p (inr c) = inr (record { parent = c.parent; side = c.side; form = c.form; is = c.is; cut = outcome_at_stays H K c.parent _ c.cut })

-- an entry_at of a longer list, from the front
pub slice_get_snoc : (H : History) (e : Entry) (k : ℕ) (f : Entry) → slice_get (H ++ e ∷ []) k ≡ Some f
    → ((slice_get H k ≡ Some f) × (take k (H ++ e ∷ []) ≡ take k H)) ⊎ ((f ≡ e) × (take k (H ++ e ∷ []) ≡ H))
slice_get_snoc [] e zero f g = inr (cc, refl)
slice_get_snoc [] e (suc k) f g = absurd (none_some g)
  where
    none_some : None ≡ Some f → ⊥
    none_some h = let u : true ≡ false = cc in true≢false u
slice_get_snoc (x ∷ H) e zero f g = inl (g, refl)
slice_get_snoc (x ∷ H) e (suc k) f g =
    elim (slice_get_snoc H e k f g) [ inl u ↦ inl (u.0, ap (λ (t : History). x ∷ t) u.1) | inr u ↦ inr (u.0, ap (λ (t : History). x ∷ t) u.1) ]

-- a legal history stays legal with an event that may follow it
pub IsLegal-append : (Root : Area) (W : ℕ) (H : History) (e : Entry) → IsLegal Root W H → MayFollow Root W H e → IsLegal Root W (H ++ e ∷ [])
IsLegal-append Root W H e legal may k f g =
    elim (slice_get_snoc H e k f g) [
      | inl u ↦ subst (λ (G : History). MayFollow Root W G f) (sym u.1) (legal k f u.0)
      | inr u ↦ subst (λ (G : History). MayFollow Root W G f) (sym u.1) (subst (λ (x : Entry). MayFollow Root W H x) (sym u.0) may)
    ]

pub IsLegal-empty : (Root : Area) (W : ℕ) → IsLegal Root W []
IsLegal-empty Root W k e g = absurd (let u : true ≡ false = cc in true≢false u)

-- the cell of a part is the cell of the parent with the side's half appended
halves_along_snoc : (T : Tree) (above rest : List Side) (s : Side) → halves_along T above (rest ++ s ∷ []) ≡ halves_along T above rest ++ cut_half (T (above ++ rest)) s
halves_along_snoc T above [] s = append-nil _ ∙ ap (λ p. cut_half (T p) s) (sym (append-nil above))
halves_along_snoc T above (t ∷ rest) s =
    ap (λ x. cut_half (T above) t ++ x) (halves_along_snoc T (above ++ t ∷ []) rest s ∙ ap (λ p. halves_along T (above ++ t ∷ []) rest ++ cut_half (T p) s) (append_assoc above (t ∷ []) rest))
    ∙ sym (append_assoc (cut_half (T above) t) _ _)

pub region_at-snoc : (Root : Area) (T : Tree) (p : List Side) (s : Side) → region_at Root T (p ++ s ∷ []) ≡ region_at Root T p ++ cut_half (T p) s
region_at-snoc Root T p s = ap (λ x. Root ++ x) (halves_along_snoc T [] p s) ∙ sym (append_assoc Root _ _)

-- the empty history: the root is the one leaf
root_only : (p : List Side) → IsLeafOf (outcome_at []) p → p ≡ []
root_only p leaf = elim leaf.cell [ inl e ↦ e | inr c ↦ absurd (let u : true ≡ false = cc (c.cut) in true≢false u) ]

-- the empty history partitions a region that has a point
pub IsPartition-empty : (Root : Area) → HasPoint Root → IsPartition Root (outcome_at [])
IsPartition-empty Root some = record {
  covered = λ r i. ([], record { leaf = root; point = subst (λ (R : Area). IsIn R r) (sym (append-nil Root)) i });
  once = λ r p q h k. root_only p h.leaf ∙ sym (root_only q k.leaf);
  pointed = λ p leaf. subst HasPoint (same p leaf) some;
  within = λ r p h. subst (λ (R : Area). IsIn R r) (sym (same p h.leaf)) h.point;
}
  where
    root : IsLeafOf (outcome_at []) []
    root = record { cell = inl refl; no_cut = λ h e. let u : true ≡ false = cc in true≢false u }

    same : (p : List Side) → IsLeafOf (outcome_at []) p → Root ≡ region_at Root (outcome_at []) p
    same p leaf = sym (append-nil Root) ∙ ap (region_at Root (outcome_at [])) (sym (root_only p leaf))
