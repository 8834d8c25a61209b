-- The leaves of a whole tree whose cuts all divide their cells partition its root region.
use Rattle.std.proofs.Common.{◌≡◌, inl, inr, ℕ, zero, suc, ◌+◌, ◌<◌, ◌≤◌, true, false, cond, List, [], ◌∷◌, ◌++◌, map, length, take, drop, get_or, slice_get, refl, sym, ap, ap₂, subst, ◌∙◌, arith, take-append-drop}
use Rattle.std.specs.Prelude.{Contains}
use Rattle.std.proofs.lemmas.Option.{same_Some, slice_get-get_or}
use Rattle.std.proofs.lemmas.List.{take_more, take_all, map-append}
use Rattle.std.specs.declared.option.Option.{Option}
use Rattle.std.specs.declared.option.Option.TheVariants.{Some, None}
use Rattle.srs_num.specs.Points.{Point, LinearForm}
use Rattle.srs_plane.specs.declared.halves.Half.{Half}
use Rattle.srs_plane.specs.Regions.{Area, IsIn, HasPoint, Divides}
use Rattle.srs_path.specs.declared.paths.Side.{Side}
use Rattle.srs_path.specs.declared.outcomes.Cause.TheVariants.{Memory}
use Rattle.srs_path.specs.declared.outcomes.Outcome.{Outcome}
use Rattle.srs_path.specs.declared.outcomes.Outcome.TheVariants.{Inside, Outside, Cut, Left}
use Rattle.srs_path.specs.Soundness.{IsSound}
use Rattle.srs_path.specs.Views.{Entry}
use Rattle.srs_tree.specs.Tree.{History, Tree, path_eq, outcome_at, IsCellOf, IsLeafOf, IsPartition, HoldsAt, region_at, halves_along, cut_half}
use Rattle.srs_tree.specs.Legality.{MayFollow, IsLegal}
use Rattle.srs_tree.specs.WholeTrees.{ListsWholeTree}
use Rattle.srs_tree.proofs.HistoryLemmas.{IsLegal-append, IsLegal-empty}
use Rattle.srs_tree.proofs.TreeLemmas.{region_at_stays}
use Rattle.srs_tree.proofs.PartitionAll.{IsPartition-legal}
use Rattle.srs_cert.specs.Preorders.{AreOpenAfter}
use Rattle.srs_cert.proofs.Preordered.{walked_all, walked_takes}

-- an outcome with nothing but its cut
abbrev pub cut_of : Outcome → Outcome
cut_of (Inside ranks) = Left Memory
cut_of (Outside cycle) = Left Memory
cut_of (Cut h) = Cut h
cut_of (Left cause) = Left Memory

abbrev pub cut_event : Entry → Entry
cut_event e = record { path = e.path; outcome = cut_of e.outcome }

-- the history with nothing but its cuts
abbrev pub cuts_of : History → History
cuts_of H = map cut_event H

abbrev pub cut_in : Option Outcome → Option Outcome
cut_in None = None
cut_in (Some o) = Some (cut_of o)

pub outcome_at-cuts : (H : History) (p : List Side) → outcome_at (cuts_of H) p ≡ cut_in (outcome_at H p)
outcome_at-cuts [] p = refl
outcome_at-cuts (e ∷ H) p =
    let rest = outcome_at-cuts H p in
    elim (path_eq e.path p) as (λ b. cond b (Some (cut_of e.outcome)) (outcome_at (cuts_of H) p) ≡ cut_in (cond b (Some e.outcome) (outcome_at H p))) [ true ↦ refl | false ↦ rest ]

same_half : (x : Option Outcome) (s : Side) → cut_half (cut_in x) s ≡ cut_half x s
same_half None s = refl
same_half (Some (Inside ranks)) s = refl
same_half (Some (Outside cycle)) s = refl
same_half (Some (Cut h)) s = refl
same_half (Some (Left cause)) s = refl

cut_kept : (x : Option Outcome) (h : LinearForm) → x ≡ Some (Cut h) → cut_in x ≡ Some (Cut h)
cut_kept x h e = ap cut_in e

cut_was : (x : Option Outcome) (h : LinearForm) → cut_in x ≡ Some (Cut h) → x ≡ Some (Cut h)
cut_was None h e = e
cut_was (Some (Inside ranks)) h e = let r : Left Memory ≡ Cut h = same_Some (Left Memory) (Cut h) e in cc
cut_was (Some (Outside cycle)) h e = let r : Left Memory ≡ Cut h = same_Some (Left Memory) (Cut h) e in cc
cut_was (Some (Cut g)) h e = e
cut_was (Some (Left cause)) h e = let r : Left Memory ≡ Cut h = same_Some (Left Memory) (Cut h) e in cc

-- a tree and the one with the same cuts have the same cells, leaves and regions
module _ (S T : Tree) (same : (p : List Side) → S p ≡ cut_in (T p)) where
  pub cell_forth : (p : List Side) → IsCellOf T p → IsCellOf S p
  cell_forth p (inl e) = inl e
  cell_forth p (inr c) = inr (record { parent = c.parent; side = c.side; form = c.form; is = c.is; cut = same c.parent ∙ cut_kept (T c.parent) c.form c.cut })

  pub cell_back : (p : List Side) → IsCellOf S p → IsCellOf T p
  cell_back p (inl e) = inl e
  cell_back p (inr c) = inr (record { parent = c.parent; side = c.side; form = c.form; is = c.is; cut = cut_was (T c.parent) c.form (sym (same c.parent) ∙ c.cut) })

  leaf_forth : (p : List Side) → IsLeafOf T p → IsLeafOf S p
  leaf_forth p l = record { cell = cell_forth p l.cell; no_cut = λ h e. l.no_cut h (cut_was (T p) h (sym (same p) ∙ e)) }

  leaf_back : (p : List Side) → IsLeafOf S p → IsLeafOf T p
  leaf_back p l = record { cell = cell_back p l.cell; no_cut = λ h e. l.no_cut h (same p ∙ cut_kept (T p) h e) }

  halves_same : (above rest : List Side) → halves_along S above rest ≡ halves_along T above rest
  halves_same above [] = refl
  halves_same above (s ∷ rest) = ap₂ (λ (x y : List Half). x ++ y) (ap (λ (o : Option Outcome). cut_half o s) (same above) ∙ same_half (T above) s) (halves_same (above ++ s ∷ []) rest)

  pub region_same : (Root : Area) (p : List Side) → region_at Root S p ≡ region_at Root T p
  region_same Root p = ap (λ (x : List Half). Root ++ x) (halves_same [] p)

  pub holds_forth : (Root : Area) (r : Point) (p : List Side) → HoldsAt Root T r p → HoldsAt Root S r p
  holds_forth Root r p h = record { leaf = leaf_forth p h.leaf; point = subst (λ (R : Area). IsIn R r) (sym (region_same Root p)) h.point }

  pub holds_back : (Root : Area) (r : Point) (p : List Side) → HoldsAt Root S r p → HoldsAt Root T r p
  holds_back Root r p h = record { leaf = leaf_back p h.leaf; point = subst (λ (R : Area). IsIn R r) (region_same Root p) h.point }

  partition_back : (Root : Area) → IsPartition Root S → IsPartition Root T
  partition_back Root parts = record {
    covered = λ r i. let t = parts.covered r i in (t.0, holds_back Root r t.0 t.1);
    once = λ r p q a b. parts.once r p q (holds_forth Root r p a) (holds_forth Root r q b);
    pointed = λ p l. subst HasPoint (region_same Root p) (parts.pointed p (leaf_forth p l));
    within = λ r p a. parts.within r p (holds_forth Root r p a);
  }

-- each cut among the first n events divides its cell
abbrev pub DividesBefore : Area → History → ℕ → Type 0
DividesBefore Root H n = (k : ℕ) (e : Entry) (h : LinearForm) → k < n → slice_get H k ≡ Some e → e.outcome ≡ Cut h → Divides (region_at Root (outcome_at H) e.path) h

module _ (Root : Area) (H : History) (tree : ListsWholeTree H) where
  sound_cut : (R : Area) (o : Outcome) → ((h : LinearForm) → o ≡ Cut h → Divides R h) → IsSound R 0 (cut_of o)
  sound_cut R (Inside ranks) d = tt
  sound_cut R (Outside cycle) d = tt
  sound_cut R (Cut h) d = d h refl
  sound_cut R (Left cause) d = tt

  module _ (i : ℕ) (legal : IsLegal Root 0 (cuts_of (take i H))) where
    pub region_then : (p : List Side) → IsCellOf (outcome_at (cuts_of (take i H))) p → region_at Root (outcome_at (cuts_of (take i H))) p ≡ region_at Root (outcome_at H) p
    region_then p cell =
        sym (region_at_stays Root 0 (cuts_of (take i H)) legal (cuts_of (drop i H)) p cell)
        ∙ ap (λ (K : History). region_at Root (outcome_at K) p) (sym (map-append cut_event (take i H) (drop i H)) ∙ ap cuts_of (take-append-drop i H))
        ∙ region_same (outcome_at (cuts_of H)) (outcome_at H) (outcome_at-cuts H) Root p

    may_follow : (e : Entry) (rest : List (List Side)) → ((h : LinearForm) → e.outcome ≡ Cut h → Divides (region_at Root (outcome_at H) e.path) h) → AreOpenAfter (take i H) (e.path ∷ rest) → MayFollow Root 0 (cuts_of (take i H)) (cut_event e)
    may_follow e rest divides o =
        let first : Contains (e.path ∷ rest) e.path = (0, omega arith, refl) in
        let cell : IsCellOf (outcome_at (cuts_of (take i H))) e.path = cell_forth (outcome_at (cuts_of (take i H))) (outcome_at (take i H)) (outcome_at-cuts (take i H)) e.path (o.cells e.path first) in
        record {
          there = cell;
          fresh = outcome_at-cuts (take i H) e.path ∙ ap cut_in (o.fresh e.path first);
          sound = subst (λ (R : Area). IsSound R 0 (cut_of e.outcome)) (sym (region_then e.path cell)) (sound_cut (region_at Root (outcome_at H) e.path) e.outcome divides);
        }

  pub legal_upto : (i : ℕ) → i ≤ length H → DividesBefore Root H i → IsLegal Root 0 (cuts_of (take i H))
  legal_upto zero l divides = IsLegal-empty Root 0
  legal_upto (suc i) l divides =
      let d : Entry = record { path = []; outcome = Left Memory } in
      let e : Entry = get_or H i d in
      let at : slice_get H i ≡ Some e = slice_get-get_or H i d (omega arith) in
      let w = walked_all H tree i (omega arith) in
      let t = walked_takes H i w.0 e w.1 at in
      let old = legal_upto i (omega arith) (λ k f h m bt q. divides k f h (omega arith) bt q) in
      let q : i + 1 ≡ suc i = omega arith in
      let more : cuts_of (take (suc i) H) ≡ cuts_of (take i H) ++ cut_event e ∷ [] =
      ap (λ (n : ℕ). cuts_of (take n H)) (sym q) ∙ ap cuts_of (take_more H i d (omega arith)) ∙ map-append cut_event (take i H) (e ∷ []) in
      subst (IsLegal Root 0) (sym more) (IsLegal-append Root 0 (cuts_of (take i H)) (cut_event e) old (may_follow i old e t.rest (λ h q. divides i e h (omega arith) at q) t.is_open))

  pub partition : DividesBefore Root H (length H) → HasPoint Root → IsPartition Root (outcome_at H)
  partition divides some =
      let legal : IsLegal Root 0 (cuts_of H) = subst (λ (K : History). IsLegal Root 0 (cuts_of K)) (take_all (length H) H (omega arith)) (legal_upto (length H) (omega arith) divides) in
      partition_back (outcome_at (cuts_of H)) (outcome_at H) (outcome_at-cuts H) Root (IsPartition-legal Root 0 (cuts_of H) some legal)
