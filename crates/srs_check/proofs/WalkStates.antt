-- The walk of a check, node by node.
use Rattle.std.proofs.Common.{◌≡◌, ℕ, ◌+◌, ◌<◌, ◌≤◌, List, [], ◌∷◌, ◌++◌, map, length, length-append, get_or, slice_get, refl, sym, ap, ap₂, subst, ◌∙◌, arith, append-nil}
use Rattle.std.proofs.Math.Decide.{dec_lt}
use Rattle.std.proofs.lemmas.List.{map-append, length-map}
use Rattle.std.proofs.lemmas.Option.{same_Some, slice_get_within, slice_get-get_or, get_or_from_slice_get}
use Rattle.std.specs.declared.option.Option.{Option}
use Rattle.std.specs.declared.option.Option.TheVariants.{Some, None}
use Rattle.srs_num.specs.Points.{LinearForm}
use Rattle.srs_plane.specs.Polygons.{region_of}
use Rattle.srs_plane.specs.Regions.{Area}
use Rattle.srs_plane.proofs.Inside.{polygon_has_point}
use Rattle.srs_plane.proofs.Ring_of_vertices.{few_halves}
use Rattle.srs_path.specs.declared.paths.Side.{Side}
use Rattle.srs_path.specs.declared.paths.Side.TheVariants.{Ge, Lt}
use Rattle.srs_path.specs.declared.outcomes.Cause.TheVariants.{Memory}
use Rattle.srs_path.specs.declared.outcomes.Outcome.{Outcome}
use Rattle.srs_path.specs.declared.outcomes.Outcome.TheVariants.{Inside, Outside, Cut, Left}
use Rattle.srs_path.specs.Views.{Entry}
use Rattle.srs_tree.specs.Tree.{Tree, outcome_at, halves_along, cut_half}
use Rattle.srs_tree.specs.Rounds.{parts_by}
use Rattle.srs_tree.specs.Growth.{IsProvedOf}
use Rattle.srs_tree.specs.WholeTrees.{AllowsAt}
use Rattle.srs_tree.proofs.HistoryLemmas.{region_at-snoc}
use Rattle.srs_cert.specs.Certificates.{CertView, IsCertificate}
use Rattle.srs_check.specs.declared.faults.Fault.{Fault}
use Rattle.srs_check.specs.Proving.{Proves, IsProved, node_region}
use Rattle.srs_check.specs.Faults.{Fails, IsFaultOf}
use Rattle.srs_check.specs.Tested.{IsDivided}
use Rattle.srs_check.specs.Walks.{IsStacked, Awaits, IsGood}
use Rattle.srs_check.specs.Certified.{IsCertified}
use Rattle.srs_cert.proofs.Preordered.{Takes, walked_first, walked_takes, walked_outcome}
use Rattle.srs_check.proofs.Cuts.{DividesBefore, partition}

-- each node before node i is good
abbrev pub AreGood : CertView → ℕ → Type 0
AreGood c i = (k : ℕ) (e : Entry) → k < i → slice_get c.events k ≡ Some e → IsGood c e

stacked_parts : (path : List Side) (o : Outcome) (rest : List (List Side)) → IsStacked (path ∷ rest) → IsStacked (parts_by path o ++ rest)
stacked_parts path (Inside ranks) rest s = s.1
stacked_parts path (Outside cycle) rest s = s.1
stacked_parts path (Cut h) rest s = (omega (arith, s.0, length-append path (Ge ∷ [])), (omega (arith, s.0, length-append path (Lt ∷ [])), s.1))
stacked_parts path (Left cause) rest s = s.1

-- before node i: these cells wait, and each node before is good
pub record WalkState (c : CertView) (i : ℕ) (cells : List Area) : Type 0 where
  pub awaits : Awaits c i cells
  pub good : AreGood c i

pub awaits_first : (c : CertView) (root : Area) → IsCertificate c → root ≡ region_of c.vertices → Awaits c 0 (root ∷ [])
awaits_first c root is e = record {
  waiting = [] ∷ [];
  walked = walked_first c.events is.tree;
  cells_are = ap (λ (R : Area). R ∷ []) (e ∙ sym (append-nil (region_of c.vertices)));
  stacked = (omega arith, tt);
}

pub walk_first : (c : CertView) (root : Area) → IsCertificate c → root ≡ region_of c.vertices → WalkState c 0 (root ∷ [])
walk_first c root is e = record { awaits = awaits_first c root is e; good = λ k e l at. absurd (omega arith) }

-- the event at a place
here : (c : CertView) (i : ℕ) → i < length c.events → (e : Entry) × (slice_get c.events i ≡ Some e)
here c i l = let d : Entry = record { path = []; outcome = Left Memory } in (get_or c.events i d, slice_get-get_or c.events i d l)

-- where a node is to come, so is its cell
pub some_cell : (c : CertView) (i : ℕ) → i < length c.events → Awaits c i [] → ⊥
some_cell c i l s =
    let e = here c i l in
    let t = walked_takes c.events i s.waiting e.0 s.walked e.1 in
    let q : [] ≡ node_region c e.0.path ∷ map (node_region c) t.rest = s.cells_are ∙ ap (map (node_region c)) t.first in
    cc

pub good_more : (c : CertView) (i : ℕ) (e : Entry) → slice_get c.events i ≡ Some e → AreGood c i → IsGood c e → AreGood c (i + 1)
good_more c i e at before here k f l bt = elim (dec_lt k i) as (λ _. IsGood c f) [
  | yes g ↦ before k f g bt
  | no g ↦ let q : k ≡ i = omega arith in subst (IsGood c) (same_Some e f (sym at ∙ ap (slice_get c.events) (sym q) ∙ bt)) here
]

-- each cut among good nodes divides its cell
pub good_divides : (c : CertView) (i : ℕ) → AreGood c i → DividesBefore (region_of c.vertices) c.events i
good_divides c i good k e h l at q = subst (λ (o : Outcome). Proves (node_region c e.path) c.limits c.events (length e.path) o) q (good k e l at).proves

no_parts : (path : List Side) (o : Outcome) → ((h : LinearForm) → o ≡ Cut h → ⊥) → parts_by path o ≡ []
no_parts path (Inside ranks) plain = refl
no_parts path (Outside cycle) plain = refl
no_parts path (Cut h) plain = absurd (plain h refl)
no_parts path (Left cause) plain = refl

head_is : (x y : Area) (xs ys : List Area) → x ∷ xs ≡ y ∷ ys → x ≡ y
head_is x y xs ys e = cc

tail_is : (x y : Area) (xs ys : List Area) → x ∷ xs ≡ y ∷ ys → xs ≡ ys
tail_is x y xs ys e = cc

module _ (c : CertView) (i : ℕ) (R : Area) (rest : List Area) (s : Awaits c i (R ∷ rest)) (e : Entry) (at : slice_get c.events i ≡ Some e) where
  t : Takes c.events i s.waiting e
  t = walked_takes c.events i s.waiting e s.walked at

  both : R ∷ rest ≡ node_region c e.path ∷ map (node_region c) t.rest
  both = s.cells_are ∙ ap (map (node_region c)) t.first

  pub cell_is : R ≡ node_region c e.path
  cell_is = head_is R (node_region c e.path) rest (map (node_region c) t.rest) both

  rest_is : rest ≡ map (node_region c) t.rest
  rest_is = tail_is R (node_region c e.path) rest (map (node_region c) t.rest) both

  stacked_here : IsStacked (e.path ∷ t.rest)
  stacked_here = subst IsStacked t.first s.stacked

  -- fewer than 48 wait behind a cell that is cut
  pub few_wait : IsCertificate c → (h : LinearForm) → e.outcome ≡ Cut h → length rest < 48
  few_wait is h q =
      let keeps = subst (λ (x : Entry). AllowsAt c.limits (length x.path) x.outcome) (get_or_from_slice_get c.events i e e at) (is.within.each i e (slice_get_within c.events i e at)) in
      let high : length e.path < c.limits.depth = subst (λ (o : Outcome). AllowsAt c.limits (length e.path) o) q keeps in
      omega (arith, ap length rest_is, length-map t.rest (node_region c), stacked_here.0, high, is.limits_are.depth)

  pub walk_good : Proves R c.limits c.events (length e.path) e.outcome → IsProvedOf R e.outcome → IsGood c e
  walk_good proves sound = record {
    proves = subst (λ (A : Area). Proves A c.limits c.events (length e.path) e.outcome) cell_is proves;
    sound = subst (λ (A : Area). IsProvedOf A e.outcome) cell_is sound;
  }

  -- the cells of its parts come before the others
  pub awaits_next : (parts : List Area) → parts ≡ map (node_region c) (parts_by e.path e.outcome) → Awaits c (i + 1) (parts ++ rest)
  awaits_next parts are = record {
    waiting = parts_by e.path e.outcome ++ t.rest;
    walked = t.next;
    cells_are = ap₂ (λ (xs ys : List Area). xs ++ ys) are rest_is ∙ sym (map-append (node_region c) (parts_by e.path e.outcome) t.rest);
    stacked = stacked_parts e.path e.outcome t.rest stacked_here;
  }

  pub awaits_leaf : ((h : LinearForm) → e.outcome ≡ Cut h → ⊥) → Awaits c (i + 1) rest
  awaits_leaf no_cut = awaits_next [] (ap (map (node_region c)) (sym (no_parts e.path e.outcome no_cut)))

  -- the cell of a part
  part_is : (h : LinearForm) (side : Side) → e.outcome ≡ Cut h → node_region c (e.path ++ side ∷ []) ≡ R ++ cut_half (Some (Cut h)) side
  part_is h side q =
      region_at-snoc (region_of c.vertices) (outcome_at c.events) e.path side
      ∙ ap₂ (λ (A : Area) (o : Option Outcome). A ++ cut_half o side) (sym cell_is) (walked_outcome c.events i e t.rest at t.is_open ∙ ap Some q)

  pub awaits_cut : (x y : Area) → IsDivided R e.outcome x y → Awaits c (i + 1) (x ∷ y ∷ rest)
  awaits_cut x y d =
      awaits_next (x ∷ y ∷ [])
      (ap₂ (λ (a b : Area). a ∷ b ∷ []) (d.parts.above ∙ sym (part_is d.form Ge d.is_cut)) (d.parts.below ∙ sym (part_is d.form Lt d.is_cut))
      ∙ ap (λ (o : Outcome). map (node_region c) (parts_by e.path o)) (sym d.is_cut))

  pub divided_good : (x y : Area) → IsDivided R e.outcome x y → IsGood c e
  divided_good x y d =
      walk_good (subst (λ (o : Outcome). Proves R c.limits c.events (length e.path) o) (sym d.is_cut) d.parts.divides)
      (subst (λ (o : Outcome). IsProvedOf R o) (sym d.is_cut) d.parts.divides)

  pub fails_here : (fault : Fault) → Fails R c.limits c.events (length e.path) e.outcome fault → Fails (node_region c e.path) c.limits c.events (length e.path) e.outcome fault
  fails_here fault wrong = subst (λ (A : Area). Fails A c.limits c.events (length e.path) e.outcome fault) cell_is wrong

module _ (c : CertView) (i : ℕ) (R : Area) (rest : List Area) (s : WalkState c i (R ∷ rest)) (e : Entry) (at : slice_get c.events i ≡ Some e) where
  pub walk_next : Proves R c.limits c.events (length e.path) e.outcome → IsProvedOf R e.outcome → (parts : List Area) → parts ≡ map (node_region c) (parts_by e.path e.outcome) → WalkState c (i + 1) (parts ++ rest)
  walk_next proves sound parts are = record {
    awaits = awaits_next c i R rest s.awaits e at parts are;
    good = good_more c i e at s.good (walk_good c i R rest s.awaits e at proves sound);
  }

  pub walk_fault : (fault : Fault) → Fails R c.limits c.events (length e.path) e.outcome fault → IsFaultOf c i fault
  walk_fault fault wrong = record { entry = e; is = at; wrong = fails_here c i R rest s.awaits e at fault wrong; before = λ k f l bt. (s.good k f l bt).proves }

-- the halves of a cell: those of the root, and one for each side of its path
few_half : (o : Option Outcome) (s : Side) → length (cut_half o s) ≤ 1
few_half None s = omega arith
few_half (Some (Inside ranks)) s = omega arith
few_half (Some (Outside cycle)) s = omega arith
few_half (Some (Cut h)) s = omega arith
few_half (Some (Left cause)) s = omega arith

few_along : (T : Tree) (above rest : List Side) → length (halves_along T above rest) ≤ length rest
few_along T above [] = omega arith
few_along T above (s ∷ rest) = omega (arith, length-append (cut_half (T above) s) (halves_along T (above ++ s ∷ []) rest), few_half (T above) s, few_along T (above ++ s ∷ []) rest)

pub few_at : (c : CertView) → IsCertificate c → (path : List Side) → length (node_region c path) ≤ 16 + length path
few_at c is path =
    omega (arith, length-append (region_of c.vertices) (halves_along (outcome_at c.events) [] path), few_along (outcome_at c.events) [] path, few_halves c.vertices (region_of c.vertices) is.polygon.counted refl)

module _ (c : CertView) (i : ℕ) (good : AreGood c i) (l : length c.events ≤ i) where
  all_good : (k : ℕ) (e : Entry) → slice_get c.events k ≡ Some e → IsGood c e
  all_good k e at = good k e (omega (arith, slice_get_within c.events k e at)) at

  pub walk_proves : IsProved c
  walk_proves k e at = (all_good k e at).proves

  pub walk_certifies : IsCertificate c → IsCertified c
  walk_certifies is = record {
    parts = partition (region_of c.vertices) c.events is.tree (good_divides c (length c.events) (λ k e m at. all_good k e at)) (polygon_has_point c.vertices is.polygon);
    sound = λ k e at. (all_good k e at).sound;
  }

pub few_here : (c : CertView) (i : ℕ) (R : Area) (rest : List Area) → IsCertificate c → Awaits c i (R ∷ rest) → (e : Entry) → slice_get c.events i ≡ Some e → length R ≤ 16 + length e.path
few_here c i R rest is s e at = omega (arith, ap length (cell_is c i R rest s e at), few_at c is e.path)
