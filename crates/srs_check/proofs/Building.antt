-- A version that grows by the events of a certificate.
use Rattle.std.proofs.Common.{◌≡◌, inr, ℕ, ◌+◌, ◌<◌, ◌≤◌, Bool, true, false, cond, List, [], ◌∷◌, ◌++◌, map, length, take, slice_get, refl, sym, ap, ap₂, subst, ◌∙◌, arith}
use Rattle.std.proofs.lemmas.Option.{slice_get_within, get_or_from_slice_get}
use Rattle.std.proofs.lemmas.List.{take_all, map-append, length-map}
use Rattle.std.specs.FinMap as finite
use Rattle.std.specs.declared.option.Option.{Option}
use Rattle.std.specs.declared.option.Option.TheVariants.{Some, None}
use Rattle.srs_num.specs.Points.{LinearForm}
use Rattle.srs_plane.specs.Polygons.{region_of}
use Rattle.srs_plane.specs.Regions.{Area}
use Rattle.srs_path.specs.declared.paths.Side.{Side}
use Rattle.srs_path.specs.declared.paths.Side.TheVariants.{Ge, Lt}
use Rattle.srs_path.specs.declared.outcomes.Outcome.{Outcome}
use Rattle.srs_path.specs.declared.outcomes.Outcome.TheVariants.{Inside, Outside, Cut, Left}
use Rattle.srs_path.specs.Views.{Budget, Entry}
use Rattle.srs_tree.specs.Queue.{WaitingCell, cell_in, cells_from}
use Rattle.srs_tree.specs.Rounds.{parts_by}
use Rattle.srs_tree.specs.Tree.{History, Tree, path_eq, outcome_at, IsCellOf, region_at}
use Rattle.srs_tree.specs.Growth.{IsProvedOf, IsOpenIn, IsShortCut}
use Rattle.srs_tree.specs.WholeTrees.{AllowsAt}
use Rattle.srs_tree.specs.Snapshots.{Snapshot, tree_of, with_entry, StandsFor}
use Rattle.srs_tree.proofs.HistoryLemmas.{path_eq_same}
use Rattle.srs_tree.proofs.StandsLemmas.{path_total, ties, Stands-empty, Stands-append}
use Rattle.srs_cert.specs.Certificates.{CertView, IsCertificate}
use Rattle.srs_cert.proofs.Preordered.{here_first, take_here, Takes, walked_takes}
use Rattle.srs_check.specs.Proving.{Proves, node_region}
use Rattle.srs_check.specs.Builds.{as_built, built_in, IsBuilt}
use Rattle.srs_check.proofs.Cuts.{cuts_of, cut_in, outcome_at-cuts, cell_forth, cell_back, region_same, region_then, legal_upto}
use Rattle.srs_check.proofs.WalkStates.{AreGood, WalkState, good_more, good_divides, walk_first, walk_good, walk_next, few_wait, cell_is}

abbrev pub built_event : Entry → Entry
built_event e = record { path = e.path; outcome = as_built e.outcome }

-- the events as the version has them
abbrev pub built_of : History → History
built_of H = map built_event H

outcome_at-built : (H : History) (p : List Side) → outcome_at (built_of H) p ≡ built_in (outcome_at H p)
outcome_at-built [] p = refl
outcome_at-built (e ∷ H) p =
    let rest = outcome_at-built H p in
    elim (path_eq e.path p) as (λ b. cond b (Some (as_built e.outcome)) (outcome_at (built_of H) p) ≡ built_in (cond b (Some e.outcome) (outcome_at H p))) [ true ↦ refl | false ↦ rest ]

-- no cut is lost
pub same_cuts : (x : Option Outcome) → cut_in (built_in x) ≡ cut_in x
same_cuts None = refl
same_cuts (Some (Inside ranks)) = refl
same_cuts (Some (Outside cycle)) = refl
same_cuts (Some (Cut h)) = refl
same_cuts (Some (Left cause)) = refl

-- the regions of cells that wait
abbrev pub regions_of : List WaitingCell → List Area
regions_of = map (λ w. w.region)

-- before event i: the walk has come to it, and the version stands for the events before
pub record GrownTo (c : CertView) (i : ℕ) (cells : List WaitingCell) (v : Snapshot) : Type 0 where
  pub walk : WalkState c i (regions_of cells)
  pub stands : StandsFor (region_of c.vertices) (built_of (take i c.events)) v

short_cut : (b : Budget) (p : List Side) (o : Outcome) → b.depth ≤ 48 → AllowsAt b (length p) o → IsShortCut p o
short_cut b p (Inside ranks) l a = tt
short_cut b p (Outside cycle) l a = tt
short_cut b p (Cut h) l a = omega (arith, l, a)
short_cut b p (Left cause) l a = tt

-- the path of a cut has room for a side more
pub cut_is_short : (c : CertView) (i : ℕ) (e : Entry) → IsCertificate c → slice_get c.events i ≡ Some e → IsShortCut e.path e.outcome
cut_is_short c i e is at =
    let keeps = subst (λ (x : Entry). AllowsAt c.limits (length x.path) x.outcome) (get_or_from_slice_get c.events i e e at) (is.within.each i e (slice_get_within c.events i e at)) in
    short_cut c.limits e.path e.outcome is.limits_are.depth keeps

entry_here : (v : Snapshot) (p : List Side) (o : Outcome) → tree_of (with_entry v p o) p ≡ Some o
entry_here v p o = finite.get-insert path_total v.entries p o p ∙ ap (λ (b : Bool). cond b (Some o) (tree_of v p)) (ties p p ∙ path_eq_same p)

module _ (c : CertView) (is : IsCertificate c) (i : ℕ) (l : i ≤ length c.events) (good : AreGood c i) (v : Snapshot) (stands : StandsFor (region_of c.vertices) (built_of (take i c.events)) v) where
  abbrev G : History
  G = take i c.events

  has : (p : List Side) → tree_of v p ≡ built_in (outcome_at G p)
  has p = stands.entries p ∙ outcome_at-built G p

  cuts_are : (p : List Side) → outcome_at (cuts_of G) p ≡ cut_in (tree_of v p)
  cuts_are p = outcome_at-cuts G p ∙ sym (ap cut_in (has p) ∙ same_cuts (outcome_at G p))

  -- a cell of the version has the region that the certificate says
  same_cell : (p : List Side) → IsCellOf (tree_of v) p → region_at v.region (tree_of v) p ≡ node_region c p
  same_cell p cell =
      ap (λ (A : Area). region_at A (tree_of v) p) stands.region
      ∙ sym (region_same (outcome_at (cuts_of G)) (tree_of v) cuts_are (region_of c.vertices) p)
      ∙ region_then (region_of c.vertices) c.events is.tree i (legal_upto (region_of c.vertices) c.events is.tree i l (good_divides c i good)) p (cell_forth (outcome_at (cuts_of G)) (tree_of v) cuts_are p cell)

-- only a cut has parts
cut_by_parts : (path : List Side) (o : Outcome) (x y : WaitingCell) (u : Snapshot) → cells_from (Some (x, y)) ≡ map (cell_in u) (parts_by path (as_built o)) → (h : LinearForm) × (o ≡ Cut h)
cut_by_parts path (Inside ranks) x y u e = absurd (let q : x ∷ y ∷ [] ≡ [] = e in cc)
cut_by_parts path (Outside cycle) x y u e = absurd (let q : x ∷ y ∷ [] ≡ [] = e in cc)
cut_by_parts path (Cut h) x y u e = (h, refl)
cut_by_parts path (Left cause) x y u e = absurd (let q : x ∷ y ∷ [] ≡ [] = e in cc)

module _ (c : CertView) (is : IsCertificate c) (i : ℕ) (w : WaitingCell) (rest : List WaitingCell) (v : Snapshot) (s : GrownTo c i (w ∷ rest) v) (e : Entry) (at : slice_get c.events i ≡ Some e) where
  early : i < length c.events
  early = slice_get_within c.events i e at

  t : Takes c.events i s.walk.awaits.waiting e
  t = walked_takes c.events i s.walk.awaits.waiting e s.walk.awaits.walked at

  fresh : outcome_at (take i c.events) e.path ≡ None
  fresh = t.is_open.fresh e.path (here_first e.path t.rest)

  pub cell_is_open : IsOpenIn (tree_of v) e.path
  cell_is_open =
      let S : Tree = outcome_at (cuts_of (take i c.events)) in
      let there : IsCellOf S e.path = cell_forth S (outcome_at (take i c.events)) (outcome_at-cuts (take i c.events)) e.path (t.is_open.cells e.path (here_first e.path t.rest)) in
      record {
        cell = cell_back S (tree_of v) (cuts_are c is i (omega (arith, early)) s.walk.good v s.stands) e.path there;
        open_yet = has c is i (omega (arith, early)) s.walk.good v s.stands e.path ∙ ap built_in fresh;
      }

  pub same_region : w.region ≡ region_at v.region (tree_of v) e.path
  same_region = cell_is c i w.region (regions_of rest) s.walk.awaits e at ∙ sym (same_cell c is i (omega (arith, early)) s.walk.good v s.stands e.path cell_is_open.cell)

  -- fewer than 48 wait behind a cell that is cut
  pub few_behind : (x y : WaitingCell) (u : Snapshot) → cells_from (Some (x, y)) ≡ map (cell_in u) (parts_by e.path (as_built e.outcome)) → length rest < 48
  few_behind x y u parts =
      let cut = cut_by_parts e.path e.outcome x y u parts in
      omega (arith, few_wait c i w.region (regions_of rest) s.walk.awaits e at is cut.0 cut.1, length-map rest (λ (q : WaitingCell). q.region))

  module _ (proves : Proves w.region c.limits c.events (length e.path) e.outcome) (sound : IsProvedOf w.region e.outcome) where
    abbrev after : Snapshot
    after = with_entry v e.path (as_built e.outcome)

    stands_next : StandsFor (region_of c.vertices) (built_of (take (i + 1) c.events)) after
    stands_next =
        let more : built_of (take (i + 1) c.events) ≡ built_of (take i c.events) ++ built_event e ∷ [] = ap built_of (take_here c.events i e at) ∙ map-append built_event (take i c.events) (e ∷ []) in
        subst (λ (K : History). StandsFor (region_of c.vertices) K after) (sym more)
        (Stands-append (region_of c.vertices) (built_of (take i c.events)) v (built_event e) s.stands (outcome_at-built (take i c.events) e.path ∙ ap built_in fresh))

    good_next : AreGood c (i + 1)
    good_next = good_more c i e at s.walk.good (walk_good c i w.region (regions_of rest) s.walk.awaits e at proves sound)

    -- the part on a side of a cut
    part_is : (h : LinearForm) (side : Side) → e.outcome ≡ Cut h → region_at after.region (tree_of after) (e.path ++ side ∷ []) ≡ node_region c (e.path ++ side ∷ [])
    part_is h side q =
        let cut : tree_of after e.path ≡ Some (Cut h) = entry_here v e.path (as_built e.outcome) ∙ ap (λ (o : Outcome). Some (as_built o)) q in
        same_cell c is (i + 1) (omega (arith, early)) good_next after stands_next (e.path ++ side ∷ []) (inr (record { parent = e.path; side = side; form = h; is = refl; cut = cut }))

    parts_are : (o : Outcome) → e.outcome ≡ o → regions_of (map (cell_in after) (parts_by e.path (as_built o))) ≡ map (node_region c) (parts_by e.path o)
    parts_are (Inside ranks) q = refl
    parts_are (Outside cycle) q = refl
    parts_are (Cut h) q = ap₂ (λ (x y : Area). x ∷ y ∷ []) (part_is h Ge q) (part_is h Lt q)
    parts_are (Left cause) q = refl

    grown_after : (parts : List WaitingCell) → parts ≡ map (cell_in after) (parts_by e.path (as_built e.outcome)) → GrownTo c (i + 1) (parts ++ rest) after
    grown_after parts are = record {
      walk = subst (WalkState c (i + 1)) (sym (map-append (λ (x : WaitingCell). x.region) parts rest))
          (walk_next c i w.region (regions_of rest) s.walk e at proves sound (regions_of parts) (ap regions_of are ∙ parts_are e.outcome refl));
      stands = stands_next;
    }

    -- the event is entered, and its parts come before the other cells
    pub grown_next : (u : Snapshot) → u ≡ after → (parts : List WaitingCell) → parts ≡ map (cell_in u) (parts_by e.path (as_built e.outcome)) → GrownTo c (i + 1) (parts ++ rest) u
    grown_next u entered parts are =
        subst (GrownTo c (i + 1) (parts ++ rest)) (sym entered) (grown_after parts (are ∙ ap (λ (x : Snapshot). map (cell_in x) (parts_by e.path (as_built e.outcome))) entered))

pub grown_first : (c : CertView) (root : WaitingCell) (v : Snapshot) → IsCertificate c → root.region ≡ region_of c.vertices → v ≡ record { region = region_of c.vertices; entries = finite.empty } → GrownTo c 0 (root ∷ []) v
grown_first c root v is e q = record {
  walk = walk_first c root.region is e;
  stands = subst (StandsFor (region_of c.vertices) []) (sym q) (Stands-empty (region_of c.vertices));
}

pub grown_last : (c : CertView) (i : ℕ) (cells : List WaitingCell) (v : Snapshot) → GrownTo c i cells v → length c.events ≤ i → IsBuilt c v
grown_last c i cells v s l =
    let stands : StandsFor (region_of c.vertices) (built_of c.events) v = subst (λ (K : History). StandsFor (region_of c.vertices) (built_of K) v) (take_all i c.events l) s.stands in
    record { region = stands.region; entries = λ p. stands.entries p ∙ outcome_at-built c.events p }
