-- What one node more makes of a walk, and what the walk answers at the end.
use Rattle.std.proofs.Common.{◌≡◌, inl, inr, ◌⊎◌, ℕ, zero, suc, ◌+◌, ◌<◌, ◌≤◌, false, List, [], ◌∷◌, ◌++◌, All, length, length-append, set, get_or, slice_get, refl, sym, ap, subst, ◌∙◌, arith, get_or-set_same, get_or-set_other}
use Rattle.std.specs.Prelude.{is_some}
use Rattle.std.specs.declared.option.Option.{Option}
use Rattle.std.proofs.Math.Decide.{dec_lt}
use Rattle.std.proofs.lemmas.Bool.Decides.{eqb_tells}
use Rattle.std.proofs.lemmas.List.{length-set}
use Rattle.std.proofs.lemmas.List.Elements.{All-head, All-tail}
use Rattle.std.proofs.lemmas.Option.{same_Some, slice_get_within, slice_get-get_or}
use Rattle.std.specs.declared.option.Option.TheVariants.{Some, None}
use Rattle.srs_num.specs.Points.{LinearForm}
use Rattle.srs_plane.specs.Polygons.{region_of}
use Rattle.srs_plane.specs.Regions.{Area}
use Rattle.srs_path.specs.declared.paths.Side.{Side}
use Rattle.srs_path.specs.declared.paths.Side.TheVariants.{Ge, Lt}
use Rattle.srs_path.specs.declared.outcomes.Cause.TheVariants.{Cells}
use Rattle.srs_path.specs.declared.outcomes.Outcome.{Outcome}
use Rattle.srs_path.specs.declared.outcomes.Outcome.TheVariants.{Inside, Outside, Cut, Left}
use Rattle.srs_path.specs.Views.{Budget, Entry}
use Rattle.srs_tree.specs.Tree.{History}
use Rattle.srs_tree.specs.Rounds.{parts_by}
use Rattle.srs_tree.specs.Growth.{IsProvedOf}
use Rattle.srs_tree.specs.WholeTrees.{ListsTrees, AllowsAt, KeepsTo}
use Rattle.srs_cert.specs.Certificates.{CertView, IsCertificate, line_of_node}
use Rattle.srs_cert.specs.Heights.{height}
use Rattle.srs_cert.proofs.NodeLines.{line_next}
use Rattle.srs_check.specs.declared.faults.Fault.{Fault}
use Rattle.srs_check.specs.declared.faults.Fault.TheVariants.{NoBudget}
use Rattle.srs_check.specs.declared.faults.Checked.TheVariants.{Valid, Bad}
use Rattle.srs_check.specs.declared.tally.Tally.{Tally}
use Rattle.srs_check.specs.declared.walk.Walk.{Walk}
use Rattle.srs_check.specs.Budgets.{SpendsCells, CountsRows}
use Rattle.srs_check.specs.Proving.{Proves, node_region}
use Rattle.srs_check.specs.Faults.{Fails, IsChecked, is_inside, is_outside, is_cut, is_left}
use Rattle.srs_check.specs.Certified.{IsCertified}
use Rattle.srs_check.specs.Tested.{IsForCells, IsGoodLeaf, IsDivided}
use Rattle.srs_check.specs.Tallies.{IsTallied, HasRoomFor}
use Rattle.srs_check.specs.Walks.{Awaits, IsGood, AreGoodYet, IsNoted, NotesFirst, Notes, Stands, HasCome, Come, IsUnspent, IsFirstUnspent, IsSooner}
use Rattle.srs_check.proofs.RowCounts.{zeros, zeros_read, so_far_few, all_rows}
use Rattle.srs_check.proofs.NodeCounts.{first_few, all_counts}
use Rattle.srs_check.proofs.Excluded.{first_fault}
use Rattle.srs_check.proofs.WalkStates.{AreGood, awaits_first, some_cell, few_here, few_wait, awaits_leaf, awaits_cut, walk_good, divided_good, fails_here, walk_proves, walk_certifies}

-- none of these paths has more sides
abbrev Shallow : ℕ → List (List Side) → Type 0
Shallow depth [] = Unit {0}
Shallow depth (p ∷ ps) = (length p ≤ depth) × Shallow depth ps

shallow_parts : (b : Budget) (path : List Side) (o : Outcome) (rest : List (List Side)) → AllowsAt b (length path) o → Shallow b.depth rest → Shallow b.depth (parts_by path o ++ rest)
shallow_parts b path (Inside ranks) rest a s = s
shallow_parts b path (Outside cycle) rest a s = s
shallow_parts b path (Cut h) rest a s = (omega (arith, a, length-append path (Ge ∷ [])), (omega (arith, a, length-append path (Lt ∷ [])), s))
shallow_parts b path (Left cause) rest a s = s

depths : (b : Budget) (waiting : List (List Side)) (H : History) → ListsTrees waiting H → All (KeepsTo b) H → Shallow b.depth waiting → (i : ℕ) (e : Entry) → slice_get H i ≡ Some e → length e.path ≤ b.depth
depths b [] [] l k s i e at = absurd (omega (arith, slice_get_within [] i e at))
depths b [] (x ∷ H) l k s i e at = absurd l
depths b (p ∷ w) [] l k s i e at = absurd l
depths b (p ∷ w) (x ∷ H) l k s zero e at = omega (arith, s.0, ap length l.0, ap (λ (y : Entry). length y.path) (same_Some x e at))
depths b (p ∷ w) (x ∷ H) l k s (suc i) e at =
    depths b (parts_by x.path x.outcome ++ w) H l.1 (All-tail (KeepsTo b) x H k) (shallow_parts b x.path x.outcome w (All-head (KeepsTo b) x H k) s.1) i e at

-- no node of a certificate is deeper than its limits allow
pub depth_within : (c : CertView) → IsCertificate c → (i : ℕ) (e : Entry) → slice_get c.events i ≡ Some e → length e.path ≤ c.limits.depth
depth_within c is i e at = depths c.limits ([] ∷ []) c.events is.tree is.within.each (omega arith, tt) i e at

pub depth_fits : (c : CertView) → IsCertificate c → (i : ℕ) (e : Entry) → slice_get c.events i ≡ Some e → length e.path < 49
depth_fits c is i e at = omega (arith, depth_within c is i e at, is.limits_are.depth)

some_line : (o : Outcome) → 1 ≤ height o
some_line (Inside ranks) = omega arith
some_line (Outside cycle) = omega arith
some_line (Cut h) = omega arith
some_line (Left cause) = omega arith

-- a later node begins on a later line
lines_rise : (c : CertView) (i j : ℕ) (e : Entry) → i < j → slice_get c.events j ≡ Some e → line_of_node c i < line_of_node c j
lines_rise c i zero e l at = absurd (omega arith)
lines_rise c i (suc j) e l at =
    let within : suc j < length c.events = slice_get_within c.events (suc j) e at in
    let f : Entry = get_or c.events j e in
    let there : slice_get c.events j ≡ Some f = slice_get-get_or c.events j e (omega (arith, within)) in
    let next : line_of_node c (suc j) ≡ line_of_node c j + height f.outcome = rw (sym (suc_is j)) (line_next c j f there) in
    elim (dec_lt i j) as (λ _. line_of_node c i < line_of_node c (suc j)) [
      | yes g ↦ omega (arith, next, some_line f.outcome, lines_rise c i j f g there)
      | no g ↦ let q : i ≡ j = omega arith in omega (arith, next, some_line f.outcome, ap (line_of_node c) q)
    ]
  where
    suc_is : (n : ℕ) → n + 1 ≡ suc n
    suc_is n = omega arith

line_some : (c : CertView) (i : ℕ) → 0 < line_of_node c i
unfolding line_of_node
line_some c i = omega arith

-- there is room for one node more
pub room : (c : CertView) (i depth : ℕ) (e : Entry) (t : Tally) → IsCertificate c → slice_get c.events i ≡ Some e → depth < 49 → IsTallied c.events i t → HasRoomFor t depth
room c i depth e t is at short s =
    let l : i < length c.events = slice_get_within c.events i e at in
    let le : i ≤ length c.events = omega (arith, l) in
    let few : length c.events ≤ 65536 = omega (arith, is.within.cells, is.limits_are.cells) in
    record {
      shallow = short;
      row = omega (arith, so_far_few c.events i t.rows depth s.rows short le, few, le);
      cells = omega (arith, s.counts.cells, few, le);
      inside = omega (arith, s.counts.inside, first_few is_inside c.events i le, few, le);
      outside = omega (arith, s.counts.outside, first_few is_outside c.events i le, few, le);
      cut = omega (arith, s.counts.cut, first_few is_cut c.events i le, few, le);
      left = omega (arith, s.counts.left, first_few is_left c.events i le, few, le);
    }

-- a leaf that proves itself whatever other nodes there are isn't left for the number of cells
leaf_settled : (R : Area) (L : Budget) (k : ℕ) (o : Outcome) → IsGoodLeaf R L k o → IsForCells o → ⊥
leaf_settled R L k o leaf (why, q) =
    let spent : SpendsCells L [] k = subst (Proves R L [] k) q (leaf.proves []) in
    omega (arith, spent.spent)

cut_settled : (R : Area) (o : Outcome) (x y : Area) → IsDivided R o x y → IsForCells o → ⊥
cut_settled R o x y d (why, q) = let f : Cut d.form ≡ Left (Cells why) = sym d.is_cut ∙ q in cc

module _ (c : CertView) (is : IsCertificate c) (i : ℕ) (e : Entry) (at : slice_get c.events i ≡ Some e) where
  good_yet_more : AreGoodYet c i → IsGood c e ⊎ IsForCells e.outcome → AreGoodYet c (i + 1)
  good_yet_more before now k f l bt = elim (dec_lt k i) as (λ _. IsGood c f ⊎ IsForCells f.outcome) [
    | yes g ↦ before k f g bt
    | no g ↦ let q : k ≡ i = omega arith in subst (λ (x : Entry). IsGood c x ⊎ IsForCells x.outcome) (same_Some e f (sym at ∙ ap (slice_get c.events) (sym q) ∙ bt)) now
  ]

  later : (k line : ℕ) → IsNoted c i k line → IsNoted c (i + 1) k line
  later k line n = record { node = n.node; entry = n.entry; early = omega (arith, n.early); there = n.there; for_cells = n.for_cells; depth_is = n.depth_is; line_is = n.line_is }

  -- what is asked of the node that was met
  abbrev FirstAt : List ℕ → Entry → ℕ → Type 0
  FirstAt left f node = (0 < get_or left (length f.path) 0) × (get_or left (length f.path) 0 ≤ line_of_node c node)

  first_more : (left : List ℕ) → ((node : ℕ) (f : Entry) → node < i → slice_get c.events node ≡ Some f → IsForCells f.outcome → FirstAt left f node) → (IsForCells e.outcome → FirstAt left e i)
      → (node : ℕ) (f : Entry) → node < i + 1 → slice_get c.events node ≡ Some f → IsForCells f.outcome → FirstAt left f node
  first_more left before now node f l bt = elim (dec_lt node i) as (λ _. IsForCells f.outcome → FirstAt left f node) [
    | yes g ↦ before node f g bt
    | no g ↦
        let q : node ≡ i = omega arith in
        let same : e ≡ f = same_Some e f (sym at ∙ ap (slice_get c.events) (sym q) ∙ bt) in
        subst (λ (n : ℕ). IsForCells f.outcome → FirstAt left f n) (sym q) (subst (λ (x : Entry). IsForCells x.outcome → FirstAt left x i) same now)
  ]

  -- no leaf more is left for the number of cells
  notes_same : (left : List ℕ) → (IsForCells e.outcome → ⊥) → NotesFirst c i left → NotesFirst c (i + 1) left
  notes_same left other s = record {
    size = s.size;
    noted = λ k l some. later k (get_or left k 0) (s.noted k l some);
    first = first_more left s.first (λ for_cells. absurd (other for_cells));
  }

  -- one leaf more is
  notes_more : (left new : List ℕ) → IsForCells e.outcome → Notes left (length e.path) (line_of_node c i) new → NotesFirst c i left → NotesFirst c (i + 1) new
  notes_more left new for_cells (inl (some, same)) s =
      subst (NotesFirst c (i + 1)) (sym same) (record {
        size = s.size;
        noted = λ k l some. later k (get_or left k 0) (s.noted k l some);
        first = first_more left s.first (λ _.
            let n = s.noted (length e.path) (depth_fits c is i e at) some in
            (some, omega (arith, n.line_is, lines_rise c n.node i e n.early at)));
      })
  notes_more left new for_cells (inr (none, set_is)) s = subst (NotesFirst c (i + 1)) (sym set_is) (record {
    size = length-set left d line ∙ s.size;
    noted = noted;
    first = first_more (set left d line) before (λ _. (omega (arith, here, line_some c i), omega (arith, here)));
  })
    where
      d : ℕ
      d = length e.path

      line : ℕ
      line = line_of_node c i

      here : get_or (set left d line) d 0 ≡ line
      here = get_or-set_same left d line 0 (omega (arith, s.size, depth_fits c is i e at))

      noted : (k : ℕ) → k < 49 → 0 < get_or (set left d line) k 0 → IsNoted c (i + 1) k (get_or (set left d line) k 0)
      noted k l some = elim (eqb_tells k d) [
        | inl t ↦ subst (λ (n : ℕ). IsNoted c (i + 1) n (get_or (set left d line) n 0)) (sym t.1)
            (record { node = i; entry = e; early = omega arith; there = at; for_cells = for_cells; depth_is = refl; line_is = here })
        | inr t ↦
            let old : get_or (set left d line) k 0 ≡ get_or left k 0 = get_or-set_other left d k line 0 t.1 in
            subst (IsNoted c (i + 1) k) (sym old) (later k (get_or left k 0) (s.noted k l (omega (arith, some, old))))
      ]

      before : (node : ℕ) (f : Entry) → node < i → slice_get c.events node ≡ Some f → IsForCells f.outcome → FirstAt (set left d line) f node
      before node f l bt fc =
          let was = s.first node f l bt fc in
          let old : get_or (set left d line) (length f.path) 0 ≡ get_or left (length f.path) 0
          = get_or-set_other left d (length f.path) line 0 (λ q. omega (arith, was.0, none, ap (λ (n : ℕ). get_or left n 0) q)) in
          (omega (arith, was.0, old), omega (arith, was.1, old))

-- before the first node
pub comes_first : (c : CertView) (w : Walk) → IsCertificate c → IsTallied c.events 0 w.tally → w.waiting ≡ region_of c.vertices ∷ [] → w.left ≡ zeros 49 → w.failed ≡ None → HasCome c 0 w
comes_first c w is tallied root left none = record {
  tallied = tallied;
  tested = 0;
  good = λ k e l at. absurd (omega arith);
  left = subst (NotesFirst c 0) (sym left) (record {
    size = refl;
    noted = λ k l some. absurd (omega (arith, some, zeros_read 49 k));
    first = λ node e l at f. absurd (omega arith);
  });
  stands = subst (Stands c 0 0 w.waiting) (sym none) (refl, subst (Awaits c 0) (sym root) (awaits_first c (region_of c.vertices) is refl));
}

-- the walk comes to a node that was found
pub comes_to : (c : CertView) (i : ℕ) (L : Budget) (line depth : ℕ) (o : Outcome) (w : Walk) → IsCertificate c → c.limits ≡ L → line ≡ line_of_node c i
    → (e : Entry) → slice_get c.events i ≡ Some e → length e.path ≡ depth → e.outcome ≡ o → HasCome c i w → Come c i L line depth o w
comes_to c i L line depth o w is limits begins e at deep same come =
    record { certificate = is; limits_are = limits; line_is = begins; node = record { entry = e; there = at; depth_is = deep; outcome_is = same }; come = come }

pub no_failure : (f : Option (ℕ × Fault)) → false ≡ is_some f → f ≡ None
no_failure None e = refl
no_failure (Some x) e = cc

-- while no node has failed
module _ (c : CertView) (i : ℕ) (L : Budget) (line depth : ℕ) (o : Outcome) (w : Walk) (m : Come c i L line depth o w) (none : w.failed ≡ None) where
  awaited : Awaits c i w.waiting
  awaited = let s : Stands c i m.come.tested w.waiting None = subst (Stands c i m.come.tested w.waiting) none m.come.stands in s.1

  pub no_cell : w.waiting ≡ [] → ⊥
  no_cell e = some_cell c i (slice_get_within c.events i m.node.entry m.node.there) (subst (Awaits c i) e awaited)

  module _ (R : Area) (rest : List Area) (waits : w.waiting ≡ R ∷ rest) where
    pub few_sides : length R < 80
    few_sides = omega (arith, few_here c i R rest m.certificate (subst (Awaits c i) waits awaited) m.node.entry m.node.there, depth_fits c m.certificate i m.node.entry m.node.there)

    pub few_behind : (x y : Area) → IsDivided R o x y → length rest < 48
    few_behind x y d = few_wait c i R rest (subst (Awaits c i) waits awaited) m.node.entry m.node.there m.certificate d.form (m.node.outcome_is ∙ d.is_cut)

pub shallow : (c : CertView) (i : ℕ) (L : Budget) (line depth : ℕ) (o : Outcome) (w : Walk) → Come c i L line depth o w → depth < 49
shallow c i L line depth o w m = omega (arith, depth_fits c m.certificate i m.node.entry m.node.there, m.node.depth_is)

-- what the walk is after the node
module _ (c : CertView) (i : ℕ) (L : Budget) (line depth : ℕ) (o : Outcome) (w u : Walk) (m : Come c i L line depth o w) (tallied : IsTallied c.events (i + 1) u.tally) where
  abbrev met : Entry
  met = m.node.entry

  -- the node that failed before is still the first
  pub still_failed : (line : ℕ) (fault : Fault) → w.failed ≡ Some (line, fault) → u.left ≡ w.left → u.failed ≡ w.failed → HasCome c (i + 1) u
  still_failed line fault was left same =
      let s : Stands c i m.come.tested w.waiting (Some (line, fault)) = subst (Stands c i m.come.tested w.waiting) was m.come.stands in
      record {
        tallied = tallied;
        tested = m.come.tested;
        good = m.come.good;
        left = subst (NotesFirst c m.come.tested) (sym left) m.come.left;
        stands = subst (Stands c (i + 1) m.come.tested u.waiting) (sym (same ∙ was)) (omega (arith, s.0), s.1);
      }

  module _ (R : Area) (rest : List Area) (waits : w.waiting ≡ R ∷ rest) (none : w.failed ≡ None) where
    stood : (m.come.tested ≡ i) × Awaits c i w.waiting
    stood = subst (Stands c i m.come.tested w.waiting) none m.come.stands

    cells : Awaits c i (R ∷ rest)
    cells = subst (Awaits c i) waits stood.1

    good_here : AreGoodYet c i
    good_here = subst (AreGoodYet c) stood.0 m.come.good

    left_here : NotesFirst c i w.left
    left_here = subst (λ (n : ℕ). NotesFirst c n w.left) stood.0 m.come.left

    -- what is said of the node
    said : (P : Budget → ℕ → Outcome → Type 0) → P L depth o → P c.limits (length met.path) met.outcome
    said P p = subst (λ (b : Budget). P b (length met.path) met.outcome) (sym m.limits_are) (subst (λ (k : ℕ). P L k met.outcome) (sym m.node.depth_is) (subst (P L depth) (sym m.node.outcome_is) p))

    for_cells_back : IsForCells met.outcome → IsForCells o
    for_cells_back f = subst IsForCells m.node.outcome_is f

    passed : IsGood c met ⊎ IsForCells met.outcome → NotesFirst c (i + 1) u.left → Awaits c (i + 1) u.waiting → u.failed ≡ None → HasCome c (i + 1) u
    passed good left awaits still = record {
      tallied = tallied;
      tested = i + 1;
      good = good_yet_more c m.certificate i met m.node.there good_here good;
      left = left;
      stands = subst (Stands c (i + 1) (i + 1) u.waiting) (sym still) (refl, awaits);
    }

    pub after_leaf : IsGoodLeaf R L depth o → u.waiting ≡ rest → u.left ≡ w.left → u.failed ≡ None → HasCome c (i + 1) u
    after_leaf leaf now left still =
        passed (inl (walk_good c i R rest cells met m.node.there
        (said (λ b k x. Proves R b c.events k x) (leaf.proves c.events)) (said (λ b k x. IsProvedOf R x) leaf.sound)))
        (subst (NotesFirst c (i + 1)) (sym left) (notes_same c m.certificate i met m.node.there w.left (λ f. leaf_settled R L depth o leaf (for_cells_back f)) left_here))
        (subst (Awaits c (i + 1)) (sym now) (awaits_leaf c i R rest cells met m.node.there (λ h q. leaf.no_cut h (sym m.node.outcome_is ∙ q)))) still

    pub after_cut : (x y : Area) → IsDivided R o x y → u.waiting ≡ x ∷ y ∷ rest → u.left ≡ w.left → u.failed ≡ None → HasCome c (i + 1) u
    after_cut x y d now left still =
        let e : IsDivided R met.outcome x y = subst (λ (z : Outcome). IsDivided R z x y) (sym m.node.outcome_is) d in
        passed (inl (divided_good c i R rest cells met m.node.there x y e))
        (subst (NotesFirst c (i + 1)) (sym left) (notes_same c m.certificate i met m.node.there w.left (λ f. cut_settled R met.outcome x y e f) left_here))
        (subst (Awaits c (i + 1)) (sym now) (awaits_cut c i R rest cells met m.node.there x y e)) still

    no_cut_left : IsForCells met.outcome → (h : LinearForm) → met.outcome ≡ Cut h → ⊥
    no_cut_left (why, q) h r = let f : Left (Cells why) ≡ Cut h = sym q ∙ r in cc

    pub after_unsettled : IsForCells o → u.waiting ≡ rest → Notes w.left depth line u.left → u.failed ≡ None → HasCome c (i + 1) u
    after_unsettled f now notes still =
        let fc : IsForCells met.outcome = subst IsForCells (sym m.node.outcome_is) f in
        let by_depth : Notes w.left (length met.path) line u.left = subst (λ (k : ℕ). Notes w.left k line u.left) (sym m.node.depth_is) notes in
        passed (inr fc)
        (notes_more c m.certificate i met m.node.there w.left u.left fc (subst (λ (n : ℕ). Notes w.left (length met.path) n u.left) m.line_is by_depth) left_here)
        (subst (Awaits c (i + 1)) (sym now) (awaits_leaf c i R rest cells met m.node.there (no_cut_left fc))) still

    pub after_fault : (fault : Fault) → ((H : History) → Fails R L H depth o fault) → u.left ≡ w.left → u.failed ≡ Some (line, fault) → HasCome c (i + 1) u
    after_fault fault wrong left now = record {
      tallied = tallied;
      tested = i;
      good = good_here;
      left = subst (NotesFirst c i) (sym left) left_here;
      stands = subst (Stands c (i + 1) i u.waiting) (sym now) (
        omega arith,
        record {
          entry = met;
          there = m.node.there;
          line_is = m.line_is;
          wrong = fails_here c i R rest cells met m.node.there fault (said (λ b k x. Fails R b c.events k x fault) (wrong c.events));
        },
      );
    }

-- the lines that stand for the depths, one depth more: this one's isn't rightly left
pub found_more : (L : Budget) (H : History) (left : List ℕ) (n : ℕ) (first : Option ℕ) (least : ℕ) → IsFirstUnspent L H left n first → 0 < get_or left n 0 → (SpendsCells L H n → ⊥) → IsSooner first (get_or left n 0) least
    → IsFirstUnspent L H left (n + 1) (Some least)
found_more L H left n None least old some unspent is = (
  (n, omega arith, sym is, record { noted = some; unspent = unspent }),
  λ k l noted less. elim (dec_lt k n) as (λ _. SpendsCells L H k) [
    | yes g ↦ old k g noted
    | no g ↦ let q : k ≡ n = omega arith in absurd (omega (arith, less, is, ap (λ (j : ℕ). get_or left j 0) q))
  ],
)
found_more L H left n (Some other) least (found, before) some unspent (low, less, which) = (
  place which,
  λ k l noted below. elim (dec_lt k n) as (λ _. SpendsCells L H k) [
    | yes g ↦ before k g noted (omega (arith, below, less))
    | no g ↦ let q : k ≡ n = omega arith in absurd (omega (arith, below, low, ap (λ (j : ℕ). get_or left j 0) q))
  ],
)
  where
    place : (least ≡ get_or left n 0) ⊎ (least ≡ other) → (k : ℕ) × (k < n + 1) × (get_or left k 0 ≡ least) × IsUnspent L H left k
    place (inl q) = (n, omega arith, sym q, record { noted = some; unspent = unspent })
    place (inr q) = (found.0, omega (arith, found.1), found.2 ∙ sym q, found.3)

-- and this one's is, or there is none
pub same_more : (L : Budget) (H : History) (left : List ℕ) (n : ℕ) (first : Option ℕ) → IsFirstUnspent L H left n first → (0 < get_or left n 0 → SpendsCells L H n) → IsFirstUnspent L H left (n + 1) first
same_more L H left n None old here = λ k l noted. elim (dec_lt k n) as (λ _. SpendsCells L H k) [
  | yes g ↦ old k g noted
  | no g ↦ let q : n ≡ k = omega arith in subst (λ (j : ℕ). 0 < get_or left j 0 → SpendsCells L H j) q here noted
]
same_more L H left n (Some line) (found, before) here = (
  (found.0, omega (arith, found.1), found.2, found.3),
  λ k l noted less. elim (dec_lt k n) as (λ _. SpendsCells L H k) [
    | yes g ↦ before k g noted less
    | no g ↦ let q : n ≡ k = omega arith in subst (λ (j : ℕ). 0 < get_or left j 0 → SpendsCells L H j) q here noted
  ],
)

-- what is found at the end
module _ (c : CertView) (is : IsCertificate c) (w : Walk) (s : HasCome c (length c.events) w) where
  pub counted : CountsRows c.events w.tally.rows
  counted = all_rows c.events (length c.events) w.tally.rows s.tallied.rows (omega arith)

  settled : (e : Entry) → IsGood c e ⊎ IsForCells e.outcome → (IsForCells e.outcome → SpendsCells c.limits c.events (length e.path)) → IsGood c e
  settled e (inl g) f = g
  settled e (inr (why, q)) f = record {
    proves = subst (Proves (node_region c e.path) c.limits c.events (length e.path)) (sym q) (f (why, q));
    sound = subst (IsProvedOf (node_region c e.path)) (sym q) tt;
  }

  -- the first leaf that is left for the number of cells at a depth at which it isn't spent
  pub bad_left : (line : ℕ) → IsFirstUnspent c.limits c.events w.left 49 (Some line) → IsChecked c (Bad line NoBudget)
  bad_left line ((k, l, line_is, u), sooner) =
      let n : IsNoted c s.tested k (get_or w.left k 0) = s.left.noted k l u.noted in
      let here : line ≡ line_of_node c n.node = sym line_is ∙ n.line_is in
      let wrong : Fails (node_region c n.entry.path) c.limits c.events (length n.entry.path) n.entry.outcome NoBudget
      = subst (λ (x : Outcome). Fails (node_region c n.entry.path) c.limits c.events (length n.entry.path) x NoBudget) (sym n.for_cells.1)
      (refl, λ spent. u.unspent (subst (SpendsCells c.limits c.events) n.depth_is spent)) in
      first_fault c line n.node NoBudget here (record {
        entry = n.entry;
        is = n.there;
        wrong = wrong;
        before = λ j f lt at. (settled f (s.good j f (omega (arith, lt, n.early)) at) (λ fc.
            let t = s.left.first j f (omega (arith, lt, n.early)) at fc in
            sooner (length f.path) (depth_fits c is j f at) t.0 (omega (arith, t.1, here, lines_rise c j n.node n.entry lt n.there)))).proves;
      })

  module _ (none : IsFirstUnspent c.limits c.events w.left 49 None) where
    all_settled : AreGood c s.tested
    all_settled j f lt at = settled f (s.good j f lt at) (λ fc.
        let t = s.left.first j f lt at fc in
        none (length f.path) (depth_fits c is j f at) t.0)

    pub bad_node : (line : ℕ) (fault : Fault) → w.failed ≡ Some (line, fault) → IsChecked c (Bad line fault)
    bad_node line fault q =
        let t : Stands c (length c.events) s.tested w.waiting (Some (line, fault)) = subst (Stands c (length c.events) s.tested w.waiting) q s.stands in
        first_fault c line s.tested fault t.1.line_is (record {
          entry = t.1.entry;
          is = t.1.there;
          wrong = t.1.wrong;
          before = λ j f lt at. (all_settled j f lt at).proves;
        })

    module _ (q : w.failed ≡ None) where
      all_good : AreGood c (length c.events)
      all_good =
          let t : Stands c (length c.events) s.tested w.waiting None = subst (Stands c (length c.events) s.tested w.waiting) q s.stands in
          subst (AreGood c) t.0 all_settled

      pub valid : IsChecked c (Valid w.tally.counts)
      valid = (walk_proves c (length c.events) all_good (omega arith), all_counts c.events (length c.events) w.tally.counts s.tallied.counts (omega arith) (omega arith))

      pub certified : IsCertified c
      certified = walk_certifies c (length c.events) all_good (omega arith) is
