-- From the start of a round to its end, one cell at a time.
use Rattle.std.proofs.Common.{◌≡◌, ◌≢◌, inl, inr, ℕ, zero, suc, ◌+◌, ◌<◌, ◌≤◌, Bool, true, List, [], ◌∷◌, ◌++◌, drop, map, length, length-append, get_or, refl, sym, ap, ap₂, subst, ◌∙◌, arith, append_assoc, append-nil, Some, None}
use Rattle.std.specs.Prelude.{Contains, ◌==◌}
use Rattle.std.proofs.lemmas.Bool.{eqb-true}
use Rattle.std.specs.List.{AllByRecursion}
use Rattle.std.specs.FinMap as finite
use Rattle.std.specs.declared.option.Option.{Option}
use Rattle.std.proofs.lemmas.Option.{none-some}
use Rattle.std.proofs.lemmas.List.{length-map, map-append}
use Rattle.std.proofs.lemmas.List.Elements.{Contains-push_cases}
use Rattle.srs_plane.specs.Regions.{Area}
use Rattle.srs_path.specs.declared.paths.Side.{Side}
use Rattle.srs_path.specs.declared.outcomes.Outcome.{Outcome}
use Rattle.srs_path.specs.declared.outcomes.Outcome.TheVariants.{Inside, Outside, Cut, Left}
use Rattle.srs_path.specs.declared.limits.Last.{Last}
use Rattle.srs_path.specs.Views.{Budget, IsBudget, Entry, last_of}
use Rattle.srs_refine.specs.Found.{IsFoundOf}
use Rattle.srs_path.specs.Soundness.{IsSound}
use Rattle.srs_tree.specs.Tree.{History, Tree, outcome_at, IsCellOf, region_at}
use Rattle.srs_tree.specs.Legality.{MayFollow, IsLegal}
use Rattle.srs_tree.specs.Rounds.{parts_by, cells_of, upto, row_of, last_in, MayComeNext}
use Rattle.srs_tree.specs.Snapshots.{Snapshot, tree_of, StandsFor}
use Rattle.srs_tree.specs.Growth.{IsOpenIn}
use Rattle.srs_tree.specs.Queue.{queue_of, WaitingCell, cell_in}
use Rattle.srs_tree.proofs.TreeLemmas.{region_at_stays}
use Rattle.srs_tree.proofs.CellsLemmas.{cells-append}
use Rattle.srs_tree.proofs.PlannedWhole.{Closed, upto_stays, row_stays, last_same}
use Rattle.srs_tree.proofs.PlannedSteps.{IsPlanned-empty, IsPlanned-append}
use Rattle.srs_tree.proofs.StandsLemmas.{Stands-empty, Stands-append}
use Rattle.srs_tree.proofs.QueueLemmas.{queue_is, done, closed_by_queue}
use Rattle.srs_tree.proofs.RoundCounts.{upto_all, row_waits, queue_pops}
use Rattle.srs_tree.proofs.Bounded.{last_fits, last_at_depth}
use Rattle.srs_rounds.specs.Refined.{IsRefined, IsUnderway, AreAtDepth, StartsRound, IsInRound, GetsOutcome}

-- lists that are made by a map
module _ {X Y : Type 0} where
  record Split (f : X → Y) (xs : List X) (y : Y) (ys : List Y) : Type 0 where
    first : X
    rest : List X
    is : xs ≡ first ∷ rest
    head : y ≡ f first
    tail : ys ≡ map f rest

  map_split : (f : X → Y) (xs : List X) (y : Y) (ys : List Y) → y ∷ ys ≡ map f xs → Split f xs y ys
  map_split f [] y ys e = absurd (omega (arith, ap length e))
  map_split f (x ∷ xs) y ys e = record { first = x; rest = xs; is = refl; head = cc; tail = cc }

  map_same : (f g : X → Y) (xs : List X) → ((x : X) → Contains xs x → f x ≡ g x) → map f xs ≡ map g xs
  map_same f g [] h = refl
  map_same f g (x ∷ xs) h =
      ap₂ (λ (y : Y) (ys : List Y). y ∷ ys) (h x (0, omega arith, refl)) (map_same f g xs (λ z c. h z (let l = c.1 in (suc c.0, omega arith, c.2))))

  map_each : (P : Y → Type 0) (f : X → Y) (xs : List X) → AllByRecursion P (map f xs) → (x : X) (k : ℕ) → k < length xs → get_or xs k x ≡ x → P (f x)
  map_each P f [] all x k l e = absurd (omega (arith, l))
  map_each P f (z ∷ xs) all x zero l e = subst (λ (y : X). P (f y)) e all.0
  map_each P f (z ∷ xs) all x (suc k) l e = map_each P f xs all.1 x k (omega (arith, l)) e

module _ {Y : Type 0} where
  all_append : (P : Y → Type 0) (xs ys : List Y) → AllByRecursion P xs → AllByRecursion P ys → AllByRecursion P (xs ++ ys)
  all_append P [] ys a b = b
  all_append P (x ∷ xs) ys a b = (a.0, all_append P xs ys a.1 b)

  all_weaker : (P Q : Y → Type 0) → ((y : Y) → P y → Q y) → (xs : List Y) → AllByRecursion P xs → AllByRecursion Q xs
  all_weaker P Q h [] a = tt
  all_weaker P Q h (x ∷ xs) a = (h x a.0, all_weaker P Q h xs a.1)

-- the parts of a cut, on paths one longer, and two at most
parts_deep : (v : Snapshot) (p : List Side) (o : Outcome) → AreAtDepth (length p + 1) (map (cell_in v) (parts_by p o))
parts_deep v p (Inside ranks) = tt
parts_deep v p (Outside cycle) = tt
parts_deep v p (Cut h) = (length-append p _, (length-append p _, tt))
parts_deep v p (Left cause) = tt

parts_few : (p : List Side) (o : Outcome) → length (parts_by p o) ≤ 2
parts_few p (Inside ranks) = omega arith
parts_few p (Outside cycle) = omega arith
parts_few p (Cut h) = omega arith
parts_few p (Left cause) = omega arith

-- where a limit is spent, the outcome has no parts
no_parts : (R : Area) (last : Option Last) (W : ℕ) (p : List Side) (o : Outcome) → IsFoundOf R last W o → last ≢ None → parts_by p o ≡ []
no_parts R last W p (Inside ranks) r n = refl
no_parts R last W p (Outside cycle) r n = refl
no_parts R last W p (Cut h) (inl e) n = absurd (cc)
no_parts R last W p (Cut h) (inr r) n = absurd (n r.0)
no_parts R last W p (Left cause) r n = refl

-- what a snapshot says of the cells of its history
module _ (Root : Area) (H : History) (v : Snapshot) (stands : StandsFor Root H v) where
  same_tree : tree_of v ≡ outcome_at H
  same_tree = λ i. λ p. stands.entries p i

  region_in : (p : List Side) → region_at v.region (tree_of v) p ≡ region_at Root (outcome_at H) p
  region_in p = ap₂ (λ (R : Area) (T : Tree). region_at R T p) stands.region same_tree

  open_in : (p : List Side) → IsCellOf (outcome_at H) p → outcome_at H p ≡ None → IsOpenIn (tree_of v) p
  open_in p c e = subst (λ (T : Tree). IsOpenIn T p) (sym same_tree) (record { cell = c; open_yet = e })

-- the start of the first round
pub starts : (Root : Area) (b : Budget) (v : Snapshot) (waiting : List WaitingCell) → IsBudget b → v ≡ record { region = Root; entries = finite.empty } → waiting ≡ record { path = []; region = Root } ∷ [] → StartsRound Root b 0 1 v waiting
starts Root b v waiting budget is one = record {
  history = [];
  underway = record {
    planned = IsPlanned-empty Root b;
    stands = subst (StandsFor Root []) (sym is) (Stands-empty Root);
    waits = one ∙ ap (λ (R : Area). let x : WaitingCell = record { path = []; region = R } in x ∷ []) (sym (append-nil Root) ∙ ap (λ (w : Snapshot). w.region ++ []) (sym is));
  };
  count = refl;
  deep = subst (AreAtDepth 0) (sym one) (refl, tt);
  above = λ e c. let l = c.1 in absurd (omega (arith, l));
  room = budget.some_cell;
  few = omega (arith, ap length one);
  past = λ l. absurd (omega (arith, l));
}

module _ (Root : Area) (b : Budget) (k cells : ℕ) where
  -- each path of the queue has what is said of each cell that waits
  each_path : (P : List Side → Type 0) (H : History) (v : Snapshot) (waiting : List WaitingCell) → IsUnderway Root b H v waiting → AllByRecursion (λ (c : WaitingCell). P c.path) waiting → (p : List Side) → Contains (queue_of H) p → P p
  each_path P H v waiting under all p c =
      map_each (λ (x : WaitingCell). P x.path) (cell_in v) (queue_of H) (subst (AllByRecursion (λ (x : WaitingCell). P x.path)) under.waits all) p c.0 c.1 c.2

  pub begins : (v : Snapshot) (waiting : List WaitingCell) → StartsRound Root b k cells v waiting → IsInRound Root b k cells (length waiting) v waiting []
  begins v waiting s =
      let H : History = s.history in
      let legal = s.underway.planned.legal in
      let u : upto H k ≡ cells = upto_all Root b.wits H k legal s.above ∙ sym s.count in
      let deep = each_path (λ (p : List Side). length p ≡ k) H v waiting s.underway s.deep in
      let r : row_of H k ≡ length waiting = row_waits Root b.wits H k legal s.above deep ∙ sym (ap length s.underway.waits ∙ length-map (queue_of H) (cell_in v)) in
      record {
        history = H;
        underway = subst (IsUnderway Root b H v) (sym (append-nil waiting)) s.underway;
        last = ap₂ (λ (x y : ℕ). last_of b k x y) u r;
        count = omega (arith, s.count);
        deep = s.deep;
        deeper = tt;
        above = λ e c. let l = s.above e c in omega (arith, l);
        few = omega arith;
        uncut = λ n. refl;
      }

  module _ (pending : ℕ) (v : Snapshot) where
    abbrev pub last_here : Option Last
    last_here = last_of b k cells pending

    -- the next cell that waits is an open cell of the tree
    pub next_open : (x : WaitingCell) (rest later : List WaitingCell) → IsInRound Root b k cells pending v (x ∷ rest) later → IsOpenIn (tree_of v) x.path × (x.region ≡ region_at v.region (tree_of v) x.path) × (length x.path ≡ k)
    next_open x rest later s =
        let H : History = s.history in
        let t = map_split (cell_in v) (queue_of H) x (rest ++ later) s.underway.waits in
        let path : x.path ≡ t.first = ap (λ (c : WaitingCell). c.path) t.head in
        let has : Contains (queue_of H) t.first = subst (λ (q : List (List Side)). Contains q t.first) (sym t.is) (0, omega arith, refl) in
        let q = (queue_is Root b.wits H s.underway.planned.legal).to t.first has in (
          subst (IsOpenIn (tree_of v)) (sym path) (open_in Root H v s.underway.stands t.first q.0 q.1),
          ap (λ (c : WaitingCell). c.region) t.head ∙ ap (region_at v.region (tree_of v)) (sym path),
          s.deep.0,
        )

    module _ (w : Snapshot) (x : WaitingCell) (rest later after : List WaitingCell) (s : IsInRound Root b k cells pending v (x ∷ rest) later) (g : GetsOutcome last_here b.wits v w x later after) where
      abbrev H : History
      H = s.history

      abbrev e : Entry
      e = record { path = x.path; outcome = g.outcome }

      legal : IsLegal Root b.wits H
      legal = s.underway.planned.legal

      abbrev split : Split (cell_in v) (queue_of H) x (rest ++ later)
      split = map_split (cell_in v) (queue_of H) x (rest ++ later) s.underway.waits

      queue_here : queue_of H ≡ x.path ∷ split.rest
      queue_here = split.is ∙ ap (λ (p : List Side). p ∷ split.rest) (sym (ap (λ (c : WaitingCell). c.path) split.head))

      open_here : IsCellOf (outcome_at H) x.path × (outcome_at H x.path ≡ None)
      open_here = (queue_is Root b.wits H legal).to x.path (subst (λ (q : List (List Side)). Contains q x.path) (sym queue_here) (0, omega arith, refl))

      region_here : x.region ≡ region_at Root (outcome_at H) x.path
      region_here = (next_open x rest later s).1 ∙ region_in Root H v s.underway.stands x.path

      at_depth : length x.path ≡ k
      at_depth = s.deep.0

      may_follow : MayFollow Root b.wits H e
      may_follow = record { there = open_here.0; fresh = open_here.1; sound = subst (λ (R : Area). IsSound R b.wits g.outcome) region_here g.sound }

      long : (p : List Side) → Contains (queue_of H) p → k ≤ length p
      long = each_path (λ (p : List Side). k ≤ length p) H v (x ∷ rest ++ later) s.underway
          (all_append (λ (c : WaitingCell). k ≤ length c.path) (x ∷ rest) later
          (all_weaker (λ (c : WaitingCell). length c.path ≡ k) (λ (c : WaitingCell). k ≤ length c.path) (λ c q. omega (arith, q)) (x ∷ rest) s.deep)
          (all_weaker (λ (c : WaitingCell). length c.path ≡ k + 1) (λ (c : WaitingCell). k ≤ length c.path) (λ c q. omega (arith, q)) later s.deeper))

      may_come : MayComeNext Root b H e
      may_come = record {
        rows_done = subst (Closed H) (sym at_depth) (closed_by_queue Root b.wits H k legal long);
        by_plan = subst (λ (n : ℕ). IsFoundOf (region_at Root (outcome_at H) x.path) (last_in b H n) b.wits g.outcome) (sym at_depth)
            (subst (λ (l : Option Last). IsFoundOf (region_at Root (outcome_at H) x.path) l b.wits g.outcome) (sym s.last)
            (subst (λ (R : Area). IsFoundOf R last_here b.wits g.outcome) region_here g.found));
      }

      abbrev next : History
      next = H ++ e ∷ []

      stands_next : StandsFor Root next w
      stands_next = subst (StandsFor Root next) (sym g.entered) (Stands-append Root H v e s.underway.stands open_here.1)

      abbrev made : List WaitingCell
      made = map (cell_in w) (parts_by x.path g.outcome)

      -- the cells that waited keep their regions
      cell_stays : (p : List Side) → Contains split.rest p → cell_in v p ≡ cell_in w p
      cell_stays p c =
          let l = c.1 in
          let has : Contains (queue_of H) p = subst (λ (q : List (List Side)). Contains q p) (sym queue_here) (suc c.0, omega (arith, l), c.2) in
          let cell : IsCellOf (outcome_at H) p = ((queue_is Root b.wits H legal).to p has).0 in
          ap (λ (R : Area). let y : WaitingCell = record { path = p; region = R } in y)
          (region_in Root H v s.underway.stands p ∙ sym (region_at_stays Root b.wits H legal (e ∷ []) p cell) ∙ sym (region_in Root next w stands_next p))

      waits_next : rest ++ after ≡ map (cell_in w) (queue_of next)
      waits_next =
          ap (λ (ys : List WaitingCell). rest ++ ys) g.parts
          ∙ sym (append_assoc rest later made)
          ∙ ap (λ (ys : List WaitingCell). ys ++ made) (split.tail ∙ map_same (cell_in v) (cell_in w) split.rest cell_stays)
          ∙ sym (map-append (cell_in w) split.rest (parts_by x.path g.outcome))
          ∙ ap (map (cell_in w)) (sym (queue_pops Root b.wits H e split.rest legal queue_here))

      last_next : last_in b next k ≡ last_in b H k
      last_next = last_same b next H k (upto_stays H (e ∷ []) k (omega (arith, at_depth), tt)) (row_stays H (e ∷ []) k (omega (arith, at_depth), tt))

      length_after : length after ≡ length later + length (parts_by x.path g.outcome)
      length_after = ap length g.parts ∙ length-append later made ∙ ap (λ (n : ℕ). length later + n) (length-map (parts_by x.path g.outcome) (cell_in w))

      -- the round goes on with the cell's outcome
      pub goes_on : IsInRound Root b k cells pending w rest after
      goes_on = record {
        history = next;
        underway = record {
          planned = IsPlanned-append Root b H e s.underway.planned may_follow may_come;
          stands = stands_next;
          waits = waits_next;
        };
        last = last_next ∙ s.last;
        count = ap length (cells-append H e) ∙ length-append (cells_of H) (parts_by x.path g.outcome) ∙ (omega (arith, s.count, length_after));
        deep = s.deep.1;
        deeper = subst (AreAtDepth (k + 1)) (sym g.parts) (all_append (λ (c : WaitingCell). length c.path ≡ k + 1) later made s.deeper
            (subst (λ (n : ℕ). AreAtDepth (n + 1) made) at_depth (parts_deep w x.path g.outcome)));
        above = λ f c. elim (Contains-push_cases H e f c) [
          | inl d ↦ s.above f d
          | inr q ↦ subst (λ (y : Entry). length y.path < k + 1) q (omega (arith, at_depth))
        ];
        few = let n = parts_few x.path g.outcome in let old = s.few in omega (arith, n, old, length_after);
        uncut = λ n. g.parts ∙ ap₂ (λ (a : List WaitingCell) (ps : List (List Side)). a ++ map (cell_in w) ps) (s.uncut n) (no_parts x.region last_here b.wits x.path g.outcome g.found n);
      }

    -- where none of the round waits, the next one starts
    pub ends : (later : List WaitingCell) → k ≤ b.depth → cells ≤ b.cells → pending ≤ cells → IsInRound Root b k cells pending v [] later → StartsRound Root b (k + 1) (cells + length later) v later
    ends later shallow fits few s = record {
      history = s.history;
      underway = s.underway;
      count = sym s.count;
      deep = s.deeper;
      above = s.above;
      room = room (last_here) refl;
      few = omega arith;
      past = λ l. s.uncut (last_at_depth b k cells pending (omega (arith, shallow, l)));
    }
      where
        room : (l : Option Last) → last_here ≡ l → cells + length later ≤ b.cells
        room None q = let n = last_fits b k cells pending q in let f = s.few in omega (arith, n, f)
        room (Some l) q = let n = ap length (s.uncut (λ m. none-some l (sym m ∙ q))) in omega (arith, n, fits)

pub none_left : (cells : List WaitingCell) (n : ℕ) (b : Bool) → b ≡ (n == 0) → b ≡ true → length cells ≡ n → cells ≡ []
none_left [] n b e t l = refl
none_left (c ∷ cells) n b e t l = let none = eqb-true n 0 (sym e ∙ t) in absurd (omega (arith, none, l))

-- where none waits, the tree is whole
pub finished : (Root : Area) (b : Budget) (k cells : ℕ) (v w : Snapshot) (waiting : List WaitingCell) → waiting ≡ [] → w ≡ v → StartsRound Root b k cells v waiting → IsRefined Root b w
finished Root b k cells v w waiting none same s =
    let empty : queue_of s.history ≡ [] = no_path (queue_of s.history) (sym s.underway.waits ∙ none) in
    let t = done Root b s.history s.underway.planned empty in
    subst (IsRefined Root b) (sym same)
    (record { history = s.history; whole = t.0; in_rounds = t.1; stands = s.underway.stands })
  where
    no_path : (q : List (List Side)) → map (cell_in v) q ≡ [] → q ≡ []
    no_path [] e = refl
    no_path (p ∷ q) e = absurd (omega (arith, ap length e))

-- the cells from the place i on begin with the one there
pub rest_at : (cells : List WaitingCell) (i : ℕ) (x : WaitingCell) → i < length cells → x ≡ get_or cells i x → drop i cells ≡ x ∷ drop (i + 1) cells
rest_at [] i x l e = absurd (omega (arith, l))
rest_at (y ∷ cells) zero x l e = ap (λ (z : WaitingCell). z ∷ cells) (sym e)
rest_at (y ∷ cells) (suc i) x l e =
    let n : suc (i + 1) ≡ suc i + 1 = omega arith in
    rest_at cells i x (omega (arith, l)) e ∙ ap (λ (m : ℕ). x ∷ drop m (y ∷ cells)) n

-- the same steps, for a cell at a place
module _ (Root : Area) (b : Budget) (k cells : ℕ) (waiting : List WaitingCell) (v : Snapshot) (later : List WaitingCell) (i : ℕ) (x : WaitingCell) (l : i < length waiting) (is : x ≡ get_or waiting i x) (s : IsInRound Root b k cells (length waiting) v (drop i waiting) later) where
  here : IsInRound Root b k cells (length waiting) v (x ∷ drop (i + 1) waiting) later
  here = subst (λ (ws : List WaitingCell). IsInRound Root b k cells (length waiting) v ws later) (rest_at waiting i x l is) s

  pub cell_open : IsOpenIn (tree_of v) x.path × (x.region ≡ region_at v.region (tree_of v) x.path) × (length x.path ≡ k)
  cell_open = next_open Root b k cells (length waiting) v x (drop (i + 1) waiting) later here

  pub next_cell : (w : Snapshot) (after : List WaitingCell) (last : Option Last) (W : ℕ) → last ≡ last_of b k cells (length waiting) → W ≡ b.wits → GetsOutcome last W v w x later after → IsInRound Root b k cells (length waiting) w (drop (i + 1) waiting) after
  next_cell w after last W p q g =
      goes_on Root b k cells (length waiting) v w x (drop (i + 1) waiting) later after here
      (subst (λ (n : ℕ). GetsOutcome (last_of b k cells (length waiting)) n v w x later after) q (subst (λ (m : Option Last). GetsOutcome m W v w x later after) p g))

-- one cell, in a list that had none
pub root_alone : (Root : Area) (v : Snapshot) (x : WaitingCell) (old cells : List WaitingCell) → v ≡ record { region = Root; entries = finite.empty } → old ≡ [] → x ≡ record { path = []; region = v.region } → cells ≡ old ++ x ∷ [] → cells ≡ record { path = []; region = Root } ∷ []
root_alone Root v x old cells is none one all =
    all ∙ ap₂ (λ (a : List WaitingCell) (y : WaitingCell). a ++ y ∷ []) none one
    ∙ ap (λ (w : Snapshot). let y : WaitingCell = record { path = []; region = w.region } in y ∷ []) is
