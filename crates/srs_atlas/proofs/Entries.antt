-- What an entry does to a book.
use Rattle.std.proofs.Common.{◌≡◌, ℕ, suc, Bool, true, false, not, cond, List, [], ◌∷◌, ◌++◌, length, map, refl, sym, ap, ap₂, subst, ◌∙◌, arith, append-nil}
use Rattle.std.specs.Prelude.{Contains, IsSome}
use Rattle.std.specs.List.{filter}
use Rattle.std.proofs.lemmas.List.{map-append}
use Rattle.std.specs.FinMap as finite
use Rattle.std.specs.declared.option.Option.{Option}
use Rattle.std.specs.declared.option.Option.TheVariants.{Some}
use Rattle.srs_plane.specs.Regions.{Area}
use Rattle.srs_path.specs.declared.paths.Side.{Side}
use Rattle.srs_path.specs.declared.outcomes.Outcome.{Outcome}
use Rattle.srs_path.specs.Views.{Budget, Entry, Found}
use Rattle.srs_path.specs.Soundness.{IsSound}
use Rattle.srs_turn.specs.Prefixes.{Begins}
use Rattle.srs_turn.proofs.PrefixLemmas.{begins_trans}
use Rattle.srs_tree.specs.declared.refusals.TreeErr.{TreeErr}
use Rattle.srs_tree.specs.declared.refusals.TreeErr.TheVariants.{NotThere, Done, OtherCell, NoMemory}
use Rattle.srs_tree.specs.Tree.{History, Tree, path_eq, outcome_at, IsCellOf, region_at}
use Rattle.srs_tree.specs.Legality.{MayFollow, IsLegal}
use Rattle.srs_tree.specs.Rounds.{parts_by, MayComeNext, IsPlanned}
use Rattle.srs_tree.specs.Snapshots.{Snapshot, tree_of, with_entry, StandsFor}
use Rattle.srs_tree.specs.Growth.{IsOpenIn, IsShortCut, MayEnter, IsLongestCell, IsTreeErr}
use Rattle.srs_tree.specs.Queue.{WaitingCell, Growing, queue_of, cell_in, without}
use Rattle.srs_tree.proofs.HistoryLemmas.{outcome_at_stays, IsLegal-append, IsLegal-empty}
use Rattle.srs_tree.proofs.TreeLemmas.{region_at_stays}
use Rattle.srs_tree.proofs.PlannedWhole.{Closed, some_is, cell_back, plan_stays}
use Rattle.srs_tree.proofs.PlannedSteps.{IsPlanned-append, IsPlanned-empty}
use Rattle.srs_tree.proofs.StandsLemmas.{Stands-append, Stands-empty}
use Rattle.srs_tree.proofs.QueueLemmas.{queue_is, queue-append, from_filter}
use Rattle.std.specs.Arc.{arc_value}
use Rattle.srs_tree.specs.Ahead.{AreMadeBy}
use Rattle.srs_atlas.specs.declared.book.Terms.{Terms}
use Rattle.srs_atlas.specs.declared.commits.Commit.{Commit}
use Rattle.srs_atlas.specs.declared.commits.Commit.TheVariants.{Done as IsDone}
use Rattle.srs_atlas.specs.Books.{AreTerms, IsLawful, cell_at, waiting_in, terms_of, IsBook}
use Rattle.srs_atlas.specs.Commits.{event_at, FitsPlan, IsReady, IsPrepared, IsWelcome, RepliesWith, Commits, commit_of}

-- what a snapshot says of the cells of its history
module _ (Root : Area) (H : History) (v : Snapshot) (stands : StandsFor Root H v) where
  pub same_tree : tree_of v ≡ outcome_at H
  same_tree = λ i. λ p. stands.entries p i

  pub cells_same : (ps : List (List Side)) → map (cell_in v) ps ≡ map (cell_at Root (outcome_at H)) ps
  cells_same ps = ap₂ (λ (R : Area) (T : Tree). map (cell_at R T) ps) stands.region same_tree

  pub welcome : (path : List Side) (f : Found) → MayEnter v path f → IsWelcome Root H path f
  welcome path f may = record {
    is_open = subst (λ (T : Tree). IsOpenIn T path) same_tree may.is_open;
    same = may.same ∙ ap₂ (λ (R : Area) (T : Tree). region_at R T path) stands.region same_tree;
  }

-- closed rows stay closed
pub closed_stays : (Root : Area) (W : ℕ) (G K : History) (k : ℕ) → IsLegal Root W (G ++ K) → Closed G k → Closed (G ++ K) k
closed_stays Root W G K k legal closed p cell l =
    let old : IsCellOf (outcome_at G) p = cell_back Root W G K k legal closed (length p) p (omega arith) (omega arith) cell in
    let t = some_is (outcome_at G p) (closed p old l) in
    subst IsSome (sym (outcome_at_stays G K p t.0 t.1)) refl

-- what fits the plan at a beginning comes next after the whole
pub comes_next : (Root : Area) (L : Budget) (G K : History) (path : List Side) (o : Outcome) → IsLegal Root L.wits (G ++ K) → FitsPlan Root L G path o → MayComeNext Root L (G ++ K) (event_at path o)
comes_next Root L G K path o legal fits = record {
  rows_done = closed_stays Root L.wits G K (length path) legal fits.next.rows_done;
  by_plan = plan_stays Root L G K (event_at path o) legal fits.next.rows_done fits.cell fits.next.by_plan;
}

abbrev other : List Side → List Side → Bool
other path p = not (path_eq path p)

module _ (R : Area) (T : Tree) where
  -- the cells of the other paths
  without-map : (path : List Side) (q : List (List Side)) → without path (map (cell_at R T) q) ≡ map (cell_at R T) (filter (other path) q)
  without-map path [] = refl
  without-map path (p ∷ q) =
      elim (path_eq path p) as (λ b. cond (not b) (cell_at R T p ∷ without path (map (cell_at R T) q)) (without path (map (cell_at R T) q))
      ≡ map (cell_at R T) (cond (not b) (p ∷ filter (other path) q) (filter (other path) q))) [
        | true ↦ without-map path q
        | false ↦ ap (λ (cs : List WaitingCell). cell_at R T p ∷ cs) (without-map path q)
      ]

  map_differs : (S : Tree) (q : List (List Side)) → ((p : List Side) → Contains q p → cell_at R T p ≡ cell_at R S p) → map (cell_at R T) q ≡ map (cell_at R S) q
  map_differs S [] h = refl
  map_differs S (p ∷ q) h =
      ap₂ (λ (c : WaitingCell) (cs : List WaitingCell). c ∷ cs) (h p (0, omega arith, refl)) (map_differs S q (λ y c. h y (let l = c.1 in (suc c.0, omega arith, c.2))))

module _ (Root : Area) (W : ℕ) (H : History) (e : Entry) (legal : IsLegal Root W H) where
  abbrev after : History
  after = H ++ e ∷ []

  stays : (p : List Side) → Contains (filter (other e.path) (queue_of H)) p → cell_at Root (outcome_at H) p ≡ cell_at Root (outcome_at after) p
  stays p c =
      let cell : IsCellOf (outcome_at H) p = ((queue_is Root W H legal).to p (from_filter (other e.path) (queue_of H) p c).0).0 in
      ap (λ (R : Area). let x : WaitingCell = record { path = p; region = R } in x) (sym (region_at_stays Root W H legal (e ∷ []) p cell))

  -- the cells that wait after an event
  pub waits_after : (waiting : List WaitingCell) → waiting ≡ waiting_in Root H
      → without e.path waiting ++ map (cell_at Root (outcome_at (H ++ e ∷ []))) (parts_by e.path e.outcome) ≡ waiting_in Root (H ++ e ∷ [])
  waits_after waiting is =
      let gone : without e.path waiting ≡ map (cell_at Root (outcome_at after)) (filter (other e.path) (queue_of H))
      = ap (without e.path) is ∙ without-map Root (outcome_at H) e.path (queue_of H)
      ∙ map_differs Root (outcome_at H) (outcome_at after) (filter (other e.path) (queue_of H)) stays in
      ap (λ (cs : List WaitingCell). cs ++ map (cell_at Root (outcome_at after)) (parts_by e.path e.outcome)) gone
      ∙ sym (map-append (cell_at Root (outcome_at after)) (filter (other e.path) (queue_of H)) (parts_by e.path e.outcome))
      ∙ ap (map (cell_at Root (outcome_at after))) (sym (queue-append H e))

module _ (terms : Terms) (H : History) (t : Growing) (path : List Side) (f : Found) (frontier : List WaitingCell) (book : IsBook terms H t frontier) (may : MayEnter t.version path f) (ready : IsReady terms H path f) (sound : IsSound f.region f.w f.outcome) where
  there : IsWelcome terms.root H path f
  there = welcome terms.root H t.version book.stands path f may

  abbrev e : Entry
  e = event_at path f.outcome

  follows : MayFollow terms.root terms.w H e
  follows = record {
    there = there.is_open.cell;
    fresh = there.is_open.open_yet;
    sound = subst (λ (R : Area). IsSound R terms.w f.outcome) there.same (subst (λ (n : ℕ). IsSound f.region n f.outcome) ready.w sound);
  }

  planned : (L : Budget) → terms.plan ≡ Some L → IsPlanned terms.root L (H ++ e ∷ [])
  planned L is =
      let old : IsPlanned terms.root L H = book.lawful.planned L is in
      let start : History = ready.planned.0 in
      let rest : History = ready.planned.1.0 in
      let legal : IsLegal terms.root L.wits (start ++ rest) = subst (IsLegal terms.root L.wits) ready.planned.1.1 old.legal in
      let next : MayComeNext terms.root L H e = subst (λ (G : History). MayComeNext terms.root L G e) (sym ready.planned.1.1) (comes_next terms.root L start rest path f.outcome legal (ready.planned.2 L is)) in
      IsPlanned-append terms.root L H e old (subst (λ (n : ℕ). MayFollow terms.root n H e) (sym (book.bounds.same L is)) follows) next

  -- the book with the event
  entered : (u : Growing) (same : Terms) (later : List WaitingCell) → u.version ≡ with_entry t.version path f.outcome
      → later ≡ without path frontier ++ map (cell_in u.version) (parts_by path f.outcome) → same ≡ terms → IsBook same (H ++ event_at path f.outcome ∷ []) u later
  entered u same later is parts equal =
      let stands : StandsFor terms.root (H ++ e ∷ []) u.version = subst (StandsFor terms.root (H ++ e ∷ [])) (sym is) (Stands-append terms.root H t.version e book.stands there.is_open.open_yet) in
      let made : IsBook terms (H ++ e ∷ []) u later = record {
        bounds = book.bounds;
        lawful = record { legal = IsLegal-append terms.root terms.w H e book.lawful.legal follows; planned = planned };
        stands = stands;
        waits = parts ∙ ap (λ (cs : List WaitingCell). without path frontier ++ cs) (cells_same terms.root (H ++ e ∷ []) u.version stands (parts_by path f.outcome))
            ∙ waits_after terms.root terms.w H e book.lawful.legal frontier book.waits;
      } in
      subst (λ (x : Terms). IsBook x (H ++ e ∷ []) u later) (sym equal) made

  -- the same, as the book's parts are made
  pub book_after : (u : Growing) (later : List WaitingCell) (events now : History) (o : Outcome) (same : Terms) → u.version ≡ with_entry t.version path f.outcome
      → later ≡ without path frontier ++ map (cell_in u.version) (parts_by path f.outcome)
      → events ≡ H → now ≡ events ++ event_at path o ∷ [] → o ≡ f.outcome → same ≡ terms → (now ≡ H ++ event_at path f.outcome ∷ []) × IsBook same now u later
  book_after u later events now o same is parts a b d equal =
      let grown : now ≡ H ++ event_at path f.outcome ∷ [] = b ∙ ap₂ (λ (G : History) (x : Outcome). G ++ event_at path x ∷ []) a d in
      (grown, subst (λ (G : History). IsBook same G u later) (sym grown) (entered u same later is parts equal))

  -- the event is the last of the history
  pub done : (u : Growing) (later : List WaitingCell) (now : History) (n : ℕ) → now ≡ H ++ event_at path f.outcome ∷ [] → n ≡ length now → IsBook terms now u later → Commits terms path f H (IsDone n) now
  done u later now n is count made = record { answer = (there, is, count); lawful = made.lawful }

-- an entry leaves the terms as they are
pub same_terms : (u t : Growing) (w : ℕ) (plan : Option Budget) (path : List Side) (o : Outcome) → u.version ≡ with_entry t.version path o → terms_of u w plan ≡ terms_of t w plan
same_terms u t w plan path o is = λ i. record { root = ap (λ (v : Snapshot). v.region) is i; w = w; plan = plan }

-- what a version's refusal says of the history
module _ (terms : Terms) (H : History) (g : Growing) (path : List Side) (f : Found) (frontier : List WaitingCell) (book : IsBook terms H g frontier) where
  tree : tree_of g.version ≡ outcome_at H
  tree = same_tree terms.root H g.version book.stands

  by_refusal : (e : TreeErr) → IsTreeErr g.version path f e → RepliesWith terms H path f (commit_of e) H
  by_refusal (NotThere p) t =
      let u : (IsCellOf (outcome_at H) path → ⊥) × IsLongestCell (outcome_at H) path p = subst (λ (T : Tree). (IsCellOf T path → ⊥) × IsLongestCell T path p) tree t in
      (refl, u.0, u.1)
  by_refusal (Done o) t =
      let u : IsCellOf (outcome_at H) path × (outcome_at H path ≡ Some (arc_value o)) = subst (λ (T : Tree). IsCellOf T path × (T path ≡ Some (arc_value o))) tree t in
      (refl, u.0, u.1)
  by_refusal (OtherCell c) t =
      (refl, subst (λ (T : Tree). IsOpenIn T path) tree t.0, t.1 ∙ ap₂ (λ (R : Area) (T : Tree). region_at R T path) book.stands.region tree, t.2)
  by_refusal (NoMemory g) t = (refl, t)

  pub refused : (e : TreeErr) (reply : Commit) (now : History) → IsTreeErr g.version path f e → reply ≡ commit_of e → now ≡ H → Commits terms path f H reply now
  refused e reply now t is same = record {
    answer = subst (λ (G : History). RepliesWith terms H path f reply G) (sym same) (subst (λ (r : Commit). RepliesWith terms H path f r H) (sym is) (by_refusal e t));
    lawful = subst (IsLawful terms) (sym same) book.lawful;
  }

-- the book without an event
pub no_event : (terms same : Terms) (t : Growing) (frontier : List WaitingCell) (H : History) → AreTerms terms → t.version ≡ record { region = terms.root; entries = finite.empty }
    → H ≡ [] → frontier ≡ record { path = []; region = terms.root } ∷ [] → same ≡ terms → IsBook same H t frontier
no_event terms same t frontier H bounds is none one equal =
    let made : IsBook terms [] t frontier = record {
      bounds = bounds;
      lawful = record { legal = IsLegal-empty terms.root terms.w; planned = λ L e. IsPlanned-empty terms.root L };
      stands = subst (StandsFor terms.root []) (sym is) (Stands-empty terms.root);
      waits = one ∙ ap (λ (R : Area). let x : WaitingCell = record { path = []; region = R } in x ∷ []) (sym (append-nil terms.root));
    } in
    subst (λ (u : Terms). IsBook u H t frontier) (sym equal) (subst (λ (G : History). IsBook terms G t frontier) (sym none) made)

-- what fits the plan at a beginning of what was seen is ready for each history that goes on from there
pub ready_later : (terms same : Terms) (seen list : History) (path : List Side) (f : Found) → same ≡ terms → Begins seen list → f.w ≡ terms.w → IsShortCut path f.outcome
    → ((start : History) × Begins start seen × ((L : Budget) → terms.plan ≡ Some L → FitsPlan terms.root L start path f.outcome)) → IsReady same list path f
ready_later terms same seen list path f t b w short planned =
    subst (λ (u : Terms). IsReady u list path f) (sym t) (record { w = w; short = short; planned = (planned.0, begins_trans planned.0 seen list planned.1 b, planned.2) })

-- the same, with what was made ahead
pub prepared_later : (terms same : Terms) (seen list : History) (path : List Side) (f : Found) (parts : Option (WaitingCell × WaitingCell)) → same ≡ terms → Begins seen list → f.w ≡ terms.w → IsShortCut path f.outcome
    → ((start : History) × Begins start seen × ((L : Budget) → terms.plan ≡ Some L → FitsPlan terms.root L start path f.outcome))
    → AreMadeBy (record { path = path; region = f.region }) f.outcome parts → IsPrepared same list path f parts
prepared_later terms same seen list path f parts t b w short planned made =
    record { ready = ready_later terms same seen list path f t b w short planned; ahead = made }
