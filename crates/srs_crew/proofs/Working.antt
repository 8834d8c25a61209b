-- What the workers of a round know, and that it stays.
use Rattle.std.proofs.Common.{◌≡◌, ◌⊎◌, inl, inr, ℕ, zero, suc, ◌+◌, ◌<◌, ◌≤◌, List, [], ◌∷◌, ◌++◌, length, length-append, map, slice_get, get_or, refl, sym, ap, subst, ◌∙◌, arith, append-nil}
use Rattle.std.specs.Prelude.{Contains, IsSome, OnOk, IfOk}
use Rattle.std.specs.declared.result.Result.{Result}
use Rattle.std.specs.declared.result.Result.TheVariants.{Ok, Err}
use Rattle.std.proofs.Math.Decide.{dec_lt}
use Rattle.std.proofs.lemmas.Option.{none-some, slice_get_within}
use Rattle.std.specs.declared.option.Option.{Option}
use Rattle.std.specs.declared.option.Option.TheVariants.{Some, None}
use Rattle.std.proofs.Common.{Global, Bool, true, false, cond, leb}
use Rattle.std.specs.declared.sync.Arc.{Arc}
use Rattle.srs_cell.specs.declared.cells.Cell.{Cell}
use Rattle.srs_plane.specs.Regions.{Area}
use Rattle.srs_path.specs.declared.paths.Side.{Side}
use Rattle.srs_path.specs.declared.limits.Last.{Last}
use Rattle.srs_path.specs.declared.outcomes.Outcome.{Outcome}
use Rattle.srs_path.specs.declared.outcomes.Outcome.TheVariants.{Inside, Outside, Cut, Left}
use Rattle.srs_path.specs.declared.outcomes.Cause.TheVariants.{Memory}
use Rattle.srs_path.specs.Views.{Budget, Found}
use Rattle.srs_path.specs.Refinement.{Refines}
use Rattle.srs_turn.specs.Prefixes.{Begins, longer}
use Rattle.srs_turn.proofs.PrefixLemmas.{begins_refl, begins_trans}
use Rattle.srs_tree.specs.Tree.{History, Tree, outcome_at, IsCellOf, region_at}
use Rattle.srs_tree.specs.Legality.{IsLegal}
use Rattle.srs_tree.specs.Rounds.{last_in, IsByPlan}
use Rattle.srs_tree.specs.Growth.{IsShortCut}
use Rattle.srs_tree.specs.Queue.{WaitingCell, queue_of}
use Rattle.srs_tree.proofs.HistoryLemmas.{outcome_at_stays, IsCellOf_stays}
use Rattle.srs_tree.proofs.TreeLemmas.{region_at_stays}
use Rattle.srs_tree.proofs.PartitionAll.{IsLegal-first}
use Rattle.srs_tree.proofs.CellsLemmas.{outcome_there}
use Rattle.srs_tree.proofs.PlannedWhole.{Closed, some_is, cell_back, later_all, upto_stays, row_stays, last_same}
use Rattle.srs_tree.proofs.QueueLemmas.{queue_is}
use Rattle.srs_atlas.specs.declared.book.Terms.{Terms}
use Rattle.srs_atlas.specs.declared.commits.Commit.TheVariants.{Done, NotThere, OtherCell}
use Rattle.srs_atlas.specs.Books.{AreTerms, IsLawful, cell_at, waiting_in}
use Rattle.srs_atlas.specs.Commits.{event_at, FitsPlan, RepliesWith}
use Rattle.srs_atlas.proofs.Entries.{closed_stays}
use Rattle.srs_crew.specs.Rounds.{IsPlanRound, IsRound, IsOfRound, IsWork, AreWork, AreFromRound, TakesOfRound, IsRoundDone, AreDone}

-- what a longer history keeps
module _ (G H : History) (b : Begins G H) where
  pub cell_later : (path : List Side) → IsCellOf (outcome_at G) path → IsCellOf (outcome_at H) path
  cell_later path c = subst (λ (K : History). IsCellOf (outcome_at K) path) (sym b.1) (IsCellOf_stays G b.0 path c)

  pub done_later : (path : List Side) → IsSome (outcome_at G path) → IsSome (outcome_at H path)
  done_later path s =
      let t = some_is (outcome_at G path) s in
      subst (λ (K : History). IsSome (outcome_at K path)) (sym b.1) (subst IsSome (sym (outcome_at_stays G b.0 path t.0 t.1)) refl)

  pub region_later : (Root : Area) (W : ℕ) → IsLegal Root W H → (path : List Side) → IsCellOf (outcome_at G) path → region_at Root (outcome_at G) path ≡ region_at Root (outcome_at H) path
  region_later Root W legal path c =
      let whole : IsLegal Root W (G ++ b.0) = subst (IsLegal Root W) b.1 legal in
      sym (region_at_stays Root W G (IsLegal-first Root W G b.0 whole) b.0 path c) ∙ ap (λ (K : History). region_at Root (outcome_at K) path) (sym b.1)

  -- no cell comes to a round whose rows above are done
  pub cell_before : (Root : Area) (W k : ℕ) → IsLegal Root W H → Closed G k → (path : List Side) → length path ≤ k → IsCellOf (outcome_at H) path → IsCellOf (outcome_at G) path
  cell_before Root W k legal closed path l c =
      cell_back Root W G b.0 k (subst (IsLegal Root W) b.1 legal) closed (length path) path (omega arith) l (subst (λ (K : History). IsCellOf (outcome_at K) path) b.1 c)

  pub round_later : (Root : Area) (W : ℕ) (L : Budget) (k : ℕ) (last : Option Last) → IsLegal Root W H → IsPlanRound L G k last → IsPlanRound L H k last
  round_later Root W L k last legal r =
      let whole : IsLegal Root W (G ++ b.0) = subst (IsLegal Root W) b.1 legal in
      let all = later_all Root W G k r.rows_done [] b.0 (subst (λ (u : History). IsLegal Root W (u ++ b.0)) (sym (append-nil G)) whole) in
      subst (λ (K : History). IsPlanRound L K k last) (sym b.1) (record {
        rows_done = closed_stays Root W G b.0 k whole r.rows_done;
        limit = r.limit ∙ last_same L G (G ++ b.0) k (sym (upto_stays G b.0 k all)) (sym (row_stays G b.0 k all));
      })

-- one cell
module _ (terms : Terms) (seen : History) (last : Option Last) (c : WaitingCell) (w : IsWork terms seen last c) where
  pub cell_stands : (before : History) → Begins seen before → IsCellOf (outcome_at before) c.path
  cell_stands before b = cell_later w.start before (begins_trans w.start seen before w.begins b) c.path w.is_cell.cell

  pub region_stands : (before : History) → Begins seen before → IsLawful terms before → c.region ≡ region_at terms.root (outcome_at before) c.path
  region_stands before b lawful = w.is_cell.region ∙ region_later w.start before (begins_trans w.start seen before w.begins b) terms.root terms.w lawful.legal c.path w.is_cell.cell

  module _ (f : Found) (outcome : (f.outcome ≡ Left Memory) ⊎ Refines c.region last terms.w f.outcome) where
    short_by : (o : Outcome) → (o ≡ Left Memory) ⊎ Refines c.region last terms.w o → IsShortCut c.path o
    short_by (Inside rs) u = tt
    short_by (Outside cycle) u = tt
    short_by (Cut h) (inl e) = absurd (cc)
    short_by (Cut h) (inr r) = let l = w.is_round.room r.0 in omega (arith, l, w.is_cell.depth)
    short_by (Left cause) u = tt

    pub short : IsShortCut c.path f.outcome
    short = short_by f.outcome outcome

    pub fits : AreTerms terms → (start : History) × Begins start seen × ((L : Budget) → terms.plan ≡ Some L → FitsPlan terms.root L start c.path f.outcome)
    fits bounds = (w.start, w.begins, by)
      where
        by : (L : Budget) → terms.plan ≡ Some L → FitsPlan terms.root L w.start c.path f.outcome
        by L is =
            let r : IsPlanRound L w.start w.round last = w.is_round.by_plan L is in
            let limit : last ≡ last_in L w.start (length c.path) = r.limit ∙ ap (last_in L w.start) (sym w.is_cell.depth) in
            let plan : IsByPlan terms.root L w.start (event_at c.path f.outcome) = elim outcome [
              | inl m ↦ inl m
              | inr t ↦ inr (subst (λ (n : ℕ). Refines (region_at terms.root (outcome_at w.start) c.path) (last_in L w.start (length c.path)) n f.outcome) (sym (bounds.same L is))
                  (subst (λ (x : Option Last). Refines (region_at terms.root (outcome_at w.start) c.path) x terms.w f.outcome) limit
                  (subst (λ (R : Area). Refines R last terms.w f.outcome) w.is_cell.region t)))
            ] in
            record {
              cell = w.is_cell.cell;
              next = record { rows_done = λ p cell l. r.rows_done p cell (omega (arith, l, w.is_cell.depth)); by_plan = plan };
            }

  -- what a commit's answer can't be
  module _ (f : Found) (before after : History) (b : Begins seen before) where
    pub not_there : (p : List Side) → RepliesWith terms before c.path f (NotThere p) after → ⊥
    not_there p a = a.1 (cell_stands before b)

    pub not_other : (d : Arc Cell Global) → f.region ≡ c.region → IsLawful terms after → RepliesWith terms before c.path f (OtherCell d) after → ⊥
    not_other d same lawful a = a.3 (same ∙ region_stands before b (subst (IsLawful terms) a.0 lawful) ∙ sym a.2)

pub outcome_same : (R S : Area) (V W : ℕ) (last : Option Last) (o : Outcome) → R ≡ S → V ≡ W → (o ≡ Left Memory) ⊎ Refines R last V o → (o ≡ Left Memory) ⊎ Refines S last W o
outcome_same R S V W last o r w (inl m) = inl m
outcome_same R S V W last o r w (inr t) = inr (subst (λ (n : ℕ). Refines S last n o) w (subst (λ (X : Area). Refines X last V o) r t))

pub by_done : (terms : Terms) (before after : History) (path : List Side) (f : Found) (n : ℕ) → RepliesWith terms before path f (Done n) after → IsSome (outcome_at after path)
by_done terms before after path f n a = subst (λ (K : History). IsSome (outcome_at K path)) (sym a.1) (subst IsSome (sym (outcome_there before (event_at path f.outcome) a.0.is_open.open_yet)) refl)

-- a list that takes a cell at its end
pub snoc_get : {X : Type 0} (xs : List X) (c d : X) (i : ℕ) → slice_get (xs ++ c ∷ []) i ≡ Some d → (slice_get xs i ≡ Some d) ⊎ (d ≡ c)
snoc_get [] c d zero g = inr (cc)
snoc_get [] c d (suc i) g = absurd (none-some d g)
snoc_get (x ∷ xs) c d zero g = inl g
snoc_get (x ∷ xs) c d (suc i) g = snoc_get xs c d i g

pub from_more : (cells : List WaitingCell) (k : ℕ) (list next : List WaitingCell) (j : ℕ) (d : WaitingCell) → AreFromRound cells k list → slice_get cells j ≡ Some d → TakesOfRound k d list next → AreFromRound cells k next
from_more cells k list next j d from at (inl e) = subst (AreFromRound cells k) (sym e) from
from_more cells k list next j d from at (inr t) = subst (AreFromRound cells k) (sym t.1) (record { each = each })
  where
    each : (i : ℕ) (c : WaitingCell) → slice_get (list ++ d ∷ []) i ≡ Some c → (length c.path ≡ k) × ((m : ℕ) × (slice_get cells m ≡ Some c))
    each i c g = elim (snoc_get list d c i g) [
      | inl h ↦ from.each i c h
      | inr e ↦ (ap (λ (x : WaitingCell). length x.path) e ∙ t.0, (j, at ∙ ap (λ (x : WaitingCell). Some x) (sym e)))
    ]

pub few_more : (k n : ℕ) (d : WaitingCell) (list next : List WaitingCell) → length list ≤ n → (length list ≡ n → ⊥) → TakesOfRound k d list next → length next ≤ n
few_more k n d list next l f (inl e) = omega (arith, l, ap length e)
few_more k n d list next l f (inr t) = omega (arith, l, f, ap length t.1, length-append list (d ∷ []))

pub done_from : (terms : Terms) (k : ℕ) (first before after : History) → Begins first before → IsRoundDone terms k before after → IsRoundDone terms k first after
done_from terms k first before after b d = record { between = d.between; begins = begins_trans first before d.between b d.begins; grows = d.grows; done = d.done; all = d.all; lawful = d.lawful }

-- many cells
module _ (terms : Terms) (seen : History) (last : Option Last) (cells : List WaitingCell) (w : AreWork terms seen last cells) (now : History) (b : Begins seen now) where
  pub work_at : (i : ℕ) (c : WaitingCell) → slice_get cells i ≡ Some c → IsWork terms now last c
  work_at i c g = record { start = w.start; round = w.round; begins = begins_trans w.start seen now w.begins b; is_round = w.is_round; is_cell = w.are_cells i c g }

  pub work_later : AreWork terms now last cells
  work_later = record { start = w.start; round = w.round; begins = begins_trans w.start seen now w.begins b; is_round = w.is_round; are_cells = w.are_cells }

-- the cells that a list of pending ones has
module _ (Root : Area) (T : Tree) where
  from_map : (q : List (List Side)) (i : ℕ) (c : WaitingCell) → slice_get (map (cell_at Root T) q) i ≡ Some c → (p : List Side) × Contains q p × (c ≡ cell_at Root T p)
  from_map [] i c g = absurd (none-some c g)
  from_map (p ∷ q) zero c g = (p, (0, omega arith, refl), cc)
  from_map (p ∷ q) (suc i) c g = let t = from_map q i c g in (t.0, (let l = t.1.1 in (suc t.1.0, omega arith, t.1.2)), t.2)

  to_map : (q : List (List Side)) (i : ℕ) (d : List Side) → i < length q → slice_get (map (cell_at Root T) q) i ≡ Some (cell_at Root T (get_or q i d))
  to_map [] i d l = absurd (omega (arith, l))
  to_map (p ∷ q) zero d l = refl
  to_map (p ∷ q) (suc i) d l = to_map q i d (omega (arith, l))

module _ (terms : Terms) (H : History) (lawful : IsLawful terms H) (waiting : List WaitingCell) (is : waiting ≡ waiting_in terms.root H) (k : ℕ) where
  pub listed : (i : ℕ) (c : WaitingCell) → slice_get waiting i ≡ Some c → length c.path ≡ k → IsOfRound terms H k c
  listed i c g depth =
      let t = from_map terms.root (outcome_at H) (queue_of H) i c (ap (λ (cs : List WaitingCell). slice_get cs i) (sym is) ∙ g) in
      let path : c.path ≡ t.0 = ap (λ (x : WaitingCell). x.path) t.2 in
      let cell : IsCellOf (outcome_at H) t.0 = ((queue_is terms.root terms.w H lawful.legal).to t.0 t.1).0 in
      record {
        depth = depth;
        cell = subst (IsCellOf (outcome_at H)) (sym path) cell;
        region = ap (λ (x : WaitingCell). x.region) t.2 ∙ ap (region_at terms.root (outcome_at H)) (sym path);
      }

  pub works : (last : Option Last) (cells : List WaitingCell) → IsRound terms H k last → AreFromRound waiting k cells → AreWork terms H last cells
  works last cells round from = record {
    start = H;
    round = k;
    begins = begins_refl H;
    is_round = round;
    are_cells = λ i c g. let t = from.each i c g in listed t.1.0 c t.1.1 t.0;
  }

  pub work_of : (last : Option Last) → IsRound terms H k last → (now : History) → Begins H now → (i : ℕ) (c : WaitingCell) → slice_get waiting i ≡ Some c → length c.path ≡ k → IsWork terms now last c
  work_of last round now b i c g depth = record { start = H; round = k; begins = b; is_round = round; is_cell = listed i c g depth }

  -- where the cells of the round that waited have their events, all cells have that stood then
  pub round_done : (before after : History) (last : Option Last) → Begins before H → Begins H after → IsLawful terms after → ((L : Budget) → terms.plan ≡ Some L → IsPlanRound L H k last)
      → (i : ℕ) → length waiting ≤ i → AreDone waiting i k after → IsRoundDone terms k before after
  round_done before after last b g now plan i end done = record {
    between = H;
    begins = b;
    grows = g;
    done = each;
    all = λ L p path cell depth. each path (cell_before H after g terms.root terms.w k now.legal (plan L p).rows_done path (omega (arith, depth)) cell) depth;
    lawful = now;
  }
    where
      each : (path : List Side) → IsCellOf (outcome_at H) path → length path ≡ k → IsSome (outcome_at after path)
      each path cell depth = elim (outcome_at H path) as (λ o. outcome_at H path ≡ o → IsSome (outcome_at after path)) [
        | Some o ↦ λ e. done_later H after g path (subst IsSome (sym e) refl)
        | None ↦ λ e.
            let c = (queue_is terms.root terms.w H lawful.legal).from path cell e in
            let at : slice_get waiting c.0 ≡ Some (cell_at terms.root (outcome_at H) (get_or (queue_of H) c.0 path)) = ap (λ (cs : List WaitingCell). slice_get cs c.0) is ∙ to_map terms.root (outcome_at H) (queue_of H) c.0 path c.1 in
            subst (λ (p : List Side). IsSome (outcome_at after p)) c.2
            (done.each c.0 (cell_at terms.root (outcome_at H) (get_or (queue_of H) c.0 path)) (let l = slice_get_within waiting c.0 _ at in omega (arith, l, end)) at (ap length c.2 ∙ depth))
      ] refl

-- the cells of the round that are done so far
module _ (cells : List WaitingCell) (i k : ℕ) (seen : History) (done : AreDone cells i k seen) where
  pub more : (now : History) (c : WaitingCell) → Begins seen now → slice_get cells i ≡ Some c → (length c.path ≡ k → IsSome (outcome_at now c.path)) → AreDone cells (i + 1) k now
  more now c b g here = record { each = each }
    where
      each : (j : ℕ) (d : WaitingCell) → j < i + 1 → slice_get cells j ≡ Some d → length d.path ≡ k → IsSome (outcome_at now d.path)
      each j d l e depth = elim (dec_lt j i) as (λ _. IsSome (outcome_at now d.path)) [
        | yes a ↦ done_later seen now b d.path (done.each j d a e depth)
        | no a ↦
            let at : j ≡ i = omega (arith, a, l) in
            let same : Some d ≡ Some c = sym e ∙ ap (slice_get cells) at ∙ g in
            let is : d ≡ c = cc in
            subst (λ (x : WaitingCell). IsSome (outcome_at now x.path)) (sym is) (here (sym (ap (λ (x : WaitingCell). length x.path) is) ∙ depth))
      ]

-- what follows from what holds at `Ok`
module _ {X E : Type 0} where
  pub on_ok : (P Q : Type 0) (r : Result X E) → (P → Q) → OnOk r P → OnOk r Q
  on_ok P Q (Ok x) f p = f p
  on_ok P Q (Err e) f p = tt

  pub ok_always : (P : Type 0) (r : Result X E) → P → OnOk r P
  ok_always P (Ok x) p = p
  ok_always P (Err e) p = tt

  pub if_ok : (P Q : X → Type 0) (r : Result X E) → ((x : X) → P x → Q x) → IfOk r P → IfOk r Q
  if_ok P Q (Ok x) f p = f x p
  if_ok P Q (Err e) f p = tt

  pub on_ok_both : (P Q S : Type 0) (r : Result X E) → (P → Q → S) → OnOk r P → OnOk r Q → OnOk r S
  on_ok_both P Q S (Ok x) f p q = f p q
  on_ok_both P Q S (Err e) f p q = tt

-- the longer of two lawful histories is lawful
pub lawful_longer : (terms : Terms) (G H K : History) → IsLawful terms G → IsLawful terms H → K ≡ longer G H → IsLawful terms K
lawful_longer terms G H K g h e = subst (IsLawful terms) (sym e) (by (leb (length G) (length H)))
  where
    by : (b : Bool) → IsLawful terms (cond b H G)
    by true = h
    by false = g
