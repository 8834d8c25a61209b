-- Round after round.
use Rattle.std.proofs.Common.{◌≡◌, ℕ, suc, ◌+◌, ◌<◌, ◌≤◌, ◌==◌, List, length, take, drop, sym, ap₂, subst, ◌∙◌, arith}
use Rattle.std.proofs.lemmas.List.{take-append-drop, length-take-le}
use Rattle.std.proofs.lemmas.Bool.Decides.{Decides-eqb}
use Rattle.std.specs.Prelude.{IsSome}
use Rattle.std.proofs.Math.Decide.{dec_lt}
use Rattle.std.proofs.lemmas.Option.{same_Some}
use Rattle.std.specs.declared.option.Option.{Option}
use Rattle.std.specs.declared.option.Option.TheVariants.{Some, None}
use Rattle.srs_plane.specs.Regions.{Area}
use Rattle.srs_path.specs.declared.paths.Side.{Side}
use Rattle.srs_path.specs.declared.limits.Last.{Last}
use Rattle.srs_path.specs.Views.{Budget, IsBudget, last_of}
use Rattle.srs_turn.specs.Prefixes.{Begins}
use Rattle.srs_turn.proofs.PrefixLemmas.{begins_trans}
use Rattle.srs_tree.specs.Tree.{History, outcome_at, IsCellOf}
use Rattle.srs_tree.specs.Legality.{IsLegal}
use Rattle.srs_tree.specs.declared.queries.Said.{Said}
use Rattle.srs_tree.specs.declared.sessions.Segment.{Segment}
use Rattle.srs_tree.specs.Fits.{Fits}
use Rattle.srs_tree.specs.Rounds.{cells_of, upto, row_of, IsPlanned, AreRowsDone}
use Rattle.srs_tree.specs.Snapshots.{Snapshot, StandsFor}
use Rattle.srs_tree.proofs.Bounded.{last_at_depth, upto_within, depth_within, by_planned, count_some}
use Rattle.srs_tree.proofs.CellsLemmas.{cells_are}
use Rattle.srs_tree.proofs.TreeLemmas.{cell_of_outcome}
use Rattle.srs_tree.proofs.Trees.{prefix_cell}
use Rattle.srs_tree.proofs.PlannedWhole.{Closed, IsWhole-planned, IsInRounds-planned}
use Rattle.srs_atlas.specs.declared.book.Terms.{Terms}
use Rattle.srs_atlas.specs.declared.counts.Counts.{Counts}
use Rattle.srs_atlas.specs.Books.{IsLawful}
use Rattle.srs_atlas.specs.Counting.{AreCounts}
use Rattle.srs_atlas.proofs.Entries.{closed_stays}
use Rattle.srs_crew.specs.Rounds.{IsPlanRound, IsRoundDone, AreAllDone}
use Rattle.srs_crew.specs.Runs.{IsRun}

pub rows_none : (H : History) → AreRowsDone H 0
rows_none H = record { each = λ path cell l. absurd (omega (arith, l)) }

-- rows that are done stay so
pub rows_later : (Root : Area) (W : ℕ) (G H : History) (k : ℕ) → Begins G H → IsLegal Root W H → AreRowsDone G k → Closed H k
rows_later Root W G H k b legal rows =
    subst (λ (K : History). Closed K k) (sym b.1) (closed_stays Root W G b.0 k (subst (IsLegal Root W) b.1 legal) rows.each)

-- all cells that are done are those of each row
pub all_rows : (H : History) (k : ℕ) → AreAllDone H → AreRowsDone H k
all_rows H k done = record { each = λ path cell _. done.each path cell }

module _ (terms : Terms) (L : Budget) (plan : terms.plan ≡ Some L) (budget : IsBudget L) where
  pub plan_round : (G S : History) (k : ℕ) (n : Counts) (last : Option Last) → AreRowsDone G k → Begins G S → IsLawful terms S → AreCounts S k n → last ≡ last_of L k n.cells n.row
      → (M : Budget) → terms.plan ≡ Some M → IsPlanRound M S k last
  plan_round G S k n last rows b lawful counts is M other =
      let same : L ≡ M = same_Some L M (sym plan ∙ other) in
      subst (λ (X : Budget). IsPlanRound X S k last) same (record {
        rows_done = rows_later terms.root terms.w G S k b lawful.legal rows;
        limit = is ∙ ap₂ (λ (x y : ℕ). last_of L k x y) counts.cells counts.row;
      })

  pub counts_fit : (S : History) (k : ℕ) (n : Counts) → IsLawful terms S → AreCounts S k n → (n.cells ≤ 65536) × (n.row ≤ 65536)
  counts_fit S k n lawful counts =
      let most : upto S k ≤ L.cells = upto_within terms.root L S (by_planned terms.root L S (lawful.planned L plan)) budget.some_cell k in
      let cells : n.cells ≤ 65536 = omega (arith, most, counts.cells, budget.cells) in
      (cells, omega (arith, cells, counts.at_most))

  pub room : (k c r : ℕ) (last : Option Last) → k ≤ L.depth → last ≡ last_of L k c r → last ≡ None → k < 48
  room k c r last l is none =
      let no : k ≡ L.depth → ⊥ = λ e. last_at_depth L k c r e (sym is ∙ none) in
      omega (arith, l, no, budget.depth)

  pub rows_next : (G S H : History) (k : ℕ) → AreRowsDone G k → Begins G S → Begins S H → IsRoundDone terms k S H → AreRowsDone H (k + 1)
  rows_next G S H k rows a b done = record { each = each }
    where
      lawful : IsLawful terms H
      lawful = done.lawful

      each : (path : List Side) → IsCellOf (outcome_at H) path → length path < k + 1 → IsSome (outcome_at H path)
      each path cell l = elim (dec_lt (length path) k) as (λ _. IsSome (outcome_at H path)) [
        | yes m ↦ rows_later terms.root terms.w G H k (begins_trans G S H a b) lawful.legal rows path cell m
        | no m ↦ done.all L plan path cell (omega (arith, l, m))
      ]

module _ (terms : Terms) (L : Budget) (plan : terms.plan ≡ Some L) where
  -- where all cells were done, the history is whole
  pub ran : (S J : History) (v : Snapshot) (script : List (List Segment)) (told : List (List Said)) (Root : Area) → Fits terms.root J script told → Root ≡ terms.root → AreAllDone S → Begins S J → IsLawful terms J → StandsFor terms.root J v
      → IsRun Root L script (record { version = v; journal = J; transcripts = told })
  ran S J v script told Root fits e done b lawful stands =
      let planned : IsPlanned terms.root L J = lawful.planned L plan in
      let each : (path : List Side) → IsCellOf (outcome_at J) path → IsSome (outcome_at J path) = λ path cell.
      rows_later terms.root terms.w S J (suc (length path)) b lawful.legal (all_rows S (suc (length path)) done) path cell (omega arith) in
      subst (λ (R : Area). IsRun R L script (record { version = v; journal = J; transcripts = told })) (sym e) (record {
        whole = IsWhole-planned terms.root L J planned each;
        in_rounds = IsInRounds-planned terms.root L J planned;
        stands = stands;
        fits = fits;
      })

  -- where the rows down to the greatest depth are done, all cells are done
  pub deepest : (S : History) (k : ℕ) → L.depth < k → IsLawful terms S → AreRowsDone S k → AreAllDone S
  deepest S k deep lawful rows = record {
    each = λ path cell. rows.each path cell (let l = depth_within terms.root L S (by_planned terms.root L S (lawful.planned L plan)) path cell in omega (arith, l, deep));
  }

-- where no cell is of round k and the rows above it are done, all cells have their events
pub none_left : (Root : Area) (W : ℕ) (H : History) (k : ℕ) → IsLegal Root W H → row_of H k ≡ 0 → AreRowsDone H k → AreAllDone H
none_left Root W H k legal none rows = record { each = each }
  where
    each : (path : List Side) → IsCellOf (outcome_at H) path → IsSome (outcome_at H path)
    each path cell = elim (dec_lt (length path) k) as (λ _. IsSome (outcome_at H path)) [
      | yes l ↦ rows.each path cell l
      | no l ↦
          let long : length (take k path) ≡ k = length-take-le k path (omega (arith, l)) in
          let above : IsCellOf (outcome_at H) (take k path) =
          prefix_cell (outcome_at H) (cell_of_outcome Root W H legal) (take k path) (drop k path) (subst (IsCellOf (outcome_at H)) (sym (take-append-drop k path)) cell) in
          let some = count_some (λ (p : List Side). length p == k) (cells_of H) (take k path) ((cells_are Root W H legal).from (take k path) above) ((Decides-eqb (length (take k path)) k).1 long) in
          absurd (omega (arith, some, none))
    ]

-- the same, where the cells of the round were counted later
pub none_now : (terms : Terms) (G S : History) (k : ℕ) (n : Counts) → AreRowsDone G k → Begins G S → IsLawful terms S → AreCounts S k n → n.row ≡ 0 → AreAllDone S
none_now terms G S k n rows b lawful counts none =
    none_left terms.root terms.w S k lawful.legal (sym counts.row ∙ none) (record { each = rows_later terms.root terms.w G S k b lawful.legal rows })
