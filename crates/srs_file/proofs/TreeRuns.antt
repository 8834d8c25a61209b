-- The lines of a tree are read as the tree.
use Rattle.std.proofs.Common.{◌≡◌, ◌≢◌, ◌<◌, ◌≤◌, ◌+◌, ◌-◌, ◌++◌, ℕ, pos, List, [], ◌∷◌, length, get_or, codes, flat_map, refl, sym, ap, ◌∙◌, inl, inr, arith, append_assoc, append-nil, length-append}
use Rattle.std.specs.Prelude.{All, AllPairs}
use Rattle.std.proofs.Math.Seq.{get_or-append_seam}
use Rattle.std.proofs.lemmas.Int.{ints}
use Rattle.std.proofs.lemmas.List.Elements.{All-head, All-tail}
use Rattle.srs_num.specs.declared.pairs.V2.{V2}
use Rattle.srs_map.specs.Step.{IsNarrow}
use Rattle.srs_path.specs.declared.paths.Side.{Side}
use Rattle.srs_path.specs.declared.paths.Side.TheVariants.{Ge, Lt}
use Rattle.srs_path.specs.declared.outcomes.Outcome.{Outcome}
use Rattle.srs_path.specs.declared.outcomes.Outcome.TheVariants.{Inside, Outside, Cut, Left}
use Rattle.srs_path.specs.Core.{Precedes}
use Rattle.srs_path.specs.Views.{Budget, IsBudget, Entry}
use Rattle.srs_tree.specs.Tree.{History}
use Rattle.srs_tree.specs.Rounds.{parts_by}
use Rattle.srs_tree.specs.WholeTrees.{ListsTrees, AllowsAt, KeepsTo}
use Rattle.srs_line.specs.Machine.{lines_text, Runs}
use Rattle.srs_line.specs.Fields.{line_of}
use Rattle.srs_line.proofs.LineTexts.{says_line, line_no_lf}
use Rattle.srs_line.proofs.FieldLaws.{says_word}
use Rattle.srs_file.specs.declared.tree.Tree.{Tree}
use Rattle.srs_file.specs.declared.cert_reader.CertPhase.TheVariants.{Nodes, Done}
use Rattle.srs_file.specs.declared.cert_reader.CertReader.{CertReader}
use Rattle.srs_cert.specs.Texts.{ended, count_text, rank_text, outcome_text}
use Rattle.srs_cert.specs.Certificates.{CertView, IsInRange}
use Rattle.srs_file.specs.declared.outline.Outline.{Outline}
use Rattle.srs_file.specs.Leaf.{LeafView, IsEntry, Follows}
use Rattle.srs_file.specs.TreeReading.{left_line, no_leaf, at_path, Counts}
use Rattle.srs_file.specs.CertReading.{CertSteps, read_view}
use Rattle.srs_file.proofs.LeafLaws.{entry_numbers}
use Rattle.srs_file.proofs.TreeTexts.{events_text}
use Rattle.srs_file.proofs.LineShapes.{w_plain, in_plain, out_plain, cut_plain, count_fits, entry_fits, form_fits, cycle_fits, left_no_lf, left_word, end_no_lf}

abbrev pub entry_line : V2 × ℕ → List ℕ
entry_line e = line_of (codes "w") (entry_numbers e.0 (pos e.1))

abbrev pub entry_lines : List (V2 × ℕ) → List (List ℕ) → List (List ℕ)
entry_lines [] more = more
entry_lines (e ∷ es) more = entry_line e ∷ entry_lines es more

abbrev pub outcome_lines : Outcome → List (List ℕ) → List (List ℕ)
outcome_lines (Inside entries) more = line_of (codes "in") (pos (length entries) ∷ []) ∷ entry_lines entries more
outcome_lines (Outside cycle) more = line_of (codes "out") (pos (length cycle) ∷ cycle) ∷ more
outcome_lines (Cut h) more = line_of (codes "cut") (h.a ∷ h.b ∷ h.c ∷ []) ∷ more
outcome_lines (Left cause) more = left_line cause ∷ more

abbrev pub event_lines : History → List (List ℕ)
event_lines [] = codes "end" ∷ []
event_lines (e ∷ H) = outcome_lines e.outcome (event_lines H)

joined_entries : (es : List (V2 × ℕ)) (more : List (List ℕ)) → lines_text (entry_lines es more) ≡ flat_map rank_text es ++ lines_text more
joined_entries [] more = refl
joined_entries (e ∷ es) more = ap (λ x. rank_text e ++ x) (joined_entries es more) ∙ sym (append_assoc (rank_text e) (flat_map rank_text es) (lines_text more))

joined_outcome : (o : Outcome) (more : List (List ℕ)) → lines_text (outcome_lines o more) ≡ outcome_text o ++ lines_text more
joined_outcome (Inside es) more =
    ap (λ x. count_text (codes "in") (length es) ++ x) (joined_entries es more) ∙ sym (append_assoc (count_text (codes "in") (length es)) (flat_map rank_text es) (lines_text more))
joined_outcome (Outside cycle) more = refl
joined_outcome (Cut h) more = refl
joined_outcome (Left cause) more = refl

pub joined_events : (H : History) → lines_text (event_lines H) ≡ events_text H ++ ended (codes "end")
joined_events [] = refl
joined_events (e ∷ H) =
    joined_outcome e.outcome (event_lines H) ∙ ap (λ x. outcome_text e.outcome ++ x) (joined_events H) ∙ sym (append_assoc (outcome_text e.outcome) (events_text H) (ended (codes "end")))

-- what the lines of the entries that are left ask
abbrev pub EntriesFrom : List (V2 × ℕ) → List (V2 × ℕ) → Type 0
EntriesFrom done [] = Unit {0}
EntriesFrom done (e ∷ rest) = (IsNarrow e.0 × (e.1 ≤ 16384)) × Follows done e.0 × EntriesFrom (done ++ e ∷ []) rest

entries_from : (done rest : List (V2 × ℕ)) → AllPairs (λ (e f : V2 × ℕ). Precedes e.0 f.0) (done ++ rest) → All (λ (e : V2 × ℕ). IsNarrow e.0 × (e.1 ≤ 16384)) (done ++ rest) → EntriesFrom done rest
entries_from done [] asc each = tt
entries_from done (e ∷ rest) asc each =
    let here : get_or (done ++ e ∷ rest) (length done) e ≡ e = get_or-append_seam done e rest e in
    let size : length (done ++ e ∷ rest) ≡ length done + length (e ∷ rest) = length-append done (e ∷ rest) in (
      rw here at (each (length done) e (omega arith)),
      (λ before last q.
          let whole : done ++ e ∷ rest ≡ before ++ last ∷ (e ∷ rest) = ap (λ x. x ++ e ∷ rest) q ∙ append_assoc before (last ∷ []) (e ∷ rest) in
          let there : get_or (done ++ e ∷ rest) (length before) e ≡ last = rw whole (get_or-append_seam before last (e ∷ rest) e) in
          let low : length before < length done = omega (arith, ap length q, length-append before (last ∷ [])) in
          rw (there, here) at (asc (length before) (length done) e low (omega arith))),
      entries_from (done ++ e ∷ []) rest (rw (append_assoc done (e ∷ []) rest) asc) (rw (append_assoc done (e ∷ []) rest) each),
    )

-- trees that wait have an event each
waiting_few : (waiting : List (List Side)) (H : History) → ListsTrees waiting H → length waiting ≤ length H
waiting_few [] H l = omega arith
waiting_few (p ∷ w) [] l = absurd l
waiting_few (p ∷ w) (e ∷ H) l = let more = waiting_few (parts_by e.path e.outcome ++ w) H l.1 in omega (arith, more, length-append (parts_by e.path e.outcome) w)

-- how many cells there are after an outcome
abbrev pub cells_after : ℕ → Outcome → ℕ
cells_after cells (Inside es) = cells
cells_after cells (Outside cycle) = cells
cells_after cells (Cut h) = cells + 2
cells_after cells (Left cause) = cells

not_empty : (waiting rest : List (List Side)) (path : List Side) → waiting ≡ path ∷ rest → waiting ≢ []
not_empty waiting rest path e f = omega (arith, ap length e, ap length f)

module _ (outline : Outline) (b : Budget) (is_budget : IsBudget b) where
  abbrev pub st : ℕ → List (List Side) → LeafView → History → CertReader
  st cells pending leaf H = record { phase = Nodes; outline = outline; tree = record { limits = b; cells = cells; pending = pending; leaf = leaf; events = H } }

  -- the lines lead to an end, with these events
  pub record Ends (s : CertReader) (lines : List (List ℕ)) (G : History) : Type 0 where
    pub last : CertReader
    pub runs : Runs CertSteps s lines last
    pub done : last.phase ≡ Done
    pub view_is : read_view last ≡ (record { vertices = outline.ring.vertices; limits = b; events = G })

  leaf_left : (m n : ℕ) (es : List (V2 × ℕ)) → m ≡ n → let l : LeafView = record { left = m; entries = es } in l ≡ (record { left = n; entries = es })
  leaf_left m n es e = rw e refl

  leaf_runs : (cells : ℕ) (waiting rest : List (List Side)) (p : List Side) (H : History) (before : List (V2 × ℕ)) (e : V2 × ℕ) (es : List (V2 × ℕ)) (lines : List (List ℕ)) (t : CertReader)
      → waiting ≡ p ∷ rest → EntriesFrom before (e ∷ es) → Runs CertSteps (st cells rest no_leaf (H ++ at_path p (Inside (before ++ e ∷ es)) ∷ [])) lines t
      → Runs CertSteps (st cells waiting (record { left = length (e ∷ es); entries = before }) H) (entry_lines (e ∷ es) lines) t
  leaf_runs cells waiting rest p H before e [] lines t w f more =
      let fit = entry_fits e.0 e.1 f.0.0 f.0.1 in
      let said = says_line (codes "w") (entry_numbers e.0 (pos e.1)) w_plain fit in
      let entry : IsEntry e.0 (pos e.1) = (f.0.0, omega (arith, ints), omega (arith, ints, f.0.1)) in
      let leaf : LeafView = record { left = 0; entries = before ++ e ∷ [] } in
      let tree : Tree = record { limits = b; cells = cells; pending = rest; leaf = no_leaf; events = H ++ at_path p (Inside (before ++ e ∷ [])) ∷ [] } in (
        st cells rest no_leaf (H ++ at_path p (Inside (before ++ e ∷ [])) ∷ []),
        inl (not_empty waiting rest p w, tree, inl (omega arith, (leaf, (e.0, e.1, (said, entry), f.1, refl), inr (refl, (p, rest, w, refl)))), refl),
        line_no_lf (codes "w") (entry_numbers e.0 (pos e.1)) w_plain fit,
        more,
      )
  leaf_runs cells waiting rest p H before e (g ∷ es) lines t w f more =
      let fit = entry_fits e.0 e.1 f.0.0 f.0.1 in
      let said = says_line (codes "w") (entry_numbers e.0 (pos e.1)) w_plain fit in
      let entry : IsEntry e.0 (pos e.1) = (f.0.0, omega (arith, ints), omega (arith, ints, f.0.1)) in
      let less : length (g ∷ es) ≡ length (e ∷ g ∷ es) - 1 = omega arith in
      let leaf : LeafView = record { left = length (g ∷ es); entries = before ++ e ∷ [] } in
      let tree : Tree = record { limits = b; cells = cells; pending = waiting; leaf = leaf; events = H } in (
        st cells waiting leaf H,
        inl (not_empty waiting rest p w, tree, inl (omega arith, (leaf, (e.0, e.1, (said, entry), f.1, leaf_left (length (g ∷ es)) (length (e ∷ g ∷ es) - 1) (before ++ e ∷ []) less), inl (omega arith, refl))), refl),
        line_no_lf (codes "w") (entry_numbers e.0 (pos e.1)) w_plain fit,
        leaf_runs cells waiting rest p H (before ++ e ∷ []) g es lines t w f.2 (rw (append_assoc before (e ∷ []) (g ∷ es)) more),
      )

  node_runs : (cells : ℕ) (waiting rest : List (List Side)) (p : List Side) (o : Outcome) (H : History) (lines : List (List ℕ)) (G : History)
      → waiting ≡ p ∷ rest → IsInRange o → AllowsAt b (length p) o → cells_after cells o ≤ b.cells
      → Ends (st (cells_after cells o) (parts_by p o ++ rest) no_leaf (H ++ at_path p o ∷ [])) lines G → Ends (st cells waiting no_leaf H) (outcome_lines o lines) G
  node_runs cells waiting rest p (Inside []) H lines G w range few room next = absurd (omega (arith, range.some))
  node_runs cells waiting rest p (Inside (e ∷ es)) H lines G w range few room next =
      let n = length (e ∷ es) in
      let fit = count_fits n (omega (arith, range.short)) in
      let said = says_line (codes "in") (pos n ∷ []) in_plain fit in
      let leaf : LeafView = record { left = n; entries = [] } in
      let tree : Tree = record { limits = b; cells = cells; pending = waiting; leaf = leaf; events = H } in
      record {
        last = next.last;
        runs = (
          st cells waiting leaf H,
          inl (not_empty waiting rest p w, tree, inr (refl, inr (inl (says_word (codes "in") (line_of (codes "in") (pos n ∷ [])) (pos n ∷ []) said, (n, (range.some, few, said), refl)))), refl),
          line_no_lf (codes "in") (pos n ∷ []) in_plain fit,
          leaf_runs cells waiting rest p H [] e es lines next.last w (entries_from [] (e ∷ es) range.ascending range.each) next.runs,
        );
        done = next.done;
        view_is = next.view_is;
      }
  node_runs cells waiting rest p (Outside cycle) H lines G w range few room next =
      let numbers = pos (length cycle) ∷ cycle in
      let fit = cycle_fits cycle range in
      let said = says_line (codes "out") numbers out_plain fit in
      let tree : Tree = record { limits = b; cells = cells; pending = rest; leaf = no_leaf; events = H ++ at_path p (Outside cycle) ∷ [] } in
      let count : Counts b.wits (pos (length cycle)) cycle = record { some = range.some; few = few; is = refl } in
      record {
        last = next.last;
        runs = (
          st cells rest no_leaf (H ++ at_path p (Outside cycle) ∷ []),
          inl (not_empty waiting rest p w, tree, inr (refl, inr (inr (inl (says_word (codes "out") (line_of (codes "out") numbers) numbers said, (pos (length cycle), cycle, said, count, range, (p, rest, w, refl)))))), refl),
          line_no_lf (codes "out") numbers out_plain fit,
          next.runs,
        );
        done = next.done;
        view_is = next.view_is;
      }
  node_runs cells waiting rest p (Cut h) H lines G w range high room next =
      let numbers = h.a ∷ h.b ∷ h.c ∷ [] in
      let fit = form_fits h range in
      let said = says_line (codes "cut") numbers cut_plain fit in
      let tree : Tree = record { limits = b; cells = cells + 2; pending = (p ++ Ge ∷ []) ∷ (p ++ Lt ∷ []) ∷ rest; leaf = no_leaf; events = H ++ at_path p (Cut h) ∷ [] } in
      record {
        last = next.last;
        runs = (
          st (cells + 2) ((p ++ Ge ∷ []) ∷ (p ++ Lt ∷ []) ∷ rest) no_leaf (H ++ at_path p (Cut h) ∷ []),
          inl (not_empty waiting rest p w, tree, inr (refl, inl (says_word (codes "cut") (line_of (codes "cut") numbers) numbers said, (h, said, (room, range, (p, rest, w, high, refl))))), refl),
          line_no_lf (codes "cut") numbers cut_plain fit,
          next.runs,
        );
        done = next.done;
        view_is = next.view_is;
      }
  node_runs cells waiting rest p (Left cause) H lines G w range few room next =
      let tree : Tree = record { limits = b; cells = cells; pending = rest; leaf = no_leaf; events = H ++ at_path p (Left cause) ∷ [] } in
      record {
        last = next.last;
        runs = (
          st cells rest no_leaf (H ++ at_path p (Left cause) ∷ []),
          inl (not_empty waiting rest p w, tree, inr (refl, inr (inr (inr (left_word cause, (cause, refl, (p, rest, w, refl)))))), refl),
          left_no_lf cause,
          next.runs,
        );
        done = next.done;
        view_is = next.view_is;
      }

  -- how many cells there are: those with an event, and those that wait
  cells_next : (cells done : ℕ) (p : List Side) (o : Outcome) (rest : List (List Side)) → cells ≡ done + length (p ∷ rest) → cells_after cells o ≡ (done + 1) + length (parts_by p o ++ rest)
  cells_next cells done p (Inside es) rest e = omega arith
  cells_next cells done p (Outside cycle) rest e = omega arith
  cells_next cells done p (Cut h) rest e = omega arith
  cells_next cells done p (Left cause) rest e = omega arith

  pub tree_runs : (cells : ℕ) (waiting : List (List Side)) (before H : History) → ListsTrees waiting H → cells ≡ length before + length waiting → length before + length H ≤ b.cells
      → All (KeepsTo b) H → All (λ (x : Entry). IsInRange x.outcome) H → Ends (st cells waiting no_leaf before) (event_lines H) (before ++ H)
  tree_runs cells [] before [] l size room kept ranges = record {
    last = record (st cells [] no_leaf before) { phase = Done };
    runs = (record (st cells [] no_leaf before) { phase = Done }, inr (refl, refl, refl), end_no_lf, refl);
    done = refl;
    view_is = ap (λ (G : History). let v : CertView = record { vertices = outline.ring.vertices; limits = b; events = G } in v) (sym (append-nil before));
  }
  tree_runs cells [] before (e ∷ H) l size room kept ranges = absurd l
  tree_runs cells (path ∷ rest) before [] l size room kept ranges = absurd l
  tree_runs cells (path ∷ rest) before (e ∷ H) l size room kept ranges =
      let more : length (before ++ e ∷ []) ≡ length before + 1 = length-append before (e ∷ []) in
      let count = cells_next cells (length before) e.path e.outcome rest size in
      let few = waiting_few (parts_by e.path e.outcome ++ rest) H l.1 in
      let next = tree_runs (cells_after cells e.outcome) (parts_by e.path e.outcome ++ rest) (before ++ e ∷ []) H l.1 (omega (arith, count, more)) (omega (arith, room, more)) (All-tail (KeepsTo b) e H kept) (All-tail (λ (x : Entry). IsInRange x.outcome) e H ranges) in
      let all : (before ++ e ∷ []) ++ H ≡ before ++ e ∷ H = append_assoc before (e ∷ []) H in
      node_runs cells (path ∷ rest) rest e.path e.outcome before (event_lines H) (before ++ e ∷ H) (ap (λ x. x ∷ rest) (sym l.0))
      (All-head (λ (x : Entry). IsInRange x.outcome) e H ranges) (All-head (KeepsTo b) e H kept) (omega (arith, count, few, room)) (rw all at next)
