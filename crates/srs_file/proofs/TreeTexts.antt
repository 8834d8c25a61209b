-- What the lines of a tree spell, and what holds of a tree that good lines lead to.
use Rattle.std.proofs.Common.{◌≡◌, ◌≢◌, ◌<◌, ◌≤◌, ◌+◌, ◌-◌, ◌++◌, ℕ, zero, suc, pos, List, [], ◌∷◌, length, codes, flat_map, refl, sym, ap, ◌∙◌, inl, inr, arith, append_assoc, append-nil, length-append}
use Rattle.std.specs.Prelude.{All, AllPairs}
use Rattle.std.proofs.lemmas.Int.{ints}
use Rattle.std.proofs.lemmas.List.{map-append}
use Rattle.std.proofs.lemmas.List.Concat.{flat_map-append}
use Rattle.std.proofs.lemmas.List.Elements.{All-nil, All-cons, All-append}
use Rattle.srs_num.specs.declared.pairs.V2.{V2}
use Rattle.srs_num.specs.Points.{LinearForm, IsFormSized}
use Rattle.srs_map.specs.Step.{IsNarrow}
use Rattle.srs_path.specs.declared.paths.Side.{Side}
use Rattle.srs_path.specs.declared.outcomes.Outcome.{Outcome}
use Rattle.srs_path.specs.declared.outcomes.Outcome.TheVariants.{Inside, Outside, Cut, Left}
use Rattle.srs_path.specs.Core.{Precedes}
use Rattle.srs_path.specs.Lists.{IsRankList}
use Rattle.srs_path.specs.Views.{Budget, IsBudget, Entry}
use Rattle.srs_path.proofs.Order.{precedes-trans}
use Rattle.srs_tree.specs.Tree.{History}
use Rattle.srs_tree.specs.Rounds.{parts_by}
use Rattle.srs_tree.specs.WholeTrees.{ListsTrees, AllowsAt, KeepsTo}
use Rattle.srs_line.specs.Fields.{line_of}
use Rattle.srs_line.proofs.LineTexts.{said_is}
use Rattle.srs_file.specs.declared.tree.Tree.{Tree}
use Rattle.srs_cert.specs.Texts.{ended, count_text, rank_text, outcome_text}
use Rattle.srs_cert.specs.Certificates.{outcomes_of, IsInRange}
use Rattle.srs_file.specs.Leaf.{LeafView, TakesEntry}
use Rattle.srs_file.specs.TreeReading.{at_path, no_leaf, only_root, TakesOutcome, Divides, HasRoom, StepsNode, StepsEntry, TakesLine}
use Rattle.srs_file.proofs.Leaves.{ascends_push}
use Rattle.srs_file.proofs.LeafLaws.{entry_numbers}

-- a leaf's lines so far, where n witnesses are announced
abbrev pub opened : ℕ → List (V2 × ℕ) → List ℕ
opened n entries = count_text (codes "in") n ++ flat_map rank_text entries

-- the lines of the leaf at hand, to which `left` witnesses are still to come
abbrev pub leaf_text : ℕ → List (V2 × ℕ) → List ℕ
leaf_text zero entries = []
leaf_text (suc m) entries = opened (length entries + suc m) entries

-- the lines of some events, and of the leaf at hand
abbrev pub body : List ℕ → ℕ → List (V2 × ℕ) → List ℕ
body done left entries = done ++ leaf_text left entries

abbrev pub events_text : History → List ℕ
events_text H = flat_map outcome_text (outcomes_of H)

-- the text that led to the tree, from its root on
abbrev pub tree_text : Tree → List ℕ
tree_text t = body (events_text t.events) t.leaf.left t.leaf.entries

pub events_more : (H : History) (e : Entry) → events_text (H ++ e ∷ []) ≡ events_text H ++ outcome_text e.outcome
events_more H e =
    ap (flat_map outcome_text) (map-append (λ (x : Entry). x.outcome) H (e ∷ [])) ∙ flat_map-append outcome_text (outcomes_of H) (e.outcome ∷ []) ∙ ap (λ x. events_text H ++ x) (append-nil (outcome_text e.outcome))

opened_more : (n : ℕ) (entries : List (V2 × ℕ)) (r : V2 × ℕ) → opened n (entries ++ r ∷ []) ≡ opened n entries ++ rank_text r
opened_more n entries r =
    ap (λ x. count_text (codes "in") n ++ x) (flat_map-append rank_text entries (r ∷ []) ∙ ap (λ x. flat_map rank_text entries ++ x) (append-nil (rank_text r)))
    ∙ sym (append_assoc (count_text (codes "in") n) (flat_map rank_text entries) (rank_text r))

body_node : (done x : List ℕ) (left : ℕ) (entries : List (V2 × ℕ)) → left ≡ 0 → body (done ++ x) left entries ≡ body done left entries ++ x
body_node done x left entries e = rw e (append-nil (done ++ x) ∙ ap (λ y. y ++ x) (sym (append-nil done)))

body_in : (done : List ℕ) (n left : ℕ) (entries : List (V2 × ℕ)) → 1 ≤ n → left ≡ 0 → body done n [] ≡ body done left entries ++ count_text (codes "in") n
body_in done zero left entries h e = absurd (omega arith)
body_in done (suc m) left entries h e =
    let size : length {A = V2 × ℕ} [] + suc m ≡ suc m = omega arith in
    rw (size, e) (ap (λ x. done ++ x) (append-nil (count_text (codes "in") (suc m))) ∙ ap (λ x. x ++ count_text (codes "in") (suc m)) (sym (append-nil done)))

body_pair : (done : List ℕ) (left : ℕ) (entries : List (V2 × ℕ)) (r : V2 × ℕ) → 1 < left → body done (left - 1) (entries ++ r ∷ []) ≡ body done left entries ++ rank_text r
body_pair done zero entries r h = absurd (omega arith)
body_pair done (suc zero) entries r h = absurd (omega arith)
body_pair done (suc (suc m)) entries r h =
    let less : suc (suc m) - 1 ≡ suc m = omega arith in
    let size : length (entries ++ r ∷ []) + suc m ≡ length entries + suc (suc m) = omega (arith, length-append entries (r ∷ [])) in
    rw (less, size)
    (ap (λ x. done ++ x) (opened_more (length entries + suc (suc m)) entries r) ∙ sym (append_assoc done (opened (length entries + suc (suc m)) entries) (rank_text r)))

body_last : (done : List ℕ) (left : ℕ) (entries : List (V2 × ℕ)) (r : V2 × ℕ) → left ≡ 1 → body (done ++ outcome_text (Inside (entries ++ r ∷ []))) 0 [] ≡ body done left entries ++ rank_text r
body_last done left entries r e =
    let size : length (entries ++ r ∷ []) ≡ length entries + 1 = length-append entries (r ∷ []) in
    rw e
    (append-nil (done ++ outcome_text (Inside (entries ++ r ∷ [])))
    ∙ ap (λ x. done ++ x) (ap (λ n. opened n (entries ++ r ∷ [])) size ∙ opened_more (length entries + 1) entries r)
    ∙ sym (append_assoc done (opened (length entries + 1) entries) (rank_text r)))

-- the entries of the leaf at hand are in their order and ranges, and there aren't too many
pub record IsLeafFine (b : Budget) (leaf : LeafView) : Type 0 where
  pub none : leaf.left ≡ 0 → leaf.entries ≡ []
  pub few : length leaf.entries + leaf.left ≤ b.wits
  pub ascending : AllPairs (λ (e f : V2 × ℕ). Precedes e.0 f.0) leaf.entries
  pub each : All (λ (e : V2 × ℕ). IsNarrow e.0 × (e.1 ≤ 16384)) leaf.entries

-- what holds of a tree that good lines lead to
pub record IsGrown (t : Tree) : Type 0 where
  pub limits_are : IsBudget t.limits
  pub leaf_fine : IsLeafFine t.limits t.leaf
  pub awaited : t.pending ≡ [] → t.leaf.left ≡ 0
  pub cells_are : length t.events + length t.pending ≡ t.cells
  pub room : t.cells ≤ t.limits.cells
  pub each : All (KeepsTo t.limits) t.events
  pub ranges : All (λ e. IsInRange e.outcome) t.events
  pub listed : (K : History) → ListsTrees t.pending K → ListsTrees ([] ∷ []) (t.events ++ K)

pub none_fine : (b : Budget) (n : ℕ) → 1 ≤ n → n ≤ b.wits → IsLeafFine b (record { left = n; entries = [] })
none_fine b n low high = record {
  none = λ e. refl;
  few = omega arith;
  ascending = λ i j d lt within. absurd (omega arith);
  each = All-nil (λ (e : V2 × ℕ). IsNarrow e.0 × (e.1 ≤ 16384));
}

closed_fine : (b : Budget) → IsLeafFine b no_leaf
closed_fine b = record {
  none = λ e. refl;
  few = omega arith;
  ascending = λ i j d lt within. absurd (omega arith);
  each = All-nil (λ (e : V2 × ℕ). IsNarrow e.0 × (e.1 ≤ 16384));
}

pub root_grown : (b : Budget) → IsBudget b → IsGrown (only_root b)
root_grown b h = record {
  limits_are = h;
  leaf_fine = closed_fine b;
  awaited = λ e. refl;
  cells_are = refl;
  room = h.some_cell;
  each = All-nil (KeepsTo b);
  ranges = All-nil (λ (e : Entry). IsInRange e.outcome);
  listed = λ K l. l;
}

-- the next cell has an outcome that is no cut
settled : (s t : Tree) (o : Outcome) → TakesOutcome s o t → s.leaf ≡ no_leaf → IsGrown s → IsInRange o → ((depth : ℕ) → AllowsAt s.limits depth o) → ((path : List Side) → parts_by path o ≡ []) → IsGrown t
settled s t o (path, rest, waits, e) closed g range allowed alone = rw e (record {
  limits_are = g.limits_are;
  leaf_fine = g.leaf_fine;
  awaited = λ q. ap (λ (l : LeafView). l.left) closed;
  cells_are = let was = g.cells_are in omega (arith, was, ap length waits, length-append s.events (at_path path o ∷ []));
  room = g.room;
  each = All-append (KeepsTo s.limits) s.events (at_path path o ∷ []) g.each (All-cons (KeepsTo s.limits) (at_path path o) [] (allowed (length path)) (All-nil (KeepsTo s.limits)));
  ranges = All-append (λ (x : Entry). IsInRange x.outcome) s.events (at_path path o ∷ []) g.ranges (All-cons (λ (x : Entry). IsInRange x.outcome) (at_path path o) [] range (All-nil (λ (x : Entry). IsInRange x.outcome)));
  listed = λ K l.
      let here : ListsTrees (path ∷ rest) (at_path path o ∷ K) = (refl, rw (alone path) l) in
      let more : ListsTrees s.pending (at_path path o ∷ K) = rw waits here in
      rw (append_assoc s.events (at_path path o ∷ []) K) (g.listed (at_path path o ∷ K) more);
})

-- the next cell is cut
divided : (s t : Tree) (h : LinearForm) → Divides s h t → HasRoom s → IsFormSized h → s.leaf.left ≡ 0 → IsGrown s → IsGrown t
divided s t h (path, rest, waits, high, e) room sized closed g = rw e (record {
  limits_are = g.limits_are;
  leaf_fine = g.leaf_fine;
  awaited = λ q. closed;
  cells_are = let was = g.cells_are in omega (arith, was, ap length waits, length-append s.events (at_path path (Cut h) ∷ []));
  room = room;
  each = All-append (KeepsTo s.limits) s.events (at_path path (Cut h) ∷ []) g.each (All-cons (KeepsTo s.limits) (at_path path (Cut h)) [] high (All-nil (KeepsTo s.limits)));
  ranges = All-append (λ (x : Entry). IsInRange x.outcome) s.events (at_path path (Cut h) ∷ []) g.ranges (All-cons (λ (x : Entry). IsInRange x.outcome) (at_path path (Cut h)) [] sized (All-nil (λ (x : Entry). IsInRange x.outcome)));
  listed = λ K l.
      let here : ListsTrees (path ∷ rest) (at_path path (Cut h) ∷ K) = (refl, l) in
      let more : ListsTrees s.pending (at_path path (Cut h) ∷ K) = rw waits here in
      rw (append_assoc s.events (at_path path (Cut h) ∷ []) K) (g.listed (at_path path (Cut h) ∷ K) more);
})

closed_is : (b : Budget) (leaf : LeafView) → IsLeafFine b leaf → leaf.left ≡ 0 → leaf ≡ no_leaf
closed_is b leaf f e = same leaf.left leaf.entries e (f.none e)
  where
    same : (left : ℕ) (entries : List (V2 × ℕ)) → left ≡ 0 → entries ≡ [] → let l : LeafView = record { left = left; entries = entries } in l ≡ no_leaf
    same left entries e f = rw (e, f) refl

-- the text of a settled cell
settled_text : (s t : Tree) (o : Outcome) → TakesOutcome s o t → s.leaf.left ≡ 0 → tree_text t ≡ tree_text s ++ outcome_text o
settled_text s t o (path, rest, waits, e) closed =
    rw (e, events_more s.events (at_path path o)) (body_node (events_text s.events) (outcome_text o) s.leaf.left s.leaf.entries closed)

-- what one line makes of a tree
pub record Grows (s t : Tree) (line : List ℕ) : Type 0 where
  pub spelled : tree_text t ≡ tree_text s ++ ended line
  pub limits_same : t.limits ≡ s.limits
  pub grown : IsGrown t

settles_limits : (s t : Tree) (o : Outcome) → TakesOutcome s o t → t.limits ≡ s.limits
settles_limits s t o (path, rest, waits, e) = ap (λ (x : Tree). x.limits) e

grows_node : (s t : Tree) (line : List ℕ) → s.leaf.left ≡ 0 → s.pending ≢ [] → IsGrown s → StepsNode s line t → Grows s t line
grows_node s t line closed some g (inl (w, (h, p, (room, sized, (path, rest, waits, high, e))))) =
    let said = ap ended (said_is (codes "cut") (h.a ∷ h.b ∷ h.c ∷ []) line p).0 in
    record {
      spelled = rw (e, said, events_more s.events (at_path path (Cut h))) (body_node (events_text s.events) (outcome_text (Cut h)) s.leaf.left s.leaf.entries closed);
      limits_same = ap (λ (x : Tree). x.limits) e;
      grown = divided s t h (path, rest, waits, high, e) room sized closed g;
    }
grows_node s t line closed some g (inr (inl (w, (n, p, e)))) =
    let said = ap ended (said_is (codes "in") (pos n ∷ []) line p.2).0 in
    record {
      spelled = rw (e, said) (body_in (events_text s.events) n s.leaf.left s.leaf.entries p.0 closed);
      limits_same = ap (λ (x : Tree). x.limits) e;
      grown = rw e (record {
        limits_are = g.limits_are;
        leaf_fine = none_fine s.limits n p.0 p.1;
        awaited = λ q. absurd (some q);
        cells_are = g.cells_are;
        room = g.room;
        each = g.each;
        ranges = g.ranges;
        listed = g.listed;
      });
    }
grows_node s t line closed some g (inr (inr (inl (w, (n, cycle, p, count, is, e))))) =
    let line_is : line ≡ line_of (codes "out") (pos (length cycle) ∷ cycle) = (said_is (codes "out") (n ∷ cycle) line p).0 ∙ ap (λ z. line_of (codes "out") (z ∷ cycle)) count.is in
    record {
      spelled = rw line_is (settled_text s t (Outside cycle) e closed);
      limits_same = settles_limits s t (Outside cycle) e;
      grown = settled s t (Outside cycle) e (closed_is s.limits s.leaf g.leaf_fine closed) g is (λ depth. count.few) (λ path. refl);
    }
grows_node s t line closed some g (inr (inr (inr (w, (cause, p, e))))) =
    record {
      spelled = rw p (settled_text s t (Left cause) e closed);
      limits_same = settles_limits s t (Left cause) e;
      grown = settled s t (Left cause) e (closed_is s.limits s.leaf g.leaf_fine closed) g tt (λ depth. tt) (λ path. refl);
    }

-- a leaf with one entry more
entry_fine : (b : Budget) (s t : LeafView) (line : List ℕ) → 0 < s.left → IsLeafFine b s → TakesEntry s line t
    → (0 < t.left → IsLeafFine b t) × (t.left ≡ 0 → IsBudget b → IsRankList t.entries × (length t.entries ≤ b.wits))
entry_fine b s t line some f (w, n, p, follows, e) = rw e (
  (λ more. record { none = λ z. absurd (omega arith); few = few; ascending = asc; each = each }),
  (λ zero h. (record { some = omega (arith, length-append s.entries ((w, n) ∷ [])); short = omega (arith, few, h.wits); ascending = asc; each = each }, omega (arith, few))),
) where
  few : length (s.entries ++ (w, n) ∷ []) + (s.left - 1) ≤ b.wits
  few = omega (arith, f.few, some, length-append s.entries ((w, n) ∷ []))

  asc : AllPairs (λ (x y : V2 × ℕ). Precedes x.0 y.0) (s.entries ++ (w, n) ∷ [])
  asc = ascends_push (λ (x y : V2 × ℕ). Precedes x.0 y.0) (λ x y z. precedes-trans x.0 y.0 z.0) s.entries (w, n) f.ascending follows

  small : n ≤ 16384
  small = let entry = p.1 in omega (arith, ints, entry.2)

  each : All (λ (x : V2 × ℕ). IsNarrow x.0 × (x.1 ≤ 16384)) (s.entries ++ (w, n) ∷ [])
  each = All-append (λ (x : V2 × ℕ). IsNarrow x.0 × (x.1 ≤ 16384)) s.entries ((w, n) ∷ []) f.each (All-cons (λ (x : V2 × ℕ). IsNarrow x.0 × (x.1 ≤ 16384)) (w, n) [] (p.1.0, small) (All-nil (λ (x : V2 × ℕ). IsNarrow x.0 × (x.1 ≤ 16384))))

-- a tree whose leaf is closed again
leaf_closed : (s : Tree) → IsGrown s → IsGrown (record s { leaf = no_leaf })
leaf_closed s g = record {
  limits_are = g.limits_are;
  leaf_fine = closed_fine s.limits;
  awaited = λ q. refl;
  cells_are = g.cells_are;
  room = g.room;
  each = g.each;
  ranges = g.ranges;
  listed = g.listed;
}

last_text : (s t : Tree) (leaf : LeafView) (line : List ℕ) → TakesEntry s.leaf line leaf → leaf.left ≡ 0 → 0 < s.leaf.left → TakesOutcome (record s { leaf = no_leaf }) (Inside leaf.entries) t → tree_text t ≡ tree_text s ++ ended line
last_text s t leaf line (w, n, p, follows, e) done some q =
    let said = ap ended (said_is (codes "w") (entry_numbers w (pos n)) line p.0).0 in
    let one : s.leaf.left ≡ 1 = omega (arith, ap (λ (l : LeafView). l.left) e, done, some) in
    let entries : leaf.entries ≡ s.leaf.entries ++ (w, n) ∷ [] = ap (λ (l : LeafView). l.entries) e in
    settled_text (record s { leaf = no_leaf }) t (Inside leaf.entries) q refl
    ∙ ap (λ x. (events_text s.events ++ []) ++ outcome_text (Inside x)) entries
    ∙ sym (body_node (events_text s.events) (outcome_text (Inside (s.leaf.entries ++ (w, n) ∷ []))) 0 [] refl)
    ∙ body_last (events_text s.events) s.leaf.left s.leaf.entries (w, n) one
    ∙ ap (λ x. tree_text s ++ x) (sym said)

pair_text : (s : Tree) (leaf : LeafView) (line : List ℕ) → TakesEntry s.leaf line leaf → 0 < leaf.left → tree_text (record s { leaf = leaf }) ≡ tree_text s ++ ended line
pair_text s leaf line (w, n, p, follows, e) more =
    let said = ap ended (said_is (codes "w") (entry_numbers w (pos n)) line p.0).0 in
    let some : 1 < s.leaf.left = omega (arith, ap (λ (l : LeafView). l.left) e, more) in
    rw (e, said) (body_pair (events_text s.events) s.leaf.left s.leaf.entries (w, n) some)

grows_entry : (s t : Tree) (line : List ℕ) → 0 < s.leaf.left → s.pending ≢ [] → IsGrown s → StepsEntry s line t → Grows s t line
grows_entry s t line some waits g (leaf, p, inl (more, e)) = rw e (record {
  spelled = pair_text s leaf line p more;
  limits_same = refl;
  grown = record {
    limits_are = g.limits_are;
    leaf_fine = (entry_fine s.limits s.leaf leaf line some g.leaf_fine p).0 more;
    awaited = λ q. absurd (waits q);
    cells_are = g.cells_are;
    room = g.room;
    each = g.each;
    ranges = g.ranges;
    listed = g.listed;
  };
})
grows_entry s t line some waits g (leaf, p, inr (done, e)) =
    let fine = (entry_fine s.limits s.leaf leaf line some g.leaf_fine p).1 done g.limits_are in
    record {
      spelled = last_text s t leaf line p done some e;
      limits_same = settles_limits (record s { leaf = no_leaf }) t (Inside leaf.entries) e;
      grown = settled (record s { leaf = no_leaf }) t (Inside leaf.entries) e refl (leaf_closed s g) fine.0 (λ depth. fine.1) (λ path. refl);
    }

pub grows : (s t : Tree) (line : List ℕ) → s.pending ≢ [] → IsGrown s → TakesLine s line t → Grows s t line
grows s t line waits g (inl (some, p)) = grows_entry s t line some waits g p
grows s t line waits g (inr (closed, p)) = grows_node s t line closed waits g p
