-- What a line does to a reader that keeps no events, it does to the reader with its events.
use Rattle.std.proofs.Common.{◌≡◌, ◌++◌, ◌+◌, ◌≤◌, ℕ, List, [], ◌∷◌, length, refl, sym, ap, ◌∙◌, inl, inr, arith, append-nil, length-append}
use Rattle.std.specs.Bool.{⊤}
use Rattle.srs_path.specs.declared.outcomes.Outcome.{Outcome}
use Rattle.srs_path.specs.declared.outcomes.Outcome.TheVariants.{Inside, Outside, Cut, Left}
use Rattle.srs_path.specs.Views.{Entry}
use Rattle.srs_tree.specs.Tree.{History}
use Rattle.srs_line.specs.declared.slip.Slip.{Slip}
use Rattle.srs_line.specs.Machine.{Runs}
use Rattle.srs_cert.specs.Heights.{height}
use Rattle.srs_file.specs.declared.tree.Tree.{Tree}
use Rattle.srs_file.specs.declared.cert_reader.CertPhase.{CertPhase}
use Rattle.srs_file.specs.declared.cert_reader.CertPhase.TheVariants.{First, Polygon, Nodes, Done}
use Rattle.srs_file.specs.declared.cert_reader.CertReader.{CertReader}
use Rattle.srs_file.specs.Leaf.{LeafView, TakesEntry}
use Rattle.srs_file.specs.TreeReading.{at_path, no_leaf, TakesOutcome, StepsNode, TakesLine}
use Rattle.srs_file.specs.CertReading.{StepsFrom, SlipsFrom, CertSteps, CertSlips}
use Rattle.srs_file.specs.Feeding.{bare}

-- a tree without the events that were read
abbrev pub bare_tree : Tree → Tree
bare_tree t = record t { events = [] }

-- the tree with other events
abbrev pub holding : Tree → History → Tree
holding t H = record t { events = H }

-- What a line does to a tree without its events, it does to the tree. A node that ends has no more lines than were read of it.
record Moves (old : Tree) (line : List ℕ) (new : Tree) : Type 0 where
  step : TakesLine old line (holding new (old.events ++ new.events))
  short : (e : Entry) → new.events ≡ e ∷ [] → height e.outcome ≤ length old.leaf.entries + 2

first_same : (a b : Entry) → a ∷ [] ≡ b ∷ [] → a ≡ b
first_same a b e = cc

none_some : (e : Entry) → [] ≡ e ∷ [] → ⊥
none_some e p = cc

settles : (old new : Tree) (o : Outcome) → TakesOutcome (bare_tree old) o new → TakesOutcome old o (holding new (old.events ++ new.events))
settles old new o (path, rest, p, e) = (path, rest, p, rw e refl)

settled : (old new : Tree) (o : Outcome) (e : Entry) → TakesOutcome (bare_tree old) o new → new.events ≡ e ∷ [] → e.outcome ≡ o
settled old new o e (path, rest, p, f) q =
    let events : new.events ≡ at_path path o ∷ [] = ap (λ (t : Tree). t.events) f in
    ap (λ (x : Entry). x.outcome) (first_same e (at_path path o) (sym q ∙ events))

quiet : (old new : Tree) (leaf : LeafView) → new ≡ record (bare_tree old) { leaf = leaf } → holding new (old.events ++ new.events) ≡ record old { leaf = leaf }
quiet old new leaf e = rw (e, append-nil) refl

no_event : (old new : Tree) (leaf : LeafView) (e : Entry) → new ≡ record (bare_tree old) { leaf = leaf } → new.events ≡ e ∷ [] → ⊥
no_event old new leaf e f q = let events : new.events ≡ [] = ap (λ (t : Tree). t.events) f in none_some e (sym events ∙ q)

leaf_short : (old leaf : LeafView) (line : List ℕ) (e : Entry) → TakesEntry old line leaf → e.outcome ≡ Inside leaf.entries → height e.outcome ≤ length old.entries + 2
leaf_short old leaf line e (w, n, says, follows, f) q =
    let entries : leaf.entries ≡ old.entries ++ (w, n) ∷ [] = ap (λ (l : LeafView). l.entries) f in
    rw q (omega (arith, ap length entries, length-append old.entries ((w, n) ∷ [])))

one_line : (n : ℕ) (o p : Outcome) → o ≡ p → height p ≡ 1 → height o ≤ n + 2
one_line n o p e h = rw e (omega (arith, h))

node_moves : (old new : Tree) (line : List ℕ) → old.leaf.left ≡ 0 → StepsNode (bare_tree old) line new → Moves old line new
node_moves old new line zero (inl (w, (h, says, (room, sized, (path, rest, p, above, e))))) = record {
  step = inr (zero, inl (w, (h, says, (room, sized, (path, rest, p, above, rw e refl)))));
  short = λ x q.
      let events : new.events ≡ at_path path (Cut h) ∷ [] = ap (λ (t : Tree). t.events) e in
      one_line (length old.leaf.entries) x.outcome (Cut h) (ap (λ (y : Entry). y.outcome) (first_same x (at_path path (Cut h)) (sym q ∙ events))) refl;
}
node_moves old new line zero (inr (inl (w, (n, says, e)))) = record {
  step = inr (zero, inr (inl (w, (n, says, quiet old new (record { left = n; entries = [] }) e))));
  short = λ x q. absurd (no_event old new (record { left = n; entries = [] }) x e q);
}
node_moves old new line zero (inr (inr (inl (w, (n, cycle, says, counts, is, t))))) = record {
  step = inr (zero, inr (inr (inl (w, (n, cycle, says, counts, is, settles old new (Outside cycle) t)))));
  short = λ x q. one_line (length old.leaf.entries) x.outcome (Outside cycle) (settled old new (Outside cycle) x t q) refl;
}
node_moves old new line zero (inr (inr (inr (w, (cause, is, t))))) = record {
  step = inr (zero, inr (inr (inr (w, (cause, is, settles old new (Left cause) t)))));
  short = λ x q. one_line (length old.leaf.entries) x.outcome (Left cause) (settled old new (Left cause) x t q) refl;
}

line_moves : (old new : Tree) (line : List ℕ) → TakesLine (bare_tree old) line new → Moves old line new
line_moves old new line (inl (more, (leaf, takes, inl (still, e)))) = record {
  step = inl (more, (leaf, takes, inl (still, quiet old new leaf e)));
  short = λ x q. absurd (no_event old new leaf x e q);
}
line_moves old new line (inl (more, (leaf, takes, inr (last, t)))) = record {
  step = inl (more, (leaf, takes, inr (last, settles (record old { leaf = no_leaf }) new (Inside leaf.entries) t)));
  short = λ x q. leaf_short old.leaf leaf line x takes (settled (record old { leaf = no_leaf }) new (Inside leaf.entries) x t q);
}
line_moves old new line (inr (zero, step)) = node_moves old new line zero step

-- a line brings at most one entry
settle_entries : (old new : Tree) (o : Outcome) → TakesOutcome old o new → length new.leaf.entries ≤ length old.leaf.entries + 1
settle_entries old new o (path, rest, p, e) = let leaf : new.leaf ≡ old.leaf = ap (λ (t : Tree). t.leaf) e in rw leaf (omega arith)

entries_grow : (old new : Tree) (line : List ℕ) → TakesLine old line new → length new.leaf.entries ≤ length old.leaf.entries + 1
entries_grow old new line (inl (more, (leaf, (w, n, says, follows, f), inl (still, e)))) =
    let entries : leaf.entries ≡ old.leaf.entries ++ (w, n) ∷ [] = ap (λ (l : LeafView). l.entries) f in
    let same : new.leaf ≡ leaf = ap (λ (t : Tree). t.leaf) e in
    rw same (omega (arith, ap length entries, length-append old.leaf.entries ((w, n) ∷ [])))
entries_grow old new line (inl (more, (leaf, takes, inr (last, (path, rest, p, e))))) = let same : new.leaf ≡ no_leaf = ap (λ (t : Tree). t.leaf) e in rw same (omega arith)
entries_grow old new line (inr (zero, inl (w, (h, says, (room, sized, (path, rest, p, above, e)))))) = let same : new.leaf ≡ old.leaf = ap (λ (t : Tree). t.leaf) e in rw same (omega arith)
entries_grow old new line (inr (zero, inr (inl (w, (n, says, e))))) =
    let same : new.leaf ≡ record { left = n; entries = [] } = ap (λ (t : Tree). t.leaf) e in rw same (omega arith)
entries_grow old new line (inr (zero, inr (inr (inl (w, (n, cycle, says, counts, is, t)))))) = settle_entries old new (Outside cycle) t
entries_grow old new line (inr (zero, inr (inr (inr (w, (cause, is, t)))))) = settle_entries old new (Left cause) t

-- before the limits there are no events
abbrev pub IsUnplanted : CertPhase → CertReader → Type 0
IsUnplanted First s = s.tree.events ≡ []
IsUnplanted Polygon s = s.tree.events ≡ []
IsUnplanted Nodes s = ⊤
IsUnplanted Done s = ⊤

-- what holds after so many lines
pub record Kept (phase : CertPhase) (count : ℕ) (s : CertReader) : Type 0 where
  pub unplanted : IsUnplanted phase s
  pub entries : length s.tree.leaf.entries ≤ count

kept_step : (phase : CertPhase) (count : ℕ) (s t : CertReader) (line : List ℕ) → s.phase ≡ phase → StepsFrom phase s line t → Kept phase count s → Kept t.phase (count + 1) t
kept_step First count s t line at (says, e) k = rw e (record { unplanted = k.unplanted; entries = omega (arith, k.entries) })
kept_step Polygon count s t line at (inl (more, outline, takes, e)) k = rw (e, at) (record { unplanted = k.unplanted; entries = omega (arith, k.entries) })
kept_step Polygon count s t line at (inr (whole, (b, says, e))) k = rw e (record { unplanted = tt; entries = omega arith })
kept_step Nodes count s t line at (inl (more, tree, takes, e)) k =
    rw (e, at) (record { unplanted = tt; entries = omega (arith, k.entries, entries_grow s.tree tree line takes) })
kept_step Nodes count s t line at (inr (none, is, e)) k = rw e (record { unplanted = tt; entries = omega (arith, k.entries) })
kept_step Done count s t line at step k = absurd step

pub kept_all : (lines : List (List ℕ)) (count : ℕ) (s t : CertReader) → Runs CertSteps s lines t → Kept s.phase count s → Kept t.phase (count + length lines) t
kept_all [] count s t e k = rw (← e) (record { unplanted = k.unplanted; entries = omega (arith, k.entries) })
kept_all (line ∷ lines) count s t (u, step, plain, runs) k =
    let more = kept_all lines (count + 1) u t runs (kept_step s.phase count s u line refl step k) in
    record { unplanted = more.unplanted; entries = omega (arith, more.entries) }

-- the reader with other events
abbrev pub with_events : CertReader → History → CertReader
with_events s H = record s { tree = holding s.tree H }

-- What a line does to a reader without its events, it does to the reader.
pub record MovesReader (s : CertReader) (line : List ℕ) (u : CertReader) : Type 0 where
  pub step : CertSteps s line (with_events u (s.tree.events ++ u.tree.events))
  pub short : (e : Entry) → u.tree.events ≡ e ∷ [] → height e.outcome ≤ length s.tree.leaf.entries + 2

same_events : (s u : CertReader) (e : Entry) → u.tree.events ≡ [] → u.tree.events ≡ e ∷ [] → ⊥
same_events s u e p q = none_some e (sym p ∙ q)

steps_move : (phase : CertPhase) (s u : CertReader) (line : List ℕ) → IsUnplanted phase s → StepsFrom phase (bare s) line u → StepsFrom phase s line (with_events u (s.tree.events ++ u.tree.events))
steps_move First s u line none (says, e) = (says, rw (e, append-nil) refl)
steps_move Polygon s u line none (inl (more, outline, takes, e)) = inl (more, outline, takes, rw (e, append-nil) refl)
steps_move Polygon s u line none (inr (whole, (b, says, e))) = inr (whole, (b, says, rw (e, none) refl))
steps_move Nodes s u line none (inl (more, tree, takes, e)) = inl (more, holding tree (s.tree.events ++ tree.events), (line_moves s.tree tree line takes).step, rw e refl)
steps_move Nodes s u line none (inr (over, is, e)) = inr (over, is, rw (e, append-nil) refl)
steps_move Done s u line none step = absurd step

steps_short : (phase : CertPhase) (s u : CertReader) (line : List ℕ) → StepsFrom phase (bare s) line u → (x : Entry) → u.tree.events ≡ x ∷ [] → height x.outcome ≤ length s.tree.leaf.entries + 2
steps_short First s u line (says, e) x q = absurd (same_events s u x (ap (λ (r : CertReader). r.tree.events) e) q)
steps_short Polygon s u line (inl (more, outline, takes, e)) x q = absurd (same_events s u x (ap (λ (r : CertReader). r.tree.events) e) q)
steps_short Polygon s u line (inr (whole, (b, says, e))) x q = absurd (same_events s u x (ap (λ (r : CertReader). r.tree.events) e) q)
steps_short Nodes s u line (inl (more, tree, takes, e)) x q = (line_moves s.tree tree line takes).short x (sym (ap (λ (r : CertReader). r.tree.events) e) ∙ q)
steps_short Nodes s u line (inr (over, is, e)) x q = absurd (same_events s u x (ap (λ (r : CertReader). r.tree.events) e) q)
steps_short Done s u line step x q = absurd step

pub reader_moves : (s u : CertReader) (line : List ℕ) → IsUnplanted s.phase s → CertSteps (bare s) line u → MovesReader s line u
reader_moves s u line none step = record { step = steps_move s.phase s u line none step; short = steps_short s.phase s u line step }

slips_from : (phase : CertPhase) (s : CertReader) (line : List ℕ) (slip : Slip) (back : ℕ) → SlipsFrom phase (bare s) line slip back → SlipsFrom phase s line slip back
slips_from First s line slip back f = f
slips_from Polygon s line slip back f = f
slips_from Nodes s line slip back f = f
slips_from Done s line slip back f = f

-- the slips of a reader don't depend on its events
pub slips_bare : (s : CertReader) (line : List ℕ) (slip : Slip) (back : ℕ) → CertSlips (bare s) line slip back → CertSlips s line slip back
slips_bare s line slip back f = slips_from s.phase s line slip back f
