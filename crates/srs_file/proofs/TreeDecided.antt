-- A line of a tree goes on, or has a slip.
use Rattle.std.proofs.Common.{◌≡◌, ◌≢◌, ◌⊎◌, ◌≤◌, ◌<◌, ◌+◌, ◌-◌, ◌++◌, All, ℕ, ℤ, pos, negsuc, ◌≤ℤ◌, ◌<ℤ◌, List, [], ◌∷◌, length, codes, refl, sym, ap, ◌∙◌, inl, inr, arith, length-append}
use Rattle.std.specs.Int.Signed.{clash_ℤ}
use Rattle.std.proofs.lemmas.Int.{ints, by_lt_z}
use Rattle.std.proofs.lemmas.List.Elements.{All-nil, All-cons, All-head, All-tail}
use Rattle.srs_num.specs.declared.pairs.V2.{V2}
use Rattle.srs_num.specs.Points.{LinearForm, IsFormSized, IsWithin}
use Rattle.srs_num.specs.declared.forms.TheConstants.{MOST_COEFFICIENT}
use Rattle.srs_map.specs.declared.steps.TheConstants.{MOST_ENTRY}
use Rattle.srs_path.specs.declared.limits.TheConstants.{MOST_WITNESSES}
use Rattle.srs_map.specs.Step.{pair, origin, IsNarrow}
use Rattle.srs_path.specs.declared.paths.Side.{Side}
use Rattle.srs_path.specs.declared.paths.Side.TheVariants.{Ge, Lt}
use Rattle.srs_path.specs.declared.outcomes.Why.TheVariants.{Cycle as CycleFails, Witness as WitnessFails}
use Rattle.srs_path.specs.declared.outcomes.Cause.{Cause}
use Rattle.srs_path.specs.declared.outcomes.Cause.TheVariants.{Depth, Cells, Thin, Memory}
use Rattle.srs_path.specs.declared.outcomes.Outcome.{Outcome}
use Rattle.srs_path.specs.declared.outcomes.Outcome.TheVariants.{Inside, Outside, Cut, Left}
use Rattle.srs_path.specs.Core.{Precedes}
use Rattle.srs_path.specs.Cutout.{entry_at}
use Rattle.srs_path.specs.Lists.{IsCycle}
use Rattle.srs_line.specs.declared.slip.Slip.{Slip}
use Rattle.srs_line.specs.declared.slip.Slip.TheVariants.{Word, Count, Range, Order}
use Rattle.srs_line.specs.Fields.{Says, HasWord}
use Rattle.srs_line.proofs.Decided.{Decided, both_decided, same_decided, eq_decided, le_decided, bytes_decided, word_decided, three_decided, count_decided, many_decided, natural}
use Rattle.srs_file.specs.declared.tree.Tree.{Tree}
use Rattle.srs_file.specs.Leaf.{LeafView, IsEntry, SaysEntry, Follows, TakesEntry, SlipsEntry}
use Rattle.srs_file.specs.TreeReading.{left_line, no_leaf, at_path, TakesOutcome, Divides, SlipsDivide, HasRoom, CutsBy, SlipsCutBy, StepsCut, SlipsCut, StepsIn, SlipsIn, Counts, StepsOut, SlipsOut, StepsLeft, SlipsLeft, StepsNode, SlipsNode, StepsEntry, TakesLine, SlipsLine}
use Rattle.srs_file.proofs.Leaves.{last_split}
use Rattle.srs_file.proofs.RingDecided.{int_le_decided, within_decided}

-- what a good line makes, or its slip
abbrev pub Goes : {S : Type 0} → (S → Type 0) → (Slip → ℕ → Type 0) → Type 0
Goes {S} Steps Slips = ((t : S) × Steps t) ⊎ ((slip : Slip) × (back : ℕ) × Slips slip back)

int_refl : (x : ℤ) → x ≤ℤ x
int_refl x = omega (arith, ints)

int_same : (x y : ℤ) → x ≤ℤ y → y ≤ℤ x → x ≡ y
int_same x y le ge = omega (arith, ints)

int_below : (x y : ℤ) → x <ℤ y → x ≤ℤ y
int_below x y lt = omega (arith, ints)

pub int_eq_decided : (x y : ℤ) → Decided (x ≡ y)
int_eq_decided x y =
    by_lt_z x y (λ lt. inr (λ e. clash_ℤ lt (rw e (int_refl y))))
    (λ ge. by_lt_z y x (λ lt. inr (λ e. clash_ℤ lt (rw e (int_refl y)))) (λ le. inl (int_same x y le ge)))

pub narrow_decided : (w : V2) → Decided (IsNarrow w)
narrow_decided w = both_decided (IsWithin MOST_ENTRY w.a) (IsWithin MOST_ENTRY w.b) (within_decided MOST_ENTRY w.a) (within_decided MOST_ENTRY w.b)

entry_in_range : (w : V2) (z : ℤ) → Decided (IsEntry w z)
entry_in_range w z =
    same_decided (IsNarrow w × ((pos 0 ≤ℤ z) × (z ≤ℤ pos MOST_WITNESSES))) (IsEntry w z) (λ p. (p.0, p.1.0, p.1.1)) (λ p. (p.0, (p.1, p.2)))
    (both_decided (IsNarrow w) ((pos 0 ≤ℤ z) × (z ≤ℤ pos MOST_WITNESSES)) (narrow_decided w) (both_decided (pos 0 ≤ℤ z) (z ≤ℤ pos MOST_WITNESSES) (int_le_decided (pos 0) z) (int_le_decided z (pos MOST_WITNESSES))))

precedes_decided : (v w : V2) → Decided (Precedes v w)
precedes_decided v w =
    by_lt_z v.a w.a (λ lt. inl (int_below v.a w.a lt, λ e. absurd (clash_ℤ lt (rw e (int_refl w.a)))))
    (λ ge. by_lt_z w.a v.a (λ lt. inr (λ p. clash_ℤ lt p.0))
    (λ le. by_lt_z v.b w.b (λ lt. inl (le, λ e. lt)) (λ high. inr (λ p. clash_ℤ (p.1 (int_same v.a w.a le ge)) high))))

-- the last of a list is one
ends_once : {X : Type 0} (xs ys : List X) (x y : X) → xs ++ x ∷ [] ≡ ys ++ y ∷ [] → x ≡ y
ends_once [] [] x y e = cc
ends_once [] (b ∷ ys) x y e = absurd (omega (arith, ap length e, length-append ys (y ∷ [])))
ends_once (a ∷ xs) [] x y e = absurd (omega (arith, ap length e, length-append xs (x ∷ [])))
ends_once (a ∷ xs) (b ∷ ys) x y e = ends_once xs ys x y (cc)

follows_decided : (entries : List (V2 × ℕ)) (w : V2) → Decided (Follows entries w)
follows_decided [] w = inl (λ before last e. absurd (omega (arith, ap length e, length-append before (last ∷ []))))
follows_decided (e ∷ es) w =
    let last = last_split (e ∷ es) (omega arith) in
    elim (precedes_decided last.1.0 w) [
      | inl p ↦ inl (λ before other q. rw (ends_once last.0 before last.1 other (sym last.2 ∙ q)) at p)
      | inr bar ↦ inr (λ f. bar (f last.0 last.1 last.2))
    ]

no_negative : (z : ℤ) → pos 0 ≤ℤ z → ((n : ℕ) → z ≡ pos n → ⊥) → ⊥
no_negative (pos n) low none = none n refl
no_negative (negsuc n) low none = omega (arith, ints)

-- how a witness's line ends a leaf, or goes on
entry_decided : (leaf : LeafView) (line : List ℕ) → Goes (TakesEntry leaf line) (SlipsEntry leaf line)
entry_decided leaf line =
    elim (three_decided (codes "w") line) [
      | inl s ↦
          let w : V2 = record { a = s.0; b = s.1 } in
          elim (entry_in_range w s.2) [
            | inl range ↦ elim (natural s.2) [
              | inl n ↦ elim (follows_decided leaf.entries w) [
                | inl follows ↦
                    let says : SaysEntry w s.2 line = (s.3, range) in
                    inl (record { left = leaf.left - 1; entries = leaf.entries ++ (w, n.0) ∷ [] }, (w, n.0, rw n.1 at says, follows, refl))
                | inr bar ↦ inr (Order, 0, inr (w, s.2, (s.3, range), bar, refl, refl))
              ]
              | inr none ↦ absurd (no_negative s.2 range.1 none)
            ]
            | inr out ↦ inr (Range, 0, inl (inr (w, s.2, s.3, out, refl), refl))
          ]
      | inr f ↦ inr (f.0, 0, inl (inl f.1, refl))
    ]

-- a path waits
abbrev Next : Tree → Type 0
Next s = (path : List Side) × (rest : List (List Side)) × (s.pending ≡ path ∷ rest)

next_of : (pending : List (List Side)) → pending ≢ [] → (path : List Side) × (rest : List (List Side)) × (pending ≡ path ∷ rest)
next_of [] some = absurd (some refl)
next_of (path ∷ rest) some = (path, rest, refl)

settled : (s : Tree) (o : Outcome) → Next s → (t : Tree) × TakesOutcome s o t
settled s o next = (record s { pending = next.1; events = s.events ++ at_path next.0 o ∷ [] }, (next.0, next.1, next.2, refl))

node_line_decided : (s : Tree) (line : List ℕ) → Next s → 0 < s.leaf.left → Goes (StepsEntry s line) (SlipsEntry s.leaf line)
node_line_decided s line next more =
    elim (entry_decided s.leaf line) [
      | inl e ↦ elim (eq_decided e.0.left 0) [
        | inl zero ↦ let t = settled (record s { leaf = no_leaf }) (Inside e.0.entries) next in inl (t.0, (e.0, e.1, inr (zero, t.1)))
        | inr some ↦ inl (record s { leaf = e.0 }, (e.0, e.1, inl (omega (arith, some), refl)))
      ]
      | inr f ↦ inr f
    ]

form_decided : (h : LinearForm) → Decided (IsFormSized h)
form_decided h =
    same_decided ((IsWithin MOST_COEFFICIENT h.a × IsWithin MOST_COEFFICIENT h.b) × IsWithin MOST_COEFFICIENT h.c) (IsFormSized h)
    (λ f. record { a_range = f.0.0; b_range = f.0.1; c_range = f.1 }) (λ f. ((f.a_range, f.b_range), f.c_range))
    (both_decided (IsWithin MOST_COEFFICIENT h.a × IsWithin MOST_COEFFICIENT h.b) (IsWithin MOST_COEFFICIENT h.c)
    (both_decided (IsWithin MOST_COEFFICIENT h.a) (IsWithin MOST_COEFFICIENT h.b) (within_decided MOST_COEFFICIENT h.a) (within_decided MOST_COEFFICIENT h.b))
    (within_decided MOST_COEFFICIENT h.c))

divide_decided : (s : Tree) (h : LinearForm) → Next s → Goes (Divides s h) (SlipsDivide s)
divide_decided s h next =
    elim (le_decided s.limits.depth (length next.0)) [
      | inl deep ↦ inr (Range, 0, (next.0, next.1, next.2, deep, refl, refl))
      | inr high ↦ inl (
        record s { cells = s.cells + 2; pending = (next.0 ++ Ge ∷ []) ∷ (next.0 ++ Lt ∷ []) ∷ next.1; events = s.events ++ at_path next.0 (Cut h) ∷ [] },
        (next.0, next.1, next.2, omega (arith, high), refl),
      )
    ]

cut_by_decided : (s : Tree) (h : LinearForm) → Next s → Goes (CutsBy s h) (SlipsCutBy s h)
cut_by_decided s h next =
    elim (le_decided (s.cells + 2) s.limits.cells) [
      | inl room ↦ elim (form_decided h) [
        | inl sized ↦ elim (divide_decided s h next) [ inl d ↦ inl (d.0, (room, sized, d.1)) | inr f ↦ inr (f.0, f.1, inr (inr (room, sized, f.2))) ]
        | inr wide ↦ inr (Range, 0, inr (inl (room, wide, refl, refl)))
      ]
      | inr full ↦ inr (Count, 0, inl (full, refl, refl))
    ]

cut_decided : (s : Tree) (line : List ℕ) → Next s → Goes (StepsCut s line) (SlipsCut s line)
cut_decided s line next =
    elim (three_decided (codes "cut") line) [
      | inl n ↦
          let h : LinearForm = record { a = n.0; b = n.1; c = n.2 } in
          elim (cut_by_decided s h next) [ inl t ↦ inl (t.0, (h, n.3, t.1)) | inr f ↦ inr (f.0, f.1, inr (h, n.3, f.2)) ]
      | inr f ↦ inr (f.0, 0, inl (f.1, refl))
    ]

in_decided : (s : Tree) (line : List ℕ) → Goes (StepsIn s line) (SlipsIn s line)
in_decided s line =
    elim (count_decided (codes "in") line 1 s.limits.wits Count) [
      | inl n ↦ inl (record s { leaf = record { left = n.0; entries = [] } }, (n.0, n.1, refl))
      | inr f ↦ inr (f.0, 0, (f.1, refl))
    ]

counts_decided : (W : ℕ) (n : ℤ) (entries : List ℤ) → Decided (Counts W n entries)
counts_decided W n entries =
    same_decided (((1 ≤ length entries) × (length entries ≤ W)) × (n ≡ pos (length entries))) (Counts W n entries)
    (λ c. record { some = c.0.0; few = c.0.1; is = c.1 }) (λ c. ((c.some, c.few), c.is))
    (both_decided ((1 ≤ length entries) × (length entries ≤ W)) (n ≡ pos (length entries))
    (both_decided (1 ≤ length entries) (length entries ≤ W) (le_decided 1 (length entries)) (le_decided (length entries) W))
    (int_eq_decided n (pos (length entries))))

all_decided : (P : ℤ → Type 0) → ((z : ℤ) → Decided (P z)) → (zs : List ℤ) → Decided (All P zs)
all_decided P each [] = inl (All-nil P)
all_decided P each (z ∷ zs) =
    same_decided (P z × All P zs) (All P (z ∷ zs)) (λ p. All-cons P z zs p.0 p.1) (λ p. (All-head P z zs p, All-tail P z zs p))
    (both_decided (P z) (All P zs) (each z) (all_decided P each zs))

same_entries : (a b c d : ℤ) → a ≡ c → b ≡ d → pair a b ≡ pair c d
same_entries a b c d e f = rw (e, f) refl

pair_decided : (v w : V2) → Decided (v ≡ w)
pair_decided v w =
    same_decided ((v.a ≡ w.a) × (v.b ≡ w.b)) (v ≡ w) (λ e. same_entries v.a v.b w.a w.b e.0 e.1) (λ e. (ap (λ (x : V2). x.a) e, ap (λ (x : V2). x.b) e))
    (both_decided (v.a ≡ w.a) (v.b ≡ w.b) (int_eq_decided v.a w.a) (int_eq_decided v.b w.b))

not_decided : (P : Type 0) → Decided P → Decided (¬ P)
not_decided P (inl p) = inr (λ no_p. no_p p)
not_decided P (inr p) = inl p

cycle_decided : (c : List ℤ) → Decided (IsCycle c)
cycle_decided c =
    let first = pair (entry_at c 0) (entry_at c 1) in
    same_decided (((1 ≤ length c) × (length c ≤ MOST_WITNESSES)) × (All (IsWithin MOST_ENTRY) c × (first ≢ origin))) (IsCycle c)
    (λ i. record { some = i.0.0; short = i.0.1; narrow = i.1.0; not_zero = i.1.1 }) (λ i. ((i.some, i.short), (i.narrow, i.not_zero)))
    (both_decided ((1 ≤ length c) × (length c ≤ MOST_WITNESSES)) (All (IsWithin MOST_ENTRY) c × (first ≢ origin))
    (both_decided (1 ≤ length c) (length c ≤ MOST_WITNESSES) (le_decided 1 (length c)) (le_decided (length c) MOST_WITNESSES))
    (both_decided (All (IsWithin MOST_ENTRY) c) (first ≢ origin) (all_decided (IsWithin MOST_ENTRY) (within_decided MOST_ENTRY) c) (not_decided (first ≡ origin) (pair_decided first origin))))

out_decided : (s : Tree) (line : List ℕ) → Next s → Goes (StepsOut s line) (SlipsOut s line)
out_decided s line next =
    elim (many_decided (codes "out") line) [
      | inl m ↦ elim (counts_decided s.limits.wits m.0 m.1) [
        | inl counts ↦ elim (cycle_decided m.1) [
          | inl cycle ↦ let t = settled s (Outside m.1) next in inl (t.0, (m.0, m.1, m.2, counts, cycle, t.1))
          | inr bar ↦ inr (Range, 0, inr (inr (m.0, m.1, m.2, counts, bar, refl, refl)))
        ]
        | inr bar ↦ inr (Count, 0, inr (inl (m.0, m.1, m.2, bar, refl, refl)))
      ]
      | inr f ↦ inr (f.0, f.1, inl f.2)
    ]

-- the line is that of a cause, or of none
abbrev Said : List ℕ → Type 0
Said line = ((cause : Cause) × (line ≡ left_line cause)) ⊎ ((cause : Cause) → line ≡ left_line cause → ⊥)

no_cause : (line : List ℕ) → (line ≢ left_line (Depth CycleFails)) → (line ≢ left_line (Depth WitnessFails)) → (line ≢ left_line (Cells CycleFails))
    → (line ≢ left_line (Cells WitnessFails)) → (line ≢ left_line Thin) → (line ≢ left_line Memory) → (cause : Cause) → line ≡ left_line cause → ⊥
no_cause line a b c d e f (Depth CycleFails) p = a p
no_cause line a b c d e f (Depth WitnessFails) p = b p
no_cause line a b c d e f (Cells CycleFails) p = c p
no_cause line a b c d e f (Cells WitnessFails) p = d p
no_cause line a b c d e f Thin p = e p
no_cause line a b c d e f Memory p = f p

cause_decided : (line : List ℕ) → Said line
cause_decided line =
    elim (bytes_decided line (left_line (Depth CycleFails))) [
      | inl p ↦ inl (Depth CycleFails, p)
      | inr a ↦ elim (bytes_decided line (left_line (Depth WitnessFails))) [
        | inl p ↦ inl (Depth WitnessFails, p)
        | inr b ↦ elim (bytes_decided line (left_line (Cells CycleFails))) [
          | inl p ↦ inl (Cells CycleFails, p)
          | inr c ↦ elim (bytes_decided line (left_line (Cells WitnessFails))) [
            | inl p ↦ inl (Cells WitnessFails, p)
            | inr d ↦ elim (bytes_decided line (left_line Thin)) [
              | inl p ↦ inl (Thin, p)
              | inr e ↦ elim (bytes_decided line (left_line Memory)) [
                | inl p ↦ inl (Memory, p)
                | inr f ↦ inr (no_cause line a b c d e f)
              ]
            ]
          ]
        ]
      ]
    ]

left_decided : (s : Tree) (line : List ℕ) → Next s → Goes (StepsLeft s line) (SlipsLeft line)
left_decided s line next =
    elim (cause_decided line) [
      | inl c ↦ let t = settled s (Left c.0) next in inl (t.0, (c.0, c.1, t.1))
      | inr none ↦ inr (Word, 0, (none, refl, refl))
    ]

node_decided : (s : Tree) (line : List ℕ) → Next s → Goes (StepsNode s line) (SlipsNode s line)
node_decided s line next =
    elim (word_decided (codes "cut") line) [
      | inl w ↦ elim (cut_decided s line next) [ inl t ↦ inl (t.0, inl (w, t.1)) | inr f ↦ inr (f.0, f.1, inl (w, f.2)) ]
      | inr cut ↦ elim (word_decided (codes "in") line) [
        | inl w ↦ elim (in_decided s line) [ inl t ↦ inl (t.0, inr (inl (w, t.1))) | inr f ↦ inr (f.0, f.1, inr (inl (w, f.2))) ]
        | inr inside ↦ elim (word_decided (codes "out") line) [
          | inl w ↦ elim (out_decided s line next) [ inl t ↦ inl (t.0, inr (inr (inl (w, t.1)))) | inr f ↦ inr (f.0, f.1, inr (inr (inl (w, f.2)))) ]
          | inr outside ↦ elim (word_decided (codes "left") line) [
            | inl w ↦ elim (left_decided s line next) [ inl t ↦ inl (t.0, inr (inr (inr (w, t.1)))) | inr f ↦ inr (f.0, f.1, inr (inr (inr (inl (w, f.2))))) ]
            | inr left ↦ inr (Word, 0, inr (inr (inr (inr (record { cut = cut; inside = inside; outside = outside; left = left }, refl, refl)))))
          ]
        ]
      ]
    ]

pub line_decided : (s : Tree) (line : List ℕ) → s.pending ≢ [] → Goes (TakesLine s line) (SlipsLine s line)
line_decided s line some =
    let next = next_of s.pending some in
    elim (eq_decided s.leaf.left 0) [
      | inl zero ↦ elim (node_decided s line next) [ inl t ↦ inl (t.0, inr (zero, t.1)) | inr f ↦ inr (f.0, f.1, inr (zero, f.2)) ]
      | inr left ↦
          let more : 0 < s.leaf.left = omega (arith, left) in
          elim (node_line_decided s line next more) [ inl t ↦ inl (t.0, inl (more, t.1)) | inr f ↦ inr (f.0, f.1, inl (more, f.2)) ]
    ]
