-- What a line of a tree does is determined, and so is what is wrong with it.
use Rattle.std.proofs.Common.{◌≡◌, ◌≢◌, ◌⊎◌, ◌<◌, ◌==◌, if◌then◌else◌, ℕ, ℤ, List, [], ◌∷◌, length, codes, get_or, refl, sym, ap, ◌∙◌, inl, inr, arith}
use Rattle.srs_num.specs.Points.{LinearForm}
use Rattle.srs_path.specs.declared.paths.Side.{Side}
use Rattle.srs_path.specs.declared.outcomes.Why.TheVariants.{Cycle as CycleFails, Witness as WitnessFails}
use Rattle.srs_path.specs.declared.outcomes.Cause.{Cause}
use Rattle.srs_path.specs.declared.outcomes.Cause.TheVariants.{Depth, Cells, Thin, Memory}
use Rattle.srs_path.specs.declared.outcomes.Outcome.{Outcome}
use Rattle.srs_path.specs.declared.outcomes.Outcome.TheVariants.{Inside, Outside, Left}
use Rattle.srs_line.specs.declared.slip.Slip.{Slip}
use Rattle.srs_line.specs.declared.slip.Slip.TheVariants.{Count}
use Rattle.srs_line.specs.Fields.{Says, HasWord}
use Rattle.srs_line.proofs.FieldLaws.{word_once, says_once, no_field_slip, field_slip_once, count_once, no_count_slip, count_slip_once}
use Rattle.srs_line.proofs.ManyLaws.{no_many_slip, many_slip_once}
use Rattle.srs_file.specs.declared.tree.Tree.{Tree}
use Rattle.srs_file.specs.Leaf.{LeafView}
use Rattle.srs_file.specs.TreeReading.{left_line, no_leaf, TakesOutcome, Divides, SlipsDivide, CutsBy, SlipsCutBy, StepsCut, SlipsCut, StepsIn, StepsOut, SlipsOut, StepsLeft, StepsNode, SlipsNode, StepsEntry, TakesLine, SlipsLine}
use Rattle.srs_file.proofs.LeafLaws.{entry_once, entry_apart, entry_slips}

heads : (p q : List Side) (r k : List (List Side)) → p ∷ r ≡ q ∷ k → p ≡ q
heads p q r k e = cc

tails : (p q : List Side) (r k : List (List Side)) → p ∷ r ≡ q ∷ k → r ≡ k
tails p q r k e = cc

settles_once : (s t u : Tree) (o : Outcome) → TakesOutcome s o t → TakesOutcome s o u → t ≡ u
settles_once s t u o (p, r, e, f) (q, k, g, h) = let both = sym e ∙ g in rw (f, h, heads p q r k both, tails p q r k both) refl

abbrev form_numbers : LinearForm → List ℤ
form_numbers h = h.a ∷ h.b ∷ h.c ∷ []

same_form : (a b c x y z : ℤ) → a ≡ x → b ≡ y → c ≡ z → let g : LinearForm = record { a = a; b = b; c = c } in let h : LinearForm = record { a = x; b = y; c = z } in g ≡ h
same_form a b c x y z e f g = rw (e, f, g) refl

form_once : (g h : LinearForm) (line : List ℕ) → Says (codes "cut") (form_numbers g) line → Says (codes "cut") (form_numbers h) line → g ≡ h
form_once g h line p q =
    let same = says_once (codes "cut") line (form_numbers g) (form_numbers h) p q in
    let one : g.a ≡ h.a = cc in
    let two : g.b ≡ h.b = cc in
    let three : g.c ≡ h.c = cc in
    same_form g.a g.b g.c h.a h.b h.c one two three

divides_once : (s t u : Tree) (h : LinearForm) → Divides s h t → Divides s h u → t ≡ u
divides_once s t u h (p, r, e, lt, f) (q, k, g, lt', i) = let both = sym e ∙ g in rw (f, i, heads p q r k both, tails p q r k both) refl

divide_apart : (s t : Tree) (h : LinearForm) (slip : Slip) (back : ℕ) → Divides s h t → SlipsDivide s slip back → ⊥
divide_apart s t h slip back (p, r, e, lt, f) (q, k, g, ge, i, b) = let same = heads p q r k (sym e ∙ g) in omega (arith, ap (λ (x : List Side). length x) same)

cut_by_apart : (s t : Tree) (h : LinearForm) (slip : Slip) (back : ℕ) → CutsBy s h t → SlipsCutBy s h slip back → ⊥
cut_by_apart s t h slip back (room, fit, div) (inl (full, e, b)) = full room
cut_by_apart s t h slip back (room, fit, div) (inr (inl (room', bar, e, b))) = bar fit
cut_by_apart s t h slip back (room, fit, div) (inr (inr (room', fit', deep))) = divide_apart s t h slip back div deep

cut_by_slips : (s : Tree) (h : LinearForm) (d e : Slip) (m n : ℕ) → SlipsCutBy s h d m → SlipsCutBy s h e n → (d ≡ e) × (m ≡ n)
cut_by_slips s h d e m n (inl (full, f, b)) (inl (full', g, c)) = (f ∙ sym g, b ∙ sym c)
cut_by_slips s h d e m n (inl (full, f, b)) (inr (inl (room, bar, g, c))) = absurd (full room)
cut_by_slips s h d e m n (inl (full, f, b)) (inr (inr (room, fit, deep))) = absurd (full room)
cut_by_slips s h d e m n (inr (inl (room, bar, f, b))) (inl (full, g, c)) = absurd (full room)
cut_by_slips s h d e m n (inr (inl (room, bar, f, b))) (inr (inl (room', bar', g, c))) = (f ∙ sym g, b ∙ sym c)
cut_by_slips s h d e m n (inr (inl (room, bar, f, b))) (inr (inr (room', fit, deep))) = absurd (bar fit)
cut_by_slips s h d e m n (inr (inr (room, fit, deep))) (inl (full, g, c)) = absurd (full room)
cut_by_slips s h d e m n (inr (inr (room, fit, deep))) (inr (inl (room', bar, g, c))) = absurd (bar fit)
cut_by_slips s h d e m n (inr (inr (room, fit, (p, r, i, ge, f, b)))) (inr (inr (room', fit', (q, k, j, ge', g, c)))) = (f ∙ sym g, b ∙ sym c)

cuts_once : (s t u : Tree) (line : List ℕ) → StepsCut s line t → StepsCut s line u → t ≡ u
cuts_once s t u line (g, p, (room, fit, div)) (h, q, (room', fit', div')) = let same = form_once g h line p q in divides_once s t u h (rw same at div) div'

cut_apart : (s t : Tree) (line : List ℕ) (slip : Slip) (back : ℕ) → StepsCut s line t → SlipsCut s line slip back → ⊥
cut_apart s t line slip back (g, p, by) (inl (f, b)) = no_field_slip (codes "cut") line (form_numbers g) slip p f
cut_apart s t line slip back (g, p, by) (inr (h, q, bad)) = let same = form_once g h line p q in cut_by_apart s t h slip back (rw same at by) bad

cut_slips : (s : Tree) (line : List ℕ) (d e : Slip) (m n : ℕ) → SlipsCut s line d m → SlipsCut s line e n → (d ≡ e) × (m ≡ n)
cut_slips s line d e m n (inl (f, b)) (inl (g, c)) = (field_slip_once (codes "cut") line 3 d e f g, b ∙ sym c)
cut_slips s line d e m n (inl (f, b)) (inr (h, q, bad)) = absurd (no_field_slip (codes "cut") line (form_numbers h) d q f)
cut_slips s line d e m n (inr (h, q, bad)) (inl (g, c)) = absurd (no_field_slip (codes "cut") line (form_numbers h) e q g)
cut_slips s line d e m n (inr (g, p, bad)) (inr (h, q, bad')) = let same = form_once g h line p q in cut_by_slips s h d e m n (rw same at bad) bad'

ins_once : (s t u : Tree) (line : List ℕ) → StepsIn s line t → StepsIn s line u → t ≡ u
ins_once s t u line (m, p, f) (n, q, g) = let count : m ≡ n = count_once (codes "in") line 1 s.limits.wits m n p q in rw (f, g, count) refl

out_once : (m n : ℤ) (xs ys : List ℤ) (line : List ℕ) → Says (codes "out") (m ∷ xs) line → Says (codes "out") (n ∷ ys) line → (m ≡ n) × (xs ≡ ys)
out_once m n xs ys line p q =
    let same = says_once (codes "out") line (m ∷ xs) (n ∷ ys) p q in
    let one : m ≡ n = cc in
    let two : xs ≡ ys = cc in
    (one, two)

outs_once : (s t u : Tree) (line : List ℕ) → StepsOut s line t → StepsOut s line u → t ≡ u
outs_once s t u line (m, xs, p, count, cycle, f) (n, ys, q, count', cycle', g) =
    let same = out_once m n xs ys line p q in
    settles_once s t u (Outside ys) (rw same.1 at f) g

out_apart : (s t : Tree) (line : List ℕ) (slip : Slip) (back : ℕ) → StepsOut s line t → SlipsOut s line slip back → ⊥
out_apart s t line slip back (m, xs, p, count, cycle, f) (inl g) = no_many_slip (codes "out") line m xs slip back p g
out_apart s t line slip back (m, xs, p, count, cycle, f) (inr (inl (n, ys, q, bar, g, b))) = let same = out_once m n xs ys line p q in bar (rw (same.0, same.1) at count)
out_apart s t line slip back (m, xs, p, count, cycle, f) (inr (inr (n, ys, q, count', bar, g, b))) = let same = out_once m n xs ys line p q in bar (rw same.1 at cycle)

out_slips : (s : Tree) (line : List ℕ) (d e : Slip) (m n : ℕ) → SlipsOut s line d m → SlipsOut s line e n → (d ≡ e) × (m ≡ n)
out_slips s line d e m n (inl f) (inl g) = many_slip_once (codes "out") line d e m n f g
out_slips s line d e m n (inl f) (inr (inl (y, ys, q, bar, g, c))) = absurd (no_many_slip (codes "out") line y ys d m q f)
out_slips s line d e m n (inl f) (inr (inr (y, ys, q, count, bar, g, c))) = absurd (no_many_slip (codes "out") line y ys d m q f)
out_slips s line d e m n (inr (inl (x, xs, p, bar, f, b))) (inl g) = absurd (no_many_slip (codes "out") line x xs e n p g)
out_slips s line d e m n (inr (inl (x, xs, p, bar, f, b))) (inr (inl (y, ys, q, bar', g, c))) = (f ∙ sym g, b ∙ sym c)
out_slips s line d e m n (inr (inl (x, xs, p, bar, f, b))) (inr (inr (y, ys, q, count, bar', g, c))) = let same = out_once y x ys xs line q p in absurd (bar (rw (same.0, same.1) at count))
out_slips s line d e m n (inr (inr (x, xs, p, count, bar, f, b))) (inl g) = absurd (no_many_slip (codes "out") line x xs e n p g)
out_slips s line d e m n (inr (inr (x, xs, p, count, bar, f, b))) (inr (inl (y, ys, q, bar', g, c))) = let same = out_once x y xs ys line p q in absurd (bar' (rw (same.0, same.1) at count))
out_slips s line d e m n (inr (inr (x, xs, p, count, bar, f, b))) (inr (inr (y, ys, q, count', bar', g, c))) = (f ∙ sym g, b ∙ sym c)

-- a cause is read off from its line: by its 6th byte, and by the 12th
abbrev pub cause_at : ℕ → ℕ → Cause
cause_at n m = if n == 100 then (if m == 99 then Depth CycleFails else Depth WitnessFails) else (if n == 99 then (if m == 99 then Cells CycleFails else Cells WitnessFails) else (if n == 116 then Thin else Memory))

cause_is : (c : Cause) → cause_at (get_or (left_line c) 5 0) (get_or (left_line c) 11 0) ≡ c
cause_is (Depth CycleFails) = refl
cause_is (Depth WitnessFails) = refl
cause_is (Cells CycleFails) = refl
cause_is (Cells WitnessFails) = refl
cause_is Thin = refl
cause_is Memory = refl

left_once : (line : List ℕ) (c d : Cause) → line ≡ left_line c → line ≡ left_line d → c ≡ d
left_once line c d e f = sym (cause_is c) ∙ ap (λ (xs : List ℕ). cause_at (get_or xs 5 0) (get_or xs 11 0)) (sym e ∙ f) ∙ cause_is d

lefts_once : (s t u : Tree) (line : List ℕ) → StepsLeft s line t → StepsLeft s line u → t ≡ u
lefts_once s t u line (c, e, f) (d, g, h) = let cause : c ≡ d = left_once line c d e g in settles_once s t u (Left d) (rw cause at f) h

first : (x y : ℕ) (xs ys : List ℕ) → x ∷ xs ≡ y ∷ ys → x ≡ y
first x y xs ys e = cc

differ : (m n : ℕ) → m ≡ n → m ≢ n → ⊥
differ m n e ne = ne e

cut_in : (line : List ℕ) → HasWord (codes "cut") line → HasWord (codes "in") line → ⊥
cut_in line p q = differ 99 105 (first 99 105 (117 ∷ 116 ∷ []) (110 ∷ []) (word_once (codes "cut") (codes "in") line p q)) (omega arith)

cut_out : (line : List ℕ) → HasWord (codes "cut") line → HasWord (codes "out") line → ⊥
cut_out line p q = differ 99 111 (first 99 111 (117 ∷ 116 ∷ []) (117 ∷ 116 ∷ []) (word_once (codes "cut") (codes "out") line p q)) (omega arith)

cut_left : (line : List ℕ) → HasWord (codes "cut") line → HasWord (codes "left") line → ⊥
cut_left line p q = differ 99 108 (first 99 108 (117 ∷ 116 ∷ []) (101 ∷ 102 ∷ 116 ∷ []) (word_once (codes "cut") (codes "left") line p q)) (omega arith)

in_out : (line : List ℕ) → HasWord (codes "in") line → HasWord (codes "out") line → ⊥
in_out line p q = differ 105 111 (first 105 111 (110 ∷ []) (117 ∷ 116 ∷ []) (word_once (codes "in") (codes "out") line p q)) (omega arith)

in_left : (line : List ℕ) → HasWord (codes "in") line → HasWord (codes "left") line → ⊥
in_left line p q = differ 105 108 (first 105 108 (110 ∷ []) (101 ∷ 102 ∷ 116 ∷ []) (word_once (codes "in") (codes "left") line p q)) (omega arith)

out_left : (line : List ℕ) → HasWord (codes "out") line → HasWord (codes "left") line → ⊥
out_left line p q = differ 111 108 (first 111 108 (117 ∷ 116 ∷ []) (101 ∷ 102 ∷ 116 ∷ []) (word_once (codes "out") (codes "left") line p q)) (omega arith)

node_once : (s t u : Tree) (line : List ℕ) → StepsNode s line t → StepsNode s line u → t ≡ u
node_once s t u line (inl (w, p)) (inl (v, q)) = cuts_once s t u line p q
node_once s t u line (inl (w, p)) (inr (inl (v, q))) = absurd (cut_in line w v)
node_once s t u line (inl (w, p)) (inr (inr (inl (v, q)))) = absurd (cut_out line w v)
node_once s t u line (inl (w, p)) (inr (inr (inr (v, q)))) = absurd (cut_left line w v)
node_once s t u line (inr (inl (w, p))) (inl (v, q)) = absurd (cut_in line v w)
node_once s t u line (inr (inl (w, p))) (inr (inl (v, q))) = ins_once s t u line p q
node_once s t u line (inr (inl (w, p))) (inr (inr (inl (v, q)))) = absurd (in_out line w v)
node_once s t u line (inr (inl (w, p))) (inr (inr (inr (v, q)))) = absurd (in_left line w v)
node_once s t u line (inr (inr (inl (w, p)))) (inl (v, q)) = absurd (cut_out line v w)
node_once s t u line (inr (inr (inl (w, p)))) (inr (inl (v, q))) = absurd (in_out line v w)
node_once s t u line (inr (inr (inl (w, p)))) (inr (inr (inl (v, q)))) = outs_once s t u line p q
node_once s t u line (inr (inr (inl (w, p)))) (inr (inr (inr (v, q)))) = absurd (out_left line w v)
node_once s t u line (inr (inr (inr (w, p)))) (inl (v, q)) = absurd (cut_left line v w)
node_once s t u line (inr (inr (inr (w, p)))) (inr (inl (v, q))) = absurd (in_left line v w)
node_once s t u line (inr (inr (inr (w, p)))) (inr (inr (inl (v, q)))) = absurd (out_left line v w)
node_once s t u line (inr (inr (inr (w, p)))) (inr (inr (inr (v, q)))) = lefts_once s t u line p q

pub node_apart : (s t : Tree) (line : List ℕ) (slip : Slip) (back : ℕ) → StepsNode s line t → SlipsNode s line slip back → ⊥
node_apart s t line slip back (inl (w, p)) (inl (v, f)) = cut_apart s t line slip back p f
node_apart s t line slip back (inl (w, p)) (inr (inl (v, f))) = cut_in line w v
node_apart s t line slip back (inl (w, p)) (inr (inr (inl (v, f)))) = cut_out line w v
node_apart s t line slip back (inl (w, p)) (inr (inr (inr (inl (v, f))))) = cut_left line w v
node_apart s t line slip back (inl (w, p)) (inr (inr (inr (inr (none, f, b))))) = none.cut w
node_apart s t line slip back (inr (inl (w, p))) (inl (v, f)) = cut_in line v w
node_apart s t line slip back (inr (inl (w, (n, p, e)))) (inr (inl (v, (f, b)))) = no_count_slip (codes "in") line 1 s.limits.wits n Count slip p f
node_apart s t line slip back (inr (inl (w, p))) (inr (inr (inl (v, f)))) = in_out line w v
node_apart s t line slip back (inr (inl (w, p))) (inr (inr (inr (inl (v, f))))) = in_left line w v
node_apart s t line slip back (inr (inl (w, p))) (inr (inr (inr (inr (none, f, b))))) = none.inside w
node_apart s t line slip back (inr (inr (inl (w, p)))) (inl (v, f)) = cut_out line v w
node_apart s t line slip back (inr (inr (inl (w, p)))) (inr (inl (v, f))) = in_out line v w
node_apart s t line slip back (inr (inr (inl (w, p)))) (inr (inr (inl (v, f)))) = out_apart s t line slip back p f
node_apart s t line slip back (inr (inr (inl (w, p)))) (inr (inr (inr (inl (v, f))))) = out_left line w v
node_apart s t line slip back (inr (inr (inl (w, p)))) (inr (inr (inr (inr (none, f, b))))) = none.outside w
node_apart s t line slip back (inr (inr (inr (w, p)))) (inl (v, f)) = cut_left line v w
node_apart s t line slip back (inr (inr (inr (w, p)))) (inr (inl (v, f))) = in_left line v w
node_apart s t line slip back (inr (inr (inr (w, p)))) (inr (inr (inl (v, f)))) = out_left line v w
node_apart s t line slip back (inr (inr (inr (w, (cause, p, e))))) (inr (inr (inr (inl (v, (f, g, b)))))) = f cause p
node_apart s t line slip back (inr (inr (inr (w, p)))) (inr (inr (inr (inr (none, f, b))))) = none.left w

pub node_slips : (s : Tree) (line : List ℕ) (d e : Slip) (m n : ℕ) → SlipsNode s line d m → SlipsNode s line e n → (d ≡ e) × (m ≡ n)
node_slips s line d e m n (inl (w, f)) (inl (v, g)) = cut_slips s line d e m n f g
node_slips s line d e m n (inl (w, f)) (inr (inl (v, g))) = absurd (cut_in line w v)
node_slips s line d e m n (inl (w, f)) (inr (inr (inl (v, g)))) = absurd (cut_out line w v)
node_slips s line d e m n (inl (w, f)) (inr (inr (inr (inl (v, g))))) = absurd (cut_left line w v)
node_slips s line d e m n (inl (w, f)) (inr (inr (inr (inr (none, g, c))))) = absurd (none.cut w)
node_slips s line d e m n (inr (inl (w, f))) (inl (v, g)) = absurd (cut_in line v w)
node_slips s line d e m n (inr (inl (w, (f, b)))) (inr (inl (v, (g, c)))) = (count_slip_once (codes "in") line 1 s.limits.wits Count d e f g, b ∙ sym c)
node_slips s line d e m n (inr (inl (w, f))) (inr (inr (inl (v, g)))) = absurd (in_out line w v)
node_slips s line d e m n (inr (inl (w, f))) (inr (inr (inr (inl (v, g))))) = absurd (in_left line w v)
node_slips s line d e m n (inr (inl (w, f))) (inr (inr (inr (inr (none, g, c))))) = absurd (none.inside w)
node_slips s line d e m n (inr (inr (inl (w, f)))) (inl (v, g)) = absurd (cut_out line v w)
node_slips s line d e m n (inr (inr (inl (w, f)))) (inr (inl (v, g))) = absurd (in_out line v w)
node_slips s line d e m n (inr (inr (inl (w, f)))) (inr (inr (inl (v, g)))) = out_slips s line d e m n f g
node_slips s line d e m n (inr (inr (inl (w, f)))) (inr (inr (inr (inl (v, g))))) = absurd (out_left line w v)
node_slips s line d e m n (inr (inr (inl (w, f)))) (inr (inr (inr (inr (none, g, c))))) = absurd (none.outside w)
node_slips s line d e m n (inr (inr (inr (inl (w, f))))) (inl (v, g)) = absurd (cut_left line v w)
node_slips s line d e m n (inr (inr (inr (inl (w, f))))) (inr (inl (v, g))) = absurd (in_left line v w)
node_slips s line d e m n (inr (inr (inr (inl (w, f))))) (inr (inr (inl (v, g)))) = absurd (out_left line v w)
node_slips s line d e m n (inr (inr (inr (inl (w, (bar, f, b)))))) (inr (inr (inr (inl (v, (bar', g, c)))))) = (f ∙ sym g, b ∙ sym c)
node_slips s line d e m n (inr (inr (inr (inl (w, f))))) (inr (inr (inr (inr (none, g, c))))) = absurd (none.left w)
node_slips s line d e m n (inr (inr (inr (inr (none, f, b))))) (inl (v, g)) = absurd (none.cut v)
node_slips s line d e m n (inr (inr (inr (inr (none, f, b))))) (inr (inl (v, g))) = absurd (none.inside v)
node_slips s line d e m n (inr (inr (inr (inr (none, f, b))))) (inr (inr (inl (v, g)))) = absurd (none.outside v)
node_slips s line d e m n (inr (inr (inr (inr (none, f, b))))) (inr (inr (inr (inl (v, g))))) = absurd (none.left v)
node_slips s line d e m n (inr (inr (inr (inr (none, f, b))))) (inr (inr (inr (inr (none', g, c))))) = (f ∙ sym g, b ∙ sym c)

finishes_once : (s t u : Tree) (leaf : LeafView) → ((0 < leaf.left) × (t ≡ record s { leaf = leaf })) ⊎ ((leaf.left ≡ 0) × TakesOutcome (record s { leaf = no_leaf }) (Inside leaf.entries) t)
    → ((0 < leaf.left) × (u ≡ record s { leaf = leaf })) ⊎ ((leaf.left ≡ 0) × TakesOutcome (record s { leaf = no_leaf }) (Inside leaf.entries) u) → t ≡ u
finishes_once s t u leaf (inl (a, e)) (inl (b, f)) = e ∙ sym f
finishes_once s t u leaf (inl (a, e)) (inr (b, f)) = absurd (omega arith)
finishes_once s t u leaf (inr (a, e)) (inl (b, f)) = absurd (omega arith)
finishes_once s t u leaf (inr (a, e)) (inr (b, f)) = settles_once (record s { leaf = no_leaf }) t u (Inside leaf.entries) e f

entries_once : (s t u : Tree) (line : List ℕ) → StepsEntry s line t → StepsEntry s line u → t ≡ u
entries_once s t u line (l, p, f) (k, q, g) = let same : l ≡ k = entry_once s.leaf l k line p q in finishes_once s t u k (rw same at f) g

pub line_once : (s t u : Tree) (line : List ℕ) → TakesLine s line t → TakesLine s line u → t ≡ u
line_once s t u line (inl (a, p)) (inl (b, q)) = entries_once s t u line p q
line_once s t u line (inl (a, p)) (inr (b, q)) = absurd (omega arith)
line_once s t u line (inr (a, p)) (inl (b, q)) = absurd (omega arith)
line_once s t u line (inr (a, p)) (inr (b, q)) = node_once s t u line p q

pub line_apart : (s t : Tree) (line : List ℕ) (slip : Slip) (back : ℕ) → TakesLine s line t → SlipsLine s line slip back → ⊥
line_apart s t line slip back (inl (a, (l, p, f))) (inl (b, g)) = entry_apart s.leaf l line slip back p g
line_apart s t line slip back (inl (a, p)) (inr (b, g)) = omega arith
line_apart s t line slip back (inr (a, p)) (inl (b, g)) = omega arith
line_apart s t line slip back (inr (a, p)) (inr (b, g)) = node_apart s t line slip back p g

pub line_slips : (s : Tree) (line : List ℕ) (d e : Slip) (m n : ℕ) → SlipsLine s line d m → SlipsLine s line e n → (d ≡ e) × (m ≡ n)
line_slips s line d e m n (inl (a, f)) (inl (b, g)) = entry_slips s.leaf line d e m n f g
line_slips s line d e m n (inl (a, f)) (inr (b, g)) = absurd (omega arith)
line_slips s line d e m n (inr (a, f)) (inl (b, g)) = absurd (omega arith)
line_slips s line d e m n (inr (a, f)) (inr (b, g)) = node_slips s line d e m n f g
