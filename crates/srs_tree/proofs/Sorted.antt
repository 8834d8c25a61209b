-- Entries that rise by their paths, split at a path.
use Rattle.std.proofs.Common.{◌≡◌, ℕ, zero, suc, ◌<◌, Bool, true, false, cond, ◌&&◌, T, List, [], ◌∷◌, ◌++◌, length, get_or, refl, sym, ap, ap₂, subst, ◌∙◌, arith, true≢false, Some, None}
use Rattle.std.specs.List.{filter}
use Rattle.std.specs.declared.option.Option.{Option}
use Rattle.std.specs.declared.cmp.Ordering.{Ordering}
use Rattle.std.specs.Ordering.{is_lt}
use Rattle.std.specs.Cmp.Lexicographic.{slice_cmp}
use Rattle.std.specs.FinMap.{find, is_sorted}
use Rattle.std.specs.FinMap.Entries.{below_all}
use Rattle.srs_path.specs.declared.paths.Side.{Side}
use Rattle.srs_path.specs.declared.paths.Side.TheVariants.{Ge, Lt}
use Rattle.srs_path.specs.declared.outcomes.Outcome.{Outcome}
use Rattle.srs_tree.specs.Tree.{path_eq}
use Rattle.srs_tree.specs.Snapshots.{side_cmp}
use Rattle.srs_tree.specs.Preorder.{begins}
use Rattle.srs_tree.proofs.HistoryLemmas.{same_path, path_eq_same}
use Rattle.srs_tree.proofs.StandsLemmas.{ties}

abbrev pub Pair : Type 0
Pair = List Side × Outcome

abbrev pub before : List Side → List Side → Ordering
before = slice_cmp side_cmp

-- where the path q stands to p
pub data Stands (p q : List Side) : Type 0 where
  apart : begins p q ≡ false → path_eq q p ≡ false → begins (p ++ Ge ∷ []) q ≡ false → begins (p ++ Lt ∷ []) q ≡ false → Stands p q
  here : begins p q ≡ true → path_eq q p ≡ true → begins (p ++ Ge ∷ []) q ≡ false → begins (p ++ Lt ∷ []) q ≡ false → Stands p q
  on_ge : begins p q ≡ true → path_eq q p ≡ false → begins (p ++ Ge ∷ []) q ≡ true → begins (p ++ Lt ∷ []) q ≡ false → Stands p q
  on_lt : begins p q ≡ true → path_eq q p ≡ false → begins (p ++ Ge ∷ []) q ≡ false → begins (p ++ Lt ∷ []) q ≡ true → Stands p q

stands_more : (p q : List Side) → Stands p q → (s : Side) → Stands (s ∷ p) (s ∷ q)
stands_more p q (apart a b c d) Ge = apart a b c d
stands_more p q (apart a b c d) Lt = apart a b c d
stands_more p q (here a b c d) Ge = here a b c d
stands_more p q (here a b c d) Lt = here a b c d
stands_more p q (on_ge a b c d) Ge = on_ge a b c d
stands_more p q (on_ge a b c d) Lt = on_ge a b c d
stands_more p q (on_lt a b c d) Ge = on_lt a b c d
stands_more p q (on_lt a b c d) Lt = on_lt a b c d

pub stands : (p q : List Side) → Stands p q
stands [] [] = here refl refl refl refl
stands [] (Ge ∷ q) = on_ge refl refl refl refl
stands [] (Lt ∷ q) = on_lt refl refl refl refl
stands (s ∷ p) [] = apart refl refl refl refl
stands (Ge ∷ p) (Ge ∷ q) = stands_more p q (stands p q) Ge
stands (Ge ∷ p) (Lt ∷ q) = apart refl refl refl refl
stands (Lt ∷ p) (Ge ∷ q) = apart refl refl refl refl
stands (Lt ∷ p) (Lt ∷ q) = stands_more p q (stands p q) Lt

-- what is below a side of p doesn't stand before p, and what is below Lt not before what is below Ge
not_before : (p : List Side) (s : Side) (q r : List Side) → begins (p ++ s ∷ []) q ≡ true → path_eq r p ≡ true → is_lt (before q r) ≡ false
not_before [] s [] r e f = absurd (true≢false (sym e))
not_before [] s (t ∷ q) [] e f = refl
not_before [] s (t ∷ q) (u ∷ r) e f = absurd (true≢false (sym f))
not_before (t ∷ p) s [] r e f = absurd (true≢false (sym e))
not_before (t ∷ p) s (u ∷ q) [] e f = absurd (true≢false (sym f))
not_before (Ge ∷ p) s (Ge ∷ q) (Ge ∷ r) e f = not_before p s q r e f
not_before (Lt ∷ p) s (Lt ∷ q) (Lt ∷ r) e f = not_before p s q r e f
not_before (Ge ∷ p) s (Lt ∷ q) (u ∷ r) e f = absurd (true≢false (sym e))
not_before (Lt ∷ p) s (Ge ∷ q) (u ∷ r) e f = absurd (true≢false (sym e))
not_before (Ge ∷ p) s (Ge ∷ q) (Lt ∷ r) e f = absurd (true≢false (sym f))
not_before (Lt ∷ p) s (Lt ∷ q) (Ge ∷ r) e f = absurd (true≢false (sym f))

lt_not_before : (p q r : List Side) → begins (p ++ Lt ∷ []) q ≡ true → begins (p ++ Ge ∷ []) r ≡ true → is_lt (before q r) ≡ false
lt_not_before [] [] r e f = absurd (true≢false (sym e))
lt_not_before [] (t ∷ q) [] e f = absurd (true≢false (sym f))
lt_not_before [] (Ge ∷ q) (u ∷ r) e f = absurd (true≢false (sym e))
lt_not_before [] (Lt ∷ q) (Ge ∷ r) e f = refl
lt_not_before [] (Lt ∷ q) (Lt ∷ r) e f = absurd (true≢false (sym f))
lt_not_before (t ∷ p) [] r e f = absurd (true≢false (sym e))
lt_not_before (t ∷ p) (u ∷ q) [] e f = absurd (true≢false (sym f))
lt_not_before (Ge ∷ p) (Ge ∷ q) (Ge ∷ r) e f = lt_not_before p q r e f
lt_not_before (Lt ∷ p) (Lt ∷ q) (Lt ∷ r) e f = lt_not_before p q r e f
lt_not_before (Ge ∷ p) (Lt ∷ q) (u ∷ r) e f = absurd (true≢false (sym e))
lt_not_before (Lt ∷ p) (Ge ∷ q) (u ∷ r) e f = absurd (true≢false (sym e))
lt_not_before (Ge ∷ p) (Ge ∷ q) (Lt ∷ r) e f = absurd (true≢false (sym f))
lt_not_before (Lt ∷ p) (Lt ∷ q) (Ge ∷ r) e f = absurd (true≢false (sym f))

-- a path doesn't stand before itself
not_itself : (p q : List Side) → path_eq p q ≡ true → is_lt (before p q) ≡ false
not_itself [] [] e = refl
not_itself [] (t ∷ q) e = absurd (true≢false (sym e))
not_itself (s ∷ p) [] e = absurd (true≢false (sym e))
not_itself (Ge ∷ p) (Ge ∷ q) e = not_itself p q e
not_itself (Ge ∷ p) (Lt ∷ q) e = absurd (true≢false (sym e))
not_itself (Lt ∷ p) (Ge ∷ q) e = absurd (true≢false (sym e))
not_itself (Lt ∷ p) (Lt ∷ q) e = not_itself p q e

both : (a b : Bool) → T (a && b) → T a × T b
both true b t = (tt, t)
both false b t = absurd t

-- what comes after a path fails a test that no such path passes
none_after : (test : Pair → Bool) (q : List Side) (es : List Pair) → T (below_all before q es) → ((e : Pair) → T (is_lt (before q e.0)) → test e ≡ false) → filter test es ≡ []
none_after test q [] b fails = refl
none_after test q (e ∷ es) b fails =
    let t = both (is_lt (before q e.0)) (below_all before q es) b in
    ap (λ (x : Bool). cond x (e ∷ filter test es) (filter test es)) (fails e t.0) ∙ none_after test q es t.1 fails

-- a test that would contradict the order fails
by_order : (x : Bool) (b : Bool) → T b → (x ≡ true → b ≡ false) → x ≡ false
by_order true b t f = absurd (subst T (f refl) t)
by_order false b t f = refl

abbrev pub own : List Side → List Pair → List Pair
own p es = filter (λ (e : Pair). path_eq e.0 p) es

abbrev pub below : List Side → List Pair → List Pair
below p es = filter (λ (e : Pair). begins p e.0) es

pub split : (p : List Side) (es : List Pair) → T (is_sorted before es) → below p es ≡ own p es ++ (below (p ++ Ge ∷ []) es ++ below (p ++ Lt ∷ []) es)
split p [] h = refl
split p (e ∷ es) h =
    let t = both (below_all before e.0 es) (is_sorted before es) h in
    by_place t.0 (split p es t.1) (stands p e.0)
  where
    all_of : (a b c d : Bool) → begins p e.0 ≡ a → path_eq e.0 p ≡ b → begins (p ++ Ge ∷ []) e.0 ≡ c → begins (p ++ Lt ∷ []) e.0 ≡ d
        → cond a (e ∷ below p es) (below p es) ≡ cond b (e ∷ own p es) (own p es) ++ (cond c (e ∷ below (p ++ Ge ∷ []) es) (below (p ++ Ge ∷ []) es) ++ cond d (e ∷ below (p ++ Lt ∷ []) es) (below (p ++ Lt ∷ []) es))
        → below p (e ∷ es) ≡ own p (e ∷ es) ++ (below (p ++ Ge ∷ []) (e ∷ es) ++ below (p ++ Lt ∷ []) (e ∷ es))
    all_of a b c d f g k l m =
        ap (λ (x : Bool). cond x (e ∷ below p es) (below p es)) f ∙ m
        ∙ sym (ap₂ (λ (x y : List Pair). x ++ y) (ap (λ (x : Bool). cond x (e ∷ own p es) (own p es)) g)
        (ap₂ (λ (x y : List Pair). x ++ y) (ap (λ (x : Bool). cond x (e ∷ below (p ++ Ge ∷ []) es) (below (p ++ Ge ∷ []) es)) k)
        (ap (λ (x : Bool). cond x (e ∷ below (p ++ Lt ∷ []) es) (below (p ++ Lt ∷ []) es)) l)))

    by_place : T (below_all before e.0 es) → below p es ≡ own p es ++ (below (p ++ Ge ∷ []) es ++ below (p ++ Lt ∷ []) es) → Stands p e.0
        → below p (e ∷ es) ≡ own p (e ∷ es) ++ (below (p ++ Ge ∷ []) (e ∷ es) ++ below (p ++ Lt ∷ []) (e ∷ es))
    by_place b rest (apart f g k l) = all_of false false false false f g k l rest
    by_place b rest (here f g k l) = all_of true true false false f g k l (ap (λ (xs : List Pair). e ∷ xs) rest)
    by_place b rest (on_ge f g k l) =
        let none : own p es ≡ [] = none_after (λ (d : Pair). path_eq d.0 p) e.0 es b (λ d t. by_order (path_eq d.0 p) (is_lt (before e.0 d.0)) t (λ q. not_before p Ge e.0 d.0 k q)) in
        all_of true false true false f g k l
        (ap (λ (xs : List Pair). e ∷ xs) (rest ∙ ap (λ (xs : List Pair). xs ++ (below (p ++ Ge ∷ []) es ++ below (p ++ Lt ∷ []) es)) none)
        ∙ ap (λ (xs : List Pair). xs ++ (e ∷ below (p ++ Ge ∷ []) es ++ below (p ++ Lt ∷ []) es)) (sym none))
    by_place b rest (on_lt f g k l) =
        let none : own p es ≡ [] = none_after (λ (d : Pair). path_eq d.0 p) e.0 es b (λ d t. by_order (path_eq d.0 p) (is_lt (before e.0 d.0)) t (λ q. not_before p Lt e.0 d.0 l q)) in
        let no_ge : below (p ++ Ge ∷ []) es ≡ [] = none_after (λ (d : Pair). begins (p ++ Ge ∷ []) d.0) e.0 es b (λ d t. by_order (begins (p ++ Ge ∷ []) d.0) (is_lt (before e.0 d.0)) t (λ q. lt_not_before p e.0 d.0 l q)) in
        all_of true false false true f g k l
        (ap (λ (xs : List Pair). e ∷ xs) (rest ∙ ap₂ (λ (xs ys : List Pair). xs ++ (ys ++ below (p ++ Lt ∷ []) es)) none no_ge)
        ∙ ap₂ (λ (xs ys : List Pair). xs ++ (ys ++ (e ∷ below (p ++ Lt ∷ []) es))) (sym none) (sym no_ge))

-- the entry of a path, as a list
abbrev pub entry_list : List Side → Option Outcome → List Pair
entry_list p None = []
entry_list p (Some o) = (p, o) ∷ []

pub own_entry : (p : List Side) (es : List Pair) → T (is_sorted before es) → own p es ≡ entry_list p (find before p es)
own_entry p [] h = refl
own_entry p (e ∷ es) h =
    let t = both (below_all before e.0 es) (is_sorted before es) h in
    by_test (path_eq e.0 p) refl t.0 (own_entry p es t.1)
  where
    by_test : (b : Bool) → path_eq e.0 p ≡ b → T (below_all before e.0 es) → own p es ≡ entry_list p (find before p es) → own p (e ∷ es) ≡ entry_list p (find before p (e ∷ es))
    by_test true q b rest =
        let none : own p es ≡ [] = none_after (λ (d : Pair). path_eq d.0 p) e.0 es b (λ d t. by_order (path_eq d.0 p) (is_lt (before e.0 d.0)) t
        (λ r. not_itself e.0 d.0 (ap (λ (x : List Side). path_eq e.0 x) (same_path d.0 p r) ∙ q))) in
        let same : e.0 ≡ p = same_path e.0 p q in
        let alone : List Side → List Pair = λ x. (x, e.1) ∷ [] in
        ap (λ (x : Bool). cond x (e ∷ own p es) (own p es)) q ∙ ap (λ (xs : List Pair). e ∷ xs) none
        ∙ ap alone same
        ∙ sym (ap (λ (x : Bool). entry_list p (cond x (Some e.1) (find before p es))) (ties p e.0 ∙ q))
    by_test false q b rest =
        ap (λ (x : Bool). cond x (e ∷ own p es) (own p es)) q ∙ rest
        ∙ sym (ap (λ (x : Bool). entry_list p (cond x (Some e.1) (find before p es))) (ties p e.0 ∙ q))

-- each entry is found by its path
pub entry_found : (es : List Pair) → T (is_sorted before es) → (k : ℕ) (d : Pair) → k < length es → find before (get_or es k d).0 es ≡ Some (get_or es k d).1
entry_found [] h k d l = absurd (omega arith)
entry_found (e ∷ es) h zero d l = ap (λ (x : Bool). cond x (Some e.1) (find before e.0 es)) (ties e.0 e.0 ∙ path_eq_same e.0)
entry_found (e ∷ es) h (suc k) d l =
    let t = both (below_all before e.0 es) (is_sorted before es) h in
    let rest = entry_found es t.1 k d (omega arith) in
    ap (λ (x : Bool). cond x (Some e.1) (find before (get_or es k d).0 es)) (ties (get_or es k d).0 e.0 ∙ other es k t.0 (omega arith)) ∙ rest
  where
    other : (ds : List Pair) (j : ℕ) → T (below_all before e.0 ds) → j < length ds → path_eq e.0 (get_or ds j d).0 ≡ false
    other [] j b m = absurd (omega arith)
    other (c ∷ ds) zero b m = by_order (path_eq e.0 c.0) (is_lt (before e.0 c.0)) (both (is_lt (before e.0 c.0)) (below_all before e.0 ds) b).0 (λ q. not_itself e.0 c.0 q)
    other (c ∷ ds) (suc j) b m = other ds j (both (is_lt (before e.0 c.0)) (below_all before e.0 ds) b).1 (omega arith)

-- where no entry passes the test, none is kept
pub none_pass : (test : Pair → Bool) (es : List Pair) → ((k : ℕ) (d : Pair) → k < length es → test (get_or es k d) ≡ false) → filter test es ≡ []
none_pass test [] fails = refl
none_pass test (e ∷ es) fails =
    ap (λ (x : Bool). cond x (e ∷ filter test es) (filter test es)) (fails 0 e (omega arith))
    ∙ none_pass test es (λ k d l. fails (suc k) d (omega arith))

-- a path that p begins is p with some sides more
pub begun : (p q : List Side) → begins p q ≡ true → (r : List Side) × (q ≡ p ++ r)
begun [] q e = (q, refl)
begun (s ∷ p) [] e = absurd (true≢false (sym e))
begun (Ge ∷ p) (Ge ∷ q) e = let t = begun p q e in (t.0, ap (λ (x : List Side). Ge ∷ x) t.1)
begun (Ge ∷ p) (Lt ∷ q) e = absurd (true≢false (sym e))
begun (Lt ∷ p) (Ge ∷ q) e = absurd (true≢false (sym e))
begun (Lt ∷ p) (Lt ∷ q) e = let t = begun p q e in (t.0, ap (λ (x : List Side). Lt ∷ x) t.1)
