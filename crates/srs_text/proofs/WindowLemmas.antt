-- Parts of a buffer.
use Rattle.std.proofs.Common.{◌≡◌, ◌<◌, ◌≤◌, ◌+◌, ◌-◌, ◌++◌, ◌≢◌, [], ◌∷◌, List, ℕ, length, get_or, take, drop, replicate, sym, ap, ◌∙◌, arith, length-take, length-take-le, length-drop, zero-add}
use Rattle.std.specs.List.{slice_range, copy_within}
use Rattle.std.proofs.lemmas.List.{take-take, take-append-le, take_all, take_more, drop_at}
use Rattle.std.proofs.lemmas.List.Folds.{drop_split}
use Rattle.std.proofs.lemmas.List.Edits.{take-paste, get_or-between}
use Rattle.std.proofs.lemmas.List.Elements.{All-append}
use Rattle.std.proofs.lemmas.Slice.{between_is, between_from_start}
use Rattle.srs_text.specs.Line.{HasNoLf, IsLineOf}
use Rattle.srs_text.specs.Windows.{IsWindow}

-- a part is its front and what follows that
pub split : (xs : List ℕ) (a m e : ℕ) → a ≤ m → m ≤ e → slice_range xs a e ≡ slice_range xs a m ++ slice_range xs m e
split xs a m e low high =
    between_is xs a e
    ∙ drop_split (take e xs) a m low
    ∙ ap (λ l. l ++ drop m (take e xs)) (between_is (take e xs) a m ∙ ap (drop a) (take-take m e xs high) ∙ sym (between_is xs a m))
    ∙ ap (λ l. slice_range xs a m ++ l) (sym (between_is xs m e))

-- buffers with one front have the same parts there
pub same_part : (xs ys : List ℕ) (a e : ℕ) → take e xs ≡ take e ys → slice_range xs a e ≡ slice_range ys a e
same_part xs ys a e same = between_is xs a e ∙ ap (drop a) same ∙ sym (between_is ys a e)

-- buffers with one front have the same shorter fronts
pub same_front : (xs ys : List ℕ) (n m : ℕ) → n ≤ m → take m xs ≡ take m ys → take n xs ≡ take n ys
same_front xs ys n m le same = sym (take-take n m xs le) ∙ ap (take n) same ∙ take-take n m ys le

-- one byte is a part
one : (xs : List ℕ) (m : ℕ) → m < length xs → slice_range xs m (m + 1) ≡ get_or xs m 0 ∷ []
one xs m lt =
    between_is xs m (m + 1) ∙ ap (drop m) (take_more xs m 0 lt) ∙ drop_at (take m xs) (get_or xs m 0 ∷ []) m (length-take-le m xs (omega arith))

-- A part is a line, where an LF stands and none before it.
pub line_stands : (xs : List ℕ) (a m e at : ℕ) → a ≤ m → m ≤ e → e ≤ length xs → HasNoLf (slice_range xs a m) → at < length (slice_range xs m e)
    → get_or (slice_range xs m e) at 0 ≡ 10 → HasNoLf (take at (slice_range xs m e)) → length (slice_range xs m e) ≡ e - m
    → IsLineOf (slice_range xs a e) (slice_range xs a (m + at)) (slice_range xs (m + at + 1) e)
line_stands xs a m e at low high filled before short lf clear size =
    let here : m + at < e = omega arith in
    let byte : get_or xs (m + at) 0 ≡ 10 = sym (get_or-between xs m e at 0 here) ∙ lf in
    let clear_here : HasNoLf (slice_range xs m (m + at)) =
    let same : take at (slice_range xs m e) ≡ slice_range xs m (m + at) = take-take at (e - m) (drop m xs) (omega arith) ∙ ap (λ n. take n (drop m xs)) {y = m + at - m} (omega arith) in
    rw same at clear in
    record {
      whole =
          split xs a (m + at) e (omega arith) (omega arith)
          ∙ ap (λ l. slice_range xs a (m + at) ++ l) (split xs (m + at) (m + at + 1) e (omega arith) (omega arith) ∙ ap (λ l. l ++ slice_range xs (m + at + 1) e) (one xs (m + at) (omega arith) ∙ ap (λ x. x ∷ []) byte));
      plain = rw (split xs a m (m + at) low (omega arith)) (All-append (λ c. c ≢ 10) (slice_range xs a m) (slice_range xs m (m + at)) before clear_here);
    }

-- A part has no LF, where none of its two parts has.
pub clear_on : (xs : List ℕ) (a m e : ℕ) → a ≤ m → m ≤ e → HasNoLf (slice_range xs a m) → HasNoLf (slice_range xs m e) → HasNoLf (slice_range xs a e)
clear_on xs a m e low high p q = rw (split xs a m e low high) (All-append (λ c. c ≢ 10) (slice_range xs a m) (slice_range xs m e) p q)

-- what was moved to the front
pub moved : (xs : List ℕ) (a m e : ℕ) → a ≤ m → m ≤ e → e ≤ length xs → slice_range (copy_within xs a e 0) 0 (m - a) ≡ slice_range xs a m
moved xs a m e low high filled =
    let new = copy_within xs a e 0 in
    let front : take (e - a) new ≡ take (e - a) (drop a xs) =
    ap (λ n. take n new) (sym (zero-add (e - a))) ∙ take-paste xs 0 (drop a xs) (e - a) (omega arith) (omega (arith, length-drop a xs)) in
    between_from_start new (m - a) ∙ same_front new (drop a xs) (m - a) (e - a) (omega arith) front

-- the front of a buffer that grew
pub grown : (xs : List ℕ) (n k e : ℕ) → length xs ≤ n → e ≤ length xs → take e (take n xs ++ replicate k 0) ≡ take e xs
grown xs n k e longer filled = rw (take_all n xs longer) (take-append-le e xs (replicate k 0) filled)

-- bytes were written behind a part
pub behind : (old new : List ℕ) (a e n : ℕ) → a ≤ e → take e new ≡ take e old → slice_range new a (e + n) ≡ slice_range old a e ++ slice_range new e (e + n)
behind old new a e n low same = split new a e (e + n) low (omega arith) ∙ ap (λ l. l ++ slice_range new e (e + n)) (same_part new old a e same)

-- how long a part is
pub part_length : (xs : List ℕ) (e n : ℕ) → e + n ≤ length xs → length (slice_range xs e (e + n)) ≡ n
part_length xs e n within = omega (arith, length-take (e + n - e) (drop e xs), length-drop e xs)

-- a window, where bytes were written behind what it holds
pub window_grows : (old new : List ℕ) (line line_end start searched e f : ℕ) → IsWindow old line line_end start searched e → length new ≡ length old
    → take e new ≡ take e old → e ≤ f → f ≤ length new → IsWindow new line line_end start searched f
window_grows old new line line_end start searched e f w size same more within = record {
  line_is = w.line_is;
  given = omega (arith, w.given, size);
  some = omega (arith, w.some, size);
  begins = w.begins;
  goes_on = omega (arith, w.goes_on, more);
  filled = within;
  no_lf = rw (same_part new old start searched (same_front new old searched e w.goes_on same)) w.no_lf;
}

-- a window in which all was searched
pub window_searched : (xs : List ℕ) (line line_end start searched e : ℕ) → IsWindow xs line line_end start searched e → HasNoLf (slice_range xs searched e)
    → IsWindow xs line line_end start e e
window_searched xs line line_end start searched e w clear = record {
  line_is = w.line_is;
  given = w.given;
  some = w.some;
  begins = omega (arith, w.begins, w.goes_on);
  goes_on = omega arith;
  filled = w.filled;
  no_lf = clear_on xs start searched e w.begins w.goes_on w.no_lf clear;
}
