-- A line of what is said says one thing, and has no LF.
use Rattle.std.proofs.Common.{◌≡◌, ◌≢◌, ◌≤◌, ◌<◌, ◌+◌, ◌%◌, ◌/◌, ◌*◌, ◌^◌, ◌==◌, ◌++◌, ℕ, zero, suc, ℤ, pos, negsuc, unsigned_abs, Bool, true, false, cond, eqb, ltb, if◌then◌else◌, List, [], ◌∷◌, drop, get_or, length, codes, All, Option, Some, None, rules, refl, sym, ap, subst, ◌∙◌, arith, append_assoc, append-nil, decimal}
use Rattle.std.specs.Fmt.{digit_glyph, digits_onto, digits, signed_decimal}
use Rattle.std.proofs.lemmas.Fmt.{decimal_injective}
use Rattle.std.proofs.lemmas.List.{append_cancel_left}
use Rattle.std.proofs.lemmas.List.Elements.{All-nil, All-cons, All-head, All-tail, All-append}
use Rattle.srs_num.specs.Points.{Point as Place}
use Rattle.srs_map.specs.declared.orbits.OrbitEnd.{OrbitEnd}
use Rattle.srs_map.specs.declared.orbits.OrbitEnd.TheVariants.{Zero, Wide, Loop, Spent}
use Rattle.srs_path.specs.declared.outcomes.Why.{Why}
use Rattle.srs_path.specs.declared.outcomes.Why.TheVariants.{Cycle as CycleFails, Witness as WitnessFails}
use Rattle.srs_path.specs.declared.outcomes.Cause.{Cause}
use Rattle.srs_path.specs.declared.outcomes.Cause.TheVariants.{Depth, Cells, Thin, Memory}
use Rattle.srs_tree.specs.declared.answers.Reply.{Reply}
use Rattle.srs_tree.specs.declared.answers.Reply.TheVariants.{Inside, Outside, Undecided, Beyond}
use Rattle.srs_tree.specs.declared.answers.Met.{Met}
use Rattle.srs_tree.specs.declared.queries.Said.{Said}
use Rattle.srs_tree.specs.declared.queries.Said.TheVariants.{At, Version, Point, Count, Polygon, Orbit}
use Rattle.srs_text.specs.Line.{HasNoLf}
use Rattle.srs_line.specs.Fields.{line_of}
use Rattle.srs_line.proofs.TokenLemmas.{HasNoSpace}
use Rattle.srs_line.proofs.LineTexts.{rest_of}
use Rattle.srs_cert.specs.Texts.{ended, cause_text}
use Rattle.srs_cert.specs.Sayings.{open_text, reply_text, place_numbers, place_text, word_if, said_text, reply_numbers, said_numbers, AreShort, IsSayable}
use Rattle.srs_file.proofs.LineShapes.{IsPlainWord, clear_no_lf}

-- of a number with more than 64 digits, the text is that of the last 64: it is known by its text
-- only below 10 ^ 64
alike : decimal (10 ^ 64 + 5) ≡ decimal (2 * 10 ^ 64 + 5)
unfolding digits
alike = refl

pub tail_once : (x y : ℕ) (xs ys : List ℕ) → x ∷ xs ≡ y ∷ ys → xs ≡ ys
tail_once x y xs ys e = cc

pub heads_differ : (x y : ℕ) (xs ys : List ℕ) → x ∷ xs ≡ y ∷ ys → x ≢ y → ⊥
heads_differ x y xs ys e ne = ne (cc)

-- the digits of a number, whatever the number
abbrev AreDigitBytes : List ℕ → Type 0
AreDigitBytes xs = All (λ c. 48 ≤ c) xs

digit_high : (d : ℕ) (b : Bool) → 48 ≤ cond b (48 + d) (87 + d)
digit_high d true = omega arith
digit_high d false = omega arith

one_of : (b : Bool) (xs ys : List ℕ) → AreDigitBytes xs → AreDigitBytes ys
    → AreDigitBytes (cond b xs ys)
one_of true xs ys p q = p
one_of false xs ys p q = q

onto_digits : (k n : ℕ) (acc : List ℕ) → AreDigitBytes acc
    → AreDigitBytes (digits_onto k 10 false n acc)
onto_digits zero n acc p = p
onto_digits (suc k) n acc p =
    let more : AreDigitBytes (digit_glyph false (n % 10) ∷ acc) =
    All-cons (λ c. 48 ≤ c) (digit_glyph false (n % 10)) acc
    (digit_high (n % 10) (ltb (n % 10) 10)) p in
    one_of (eqb (n / 10) 0) (digit_glyph false (n % 10) ∷ acc)
    (digits_onto k 10 false (n / 10) (digit_glyph false (n % 10) ∷ acc)) more
    (onto_digits k (n / 10) (digit_glyph false (n % 10) ∷ acc) more)

decimal_digits : (n : ℕ) → AreDigitBytes (decimal n)
unfolding digits
decimal_digits n = onto_digits 64 n [] (All-nil (λ c. 48 ≤ c))

decimal_plain : (n : ℕ) → IsPlainWord (decimal n)
decimal_plain n = λ k d lt. let high : 48 ≤ get_or (decimal n) k d = decimal_digits n k d lt in
    omega arith

signed_plain : (z : ℤ) → IsPlainWord (signed_decimal z)
signed_plain (pos n) = decimal_plain n
signed_plain (negsuc n) =
    All-cons (λ c. 32 < c) 45 (decimal (suc n)) (omega arith) (decimal_plain (suc n))

plain_no_lf : (xs : List ℕ) → IsPlainWord xs → HasNoLf xs
plain_no_lf xs p = λ k d lt. let high : 32 < get_or xs k d = p k d lt in omega arith

plain_no_space : (xs : List ℕ) → IsPlainWord xs → HasNoSpace xs
plain_no_space xs p = λ k d lt. let high : 32 < get_or xs k d = p k d lt in omega arith

rest_no_lf : (zs : List ℤ) → HasNoLf (rest_of zs)
rest_no_lf [] = All-nil (λ c. c ≢ 10)
rest_no_lf (z ∷ zs) =
    All-cons (λ c. c ≢ 10) 32 (signed_decimal z ++ rest_of zs) (omega arith)
    (All-append (λ c. c ≢ 10) (signed_decimal z) (rest_of zs)
    (plain_no_lf (signed_decimal z) (signed_plain z)) (rest_no_lf zs))

-- a line of a word and numbers has no LF, whatever the numbers
pub numbers_no_lf : (word : List ℕ) (zs : List ℤ) → HasNoLf word → HasNoLf (line_of word zs)
numbers_no_lf word zs h = All-append (λ c. c ≢ 10) word (rest_of zs) h (rest_no_lf zs)

-- a number of at most 64 bits has one text
no_minus : (n : ℕ) (ds : List ℕ) → decimal n ≡ 45 ∷ ds → ⊥
no_minus n ds e = let digits = subst AreDigitBytes e (decimal_digits n) in
    omega (arith, All-head (λ c. 48 ≤ c) 45 ds digits)

signed_once : (y z : ℤ) → unsigned_abs y < 2 ^ 64 → unsigned_abs z < 2 ^ 64
    → signed_decimal y ≡ signed_decimal z → y ≡ z
signed_once (pos m) (pos n) p q e = ap pos (decimal_injective m n p q e)
signed_once (pos m) (negsuc n) p q e = absurd (no_minus m (decimal (suc n)) e)
signed_once (negsuc m) (pos n) p q e = absurd (no_minus n (decimal (suc m)) (sym e))
signed_once (negsuc m) (negsuc n) p q e =
    let same : suc m ≡ suc n =
    decimal_injective (suc m) (suc n) p q
    (tail_once 45 45 (decimal (suc m)) (decimal (suc n)) e) in
    let less : m ≡ n = omega (arith, same) in ap negsuc less

-- nothing, or what begins with a space
abbrev IsSpaced : List ℕ → Type 0
IsSpaced [] = Unit {0}
IsSpaced (x ∷ xs) = x ≡ 32

cut_once : (xs ys a b : List ℕ) → HasNoSpace xs → HasNoSpace ys → IsSpaced a → IsSpaced b
    → xs ++ a ≡ ys ++ b → (xs ≡ ys) × (a ≡ b)
cut_once [] [] a b p q f g e = (refl, e)
cut_once [] (y ∷ ys) [] b p q f g e = absurd (cc)
cut_once [] (y ∷ ys) (x ∷ a) b p q f g e = let same : x ≡ y = cc in
    absurd (All-head (λ c. c ≢ 32) y ys q (sym same ∙ f))
cut_once (x ∷ xs) [] a [] p q f g e = absurd (cc)
cut_once (x ∷ xs) [] a (y ∷ b) p q f g e = let same : x ≡ y = cc in
    absurd (All-head (λ c. c ≢ 32) x xs p (same ∙ g))
cut_once (x ∷ xs) (y ∷ ys) a b p q f g e =
    let r = cut_once xs ys a b (All-tail (λ c. c ≢ 32) x xs p) (All-tail (λ c. c ≢ 32) y ys q) f g
    (tail_once x y (xs ++ a) (ys ++ b) e) in
    let head : x ≡ y = cc in
    (rw (head, r.0) refl, r.1)

rest_spaced : (zs : List ℤ) (a : List ℕ) → IsSpaced a → IsSpaced (rest_of zs ++ a)
rest_spaced [] a s = s
rest_spaced (z ∷ zs) a s = refl

first_number : (y z : ℤ) (ys zs : List ℤ) (a b : List ℕ) → unsigned_abs y < 2 ^ 64
    → unsigned_abs z < 2 ^ 64 → IsSpaced a → IsSpaced b
    → rest_of (y ∷ ys) ++ a ≡ rest_of (z ∷ zs) ++ b
    → (y ≡ z) × (rest_of ys ++ a ≡ rest_of zs ++ b)
first_number y z ys zs a b p q f g e =
    let later : signed_decimal y ++ (rest_of ys ++ a) ≡ signed_decimal z ++ (rest_of zs ++ b) =
    sym (append_assoc (signed_decimal y) (rest_of ys) a) ∙ tail_once 32 32 _ _ e
    ∙ append_assoc (signed_decimal z) (rest_of zs) b in
    let both = cut_once (signed_decimal y) (signed_decimal z) (rest_of ys ++ a) (rest_of zs ++ b)
    (plain_no_space (signed_decimal y) (signed_plain y))
    (plain_no_space (signed_decimal z) (signed_plain z)) (rest_spaced ys a f)
    (rest_spaced zs b g) later in
    (signed_once y z p q both.0, both.1)

-- as many numbers are determined, and what follows them
rests_once : (ys zs : List ℤ) (a b : List ℕ) → length ys ≡ length zs → AreShort ys → AreShort zs
    → IsSpaced a → IsSpaced b → rest_of ys ++ a ≡ rest_of zs ++ b → (ys ≡ zs) × (a ≡ b)
rests_once [] [] a b n p q f g e = (refl, e)
rests_once [] (z ∷ zs) a b n p q f g e = absurd (omega (arith, n))
rests_once (y ∷ ys) [] a b n p q f g e = absurd (omega (arith, n))
rests_once (y ∷ ys) (z ∷ zs) a b n p q f g e =
    let one = first_number y z ys zs a b (All-head (λ x. unsigned_abs x < 2 ^ 64) y ys p)
    (All-head (λ x. unsigned_abs x < 2 ^ 64) z zs q) f g e in
    let more = rests_once ys zs a b (omega (arith, n))
    (All-tail (λ x. unsigned_abs x < 2 ^ 64) y ys p)
    (All-tail (λ x. unsigned_abs x < 2 ^ 64) z zs q) f g one.1 in
    (rw (one.0, more.0) refl, more.1)

rest_once : (ys zs : List ℤ) → AreShort ys → AreShort zs → rest_of ys ≡ rest_of zs → ys ≡ zs
rest_once [] [] p q e = refl
rest_once [] (z ∷ zs) p q e = absurd (cc)
rest_once (y ∷ ys) [] p q e = absurd (cc)
rest_once (y ∷ ys) (z ∷ zs) p q e =
    let all : rest_of (y ∷ ys) ++ [] ≡ rest_of (z ∷ zs) ++ [] = ap (λ x. x ++ []) e in
    let one = first_number y z ys zs [] [] (All-head (λ x. unsigned_abs x < 2 ^ 64) y ys p)
    (All-head (λ x. unsigned_abs x < 2 ^ 64) z zs q) tt tt all in
    let later : rest_of ys ≡ rest_of zs = sym (append-nil (rest_of ys)) ∙ one.1
    ∙ append-nil (rest_of zs) in
    let more = rest_once ys zs (All-tail (λ x. unsigned_abs x < 2 ^ 64) y ys p)
    (All-tail (λ x. unsigned_abs x < 2 ^ 64) z zs q) later in
    rw (one.0, more) refl

-- behind a word, the numbers of a line are determined
pub numbers_once : (word : List ℕ) (ys zs : List ℤ) → AreShort ys → AreShort zs
    → line_of word ys ≡ line_of word zs → ys ≡ zs
numbers_once word ys zs p q e =
    rest_once ys zs p q (append_cancel_left word (rest_of ys) (rest_of zs) e)

one_number : (m n : ℕ) → pos m ∷ [] ≡ pos n ∷ [] → m ≡ n
one_number m n e = cc

pub count_once : (word : List ℕ) (m n : ℕ) → AreShort (pos m ∷ []) → AreShort (pos n ∷ [])
    → line_of word (pos m ∷ []) ≡ line_of word (pos n ∷ []) → m ≡ n
count_once word m n p q e = one_number m n (numbers_once word (pos m ∷ []) (pos n ∷ []) p q e)

-- the cause that a text says, by its first and its seventh byte
abbrev why_of : ℕ → Why
why_of n = if n == 99 then CycleFails else WitnessFails

abbrev cause_of : ℕ → ℕ → Cause
cause_of first seventh =
    if first == 100 then Depth (why_of seventh) else
    (if first == 99 then Cells (why_of seventh) else (if first == 116 then Thin else Memory))

abbrev cause_at : List ℕ → Cause
cause_at text = cause_of (get_or text 0 0) (get_or text 6 0)

cause_back : (cause : Cause) → cause_at (cause_text cause) ≡ cause
cause_back (Depth CycleFails) = refl
cause_back (Depth WitnessFails) = refl
cause_back (Cells CycleFails) = refl
cause_back (Cells WitnessFails) = refl
cause_back Thin = refl
cause_back Memory = refl

cause_once : (c d : Cause) → cause_text c ≡ cause_text d → c ≡ d
cause_once c d e = sym (cause_back c) ∙ ap cause_at e ∙ cause_back d

heads_none : (xs : List ℕ) → [] ≡ 32 ∷ xs → ⊥
heads_none xs e = cc

open_once : (c d : Option Cause) → open_text c ≡ open_text d → c ≡ d
open_once None None e = refl
open_once None (Some d) e = absurd (heads_none (cause_text d) (ap (drop 4) e))
open_once (Some c) None e = absurd (heads_none (cause_text c) (ap (drop 4) (sym e)))
open_once (Some c) (Some d) e = ap (λ (x : Cause). Some x) (cause_once c d (ap (drop 5) e))

same_tail : (x y : ℤ) (xs ys : List ℤ) → x ∷ xs ≡ y ∷ ys → xs ≡ ys
same_tail x y xs ys e = cc

reply_once : (x y : Reply) → AreShort (reply_numbers x) → AreShort (reply_numbers y)
    → reply_text x ≡ reply_text y → x ≡ y
reply_once Inside Inside p q e = refl
reply_once Inside (Outside c) p q e = absurd (heads_differ 105 111 _ _ e (omega arith))
reply_once Inside (Undecided None) p q e = absurd (heads_differ 105 111 _ _ e (omega arith))
reply_once Inside (Undecided (Some d)) p q e = absurd (heads_differ 105 111 _ _ e (omega arith))
reply_once Inside Beyond p q e = absurd (heads_differ 105 98 _ _ e (omega arith))
reply_once (Outside b) Inside p q e = absurd (heads_differ 111 105 _ _ e (omega arith))
reply_once (Outside b) (Outside c) p q e =
    ap Outside (same_tail (pos (length b)) (pos (length c)) b c
    (numbers_once (codes "out") (pos (length b) ∷ b) (pos (length c) ∷ c) p q e))
reply_once (Outside b) (Undecided None) p q e =
    absurd (heads_differ 117 112 _ _ (ap (drop 1) e) (omega arith))
reply_once (Outside b) (Undecided (Some d)) p q e =
    absurd (heads_differ 117 112 _ _ (ap (drop 1) e) (omega arith))
reply_once (Outside b) Beyond p q e = absurd (heads_differ 111 98 _ _ e (omega arith))
reply_once (Undecided None) Inside p q e = absurd (heads_differ 111 105 _ _ e (omega arith))
reply_once (Undecided (Some d)) Inside p q e = absurd (heads_differ 111 105 _ _ e (omega arith))
reply_once (Undecided None) (Outside c) p q e =
    absurd (heads_differ 112 117 _ _ (ap (drop 1) e) (omega arith))
reply_once (Undecided (Some d)) (Outside c) p q e =
    absurd (heads_differ 112 117 _ _ (ap (drop 1) e) (omega arith))
reply_once (Undecided c) (Undecided d) p q e = ap Undecided (open_once c d e)
reply_once (Undecided None) Beyond p q e = absurd (heads_differ 111 98 _ _ e (omega arith))
reply_once (Undecided (Some d)) Beyond p q e = absurd (heads_differ 111 98 _ _ e (omega arith))
reply_once Beyond Inside p q e = absurd (heads_differ 98 105 _ _ e (omega arith))
reply_once Beyond (Outside c) p q e = absurd (heads_differ 98 111 _ _ e (omega arith))
reply_once Beyond (Undecided None) p q e = absurd (heads_differ 98 111 _ _ e (omega arith))
reply_once Beyond (Undecided (Some d)) p q e = absurd (heads_differ 98 111 _ _ e (omega arith))
reply_once Beyond Beyond p q e = refl

-- the kinds of answers that a line of a polygon names, by bytes that stand in one of the words
-- alone
abbrev has_byte : ℕ → List ℕ → Bool
has_byte c [] = false
has_byte c (x ∷ xs) = if x == c then true else has_byte c xs

abbrev met_line : Met → List ℕ
met_line m = codes "region" ++ word_if m.inside (codes "in") ++ word_if m.outside
    (codes "out") ++ word_if m.undecided (codes "open") ++ word_if m.beyond (codes "beyond")

abbrev met_at : List ℕ → Met
met_at line = record {
  inside = has_byte 105 (drop 6 line);
  outside = has_byte 117 line;
  undecided = has_byte 112 line;
  beyond = has_byte 98 line;
}

met_of : (inside outside undecided beyond : Bool)
    → let m : Met =
    record { inside = inside; outside = outside; undecided = undecided; beyond = beyond } in
    met_at (met_line m) ≡ m
met_of true true true true = refl
met_of true true true false = refl
met_of true true false true = refl
met_of true true false false = refl
met_of true false true true = refl
met_of true false true false = refl
met_of true false false true = refl
met_of true false false false = refl
met_of false true true true = refl
met_of false true true false = refl
met_of false true false true = refl
met_of false true false false = refl
met_of false false true true = refl
met_of false false true false = refl
met_of false false false true = refl
met_of false false false false = refl

met_once : (m n : Met) → met_line m ≡ met_line n → m ≡ n
met_once m n e = sym (met_of m.inside m.outside m.undecided m.beyond) ∙ ap met_at e
    ∙ met_of n.inside n.outside n.undecided n.beyond

-- the line of how an orbit ended
abbrev orbit_line_of : OrbitEnd → List ℕ
orbit_line_of (Zero k) = line_of (codes "orbit zero") (pos k ∷ [])
orbit_line_of (Wide k) = line_of (codes "orbit wide") (pos k ∷ [])
orbit_line_of (Loop j l) = line_of (codes "orbit loop") (pos j ∷ pos l ∷ [])
orbit_line_of Spent = codes "orbit spent"

two_numbers : (i j k l : ℕ) → pos i ∷ pos j ∷ [] ≡ pos k ∷ pos l ∷ [] → (i ≡ k) × (j ≡ l)
two_numbers i j k l e = (cc, cc)

orbit_once : (x y : OrbitEnd) → AreShort (said_numbers (Orbit x))
    → AreShort (said_numbers (Orbit y)) → orbit_line_of x ≡ orbit_line_of y → x ≡ y
orbit_once (Zero i) (Zero k) p q e = ap Zero (count_once (codes "orbit zero") i k p q e)
orbit_once (Zero i) (Wide k) p q e = absurd (heads_differ 122 119 _ _ (ap (drop 6) e) (omega arith))
orbit_once (Zero i) (Loop k l) p q e =
    absurd (heads_differ 122 108 _ _ (ap (drop 6) e) (omega arith))
orbit_once (Zero i) Spent p q e = absurd (heads_differ 122 115 _ _ (ap (drop 6) e) (omega arith))
orbit_once (Wide i) (Zero k) p q e = absurd (heads_differ 119 122 _ _ (ap (drop 6) e) (omega arith))
orbit_once (Wide i) (Wide k) p q e = ap Wide (count_once (codes "orbit wide") i k p q e)
orbit_once (Wide i) (Loop k l) p q e =
    absurd (heads_differ 119 108 _ _ (ap (drop 6) e) (omega arith))
orbit_once (Wide i) Spent p q e = absurd (heads_differ 119 115 _ _ (ap (drop 6) e) (omega arith))
orbit_once (Loop i j) (Zero k) p q e =
    absurd (heads_differ 108 122 _ _ (ap (drop 6) e) (omega arith))
orbit_once (Loop i j) (Wide k) p q e =
    absurd (heads_differ 108 119 _ _ (ap (drop 6) e) (omega arith))
orbit_once (Loop i j) (Loop k l) p q e =
    let same = two_numbers i j k l
    (numbers_once (codes "orbit loop") (pos i ∷ pos j ∷ []) (pos k ∷ pos l ∷ []) p q e) in
    rw (same.0, same.1) refl
orbit_once (Loop i j) Spent p q e = absurd (heads_differ 108 115 _ _ (ap (drop 6) e) (omega arith))
orbit_once Spent (Zero k) p q e = absurd (heads_differ 115 122 _ _ (ap (drop 6) e) (omega arith))
orbit_once Spent (Wide k) p q e = absurd (heads_differ 115 119 _ _ (ap (drop 6) e) (omega arith))
orbit_once Spent (Loop k l) p q e = absurd (heads_differ 115 108 _ _ (ap (drop 6) e) (omega arith))
orbit_once Spent Spent p q e = refl

-- the line of what is said
abbrev pub said_line : Said → List ℕ
said_line (At round) = line_of (codes "at") (pos round ∷ [])
said_line (Version v) = line_of (codes "version") (pos v ∷ [])
said_line (Point r reply) = place_text r ++ 32 ∷ reply_text reply
said_line (Count n) = line_of (codes "count") (pos n ∷ [])
said_line (Polygon met) = met_line met
said_line (Orbit end) = orbit_line_of end

orbit_is : (end : OrbitEnd) → said_text (Orbit end) ≡ ended (orbit_line_of end)
orbit_is (Zero k) = refl
orbit_is (Wide k) = refl
orbit_is (Loop j l) = refl
orbit_is Spent = refl

pub said_is_line : (said : Said) → said_text said ≡ ended (said_line said)
said_is_line (At round) = refl
said_is_line (Version v) = refl
said_is_line (Point r reply) = refl
said_is_line (Count n) = refl
said_is_line (Polygon met) = refl
said_is_line (Orbit end) = orbit_is end

same_parts : (a b c x y z : ℤ) → a ≡ x → b ≡ y → c ≡ z
    → let r : Place = record { p = a; q = b; d = c } in
    let s : Place = record { p = x; q = y; d = z } in r ≡ s
same_parts a b c x y z e f g = rw (e, f, g) refl

short_front : (ys zs : List ℤ) → AreShort (ys ++ zs) → AreShort ys
short_front [] zs p = All-nil (λ x. unsigned_abs x < 2 ^ 64)
short_front (y ∷ ys) zs p =
    All-cons (λ x. unsigned_abs x < 2 ^ 64) y ys
    (All-head (λ x. unsigned_abs x < 2 ^ 64) y (ys ++ zs) p)
    (short_front ys zs (All-tail (λ x. unsigned_abs x < 2 ^ 64) y (ys ++ zs) p))

short_back : (ys zs : List ℤ) → AreShort (ys ++ zs) → AreShort zs
short_back [] zs p = p
short_back (y ∷ ys) zs p = short_back ys zs (All-tail (λ x. unsigned_abs x < 2 ^ 64) y (ys ++ zs) p)

place_once : (r s : Place) → place_numbers r ≡ place_numbers s → r ≡ s
place_once r s e = let one : r.p ≡ s.p = cc in let two : r.q ≡ s.q = cc in
    let three : r.d ≡ s.d = cc in same_parts r.p r.q r.d s.p s.q s.d one two three

point_once : (r s : Place) (x y : Reply) → AreShort (said_numbers (Point r x))
    → AreShort (said_numbers (Point s y)) → said_line (Point r x) ≡ said_line (Point s y) → (r ≡ s)
    × (x ≡ y)
point_once r s x y p q e =
    let word = codes "point" in
    let later : rest_of (place_numbers r) ++ 32 ∷ reply_text x ≡ rest_of
    (place_numbers s) ++ 32 ∷ reply_text y =
    append_cancel_left word (rest_of (place_numbers r) ++ 32 ∷ reply_text x)
    (rest_of (place_numbers s) ++ 32 ∷ reply_text y)
    (sym (append_assoc word (rest_of (place_numbers r)) (32 ∷ reply_text x)) ∙ e
    ∙ append_assoc word (rest_of (place_numbers s)) (32 ∷ reply_text y)) in
    let both = rests_once (place_numbers r) (place_numbers s) (32 ∷ reply_text x)
    (32 ∷ reply_text y) refl (short_front (place_numbers r) (reply_numbers x) p)
    (short_front (place_numbers s) (reply_numbers y) q) refl refl later in (
      place_once r s both.0,
      reply_once x y (short_back (place_numbers r) (reply_numbers x) p)
          (short_back (place_numbers s) (reply_numbers y) q)
          (tail_once 32 32 (reply_text x) (reply_text y) both.1),
    )

-- the first byte of a line, by which its kind is told
abbrev kind_byte : Said → ℕ
kind_byte (At round) = 97
kind_byte (Version v) = 118
kind_byte (Point r reply) = 112
kind_byte (Count n) = 99
kind_byte (Polygon met) = 114
kind_byte (Orbit end) = 111

orbit_first : (end : OrbitEnd) → get_or (orbit_line_of end) 0 0 ≡ 111
orbit_first (Zero k) = refl
orbit_first (Wide k) = refl
orbit_first (Loop j l) = refl
orbit_first Spent = refl

first_byte : (said : Said) → get_or (said_line said) 0 0 ≡ kind_byte said
first_byte (At round) = refl
first_byte (Version v) = refl
first_byte (Point r reply) = refl
first_byte (Count n) = refl
first_byte (Polygon met) = refl
first_byte (Orbit end) = orbit_first end

same_kind : (s t : Said) → said_line s ≡ said_line t → kind_byte s ≡ kind_byte t
same_kind s t e = sym (first_byte s) ∙ ap (λ (x : List ℕ). get_or x 0 0) e ∙ first_byte t

-- a line of what is said says one thing
pub said_once : (s t : Said) → IsSayable s → IsSayable t → said_line s ≡ said_line t → s ≡ t
said_once (At i) (At k) p q e = ap At (count_once (codes "at") i k p q e)
said_once (At i) (Version k) p q e = absurd (omega (arith, same_kind (At i) (Version k) e))
said_once (At i) (Point k l) p q e = absurd (omega (arith, same_kind (At i) (Point k l) e))
said_once (At i) (Count k) p q e = absurd (omega (arith, same_kind (At i) (Count k) e))
said_once (At i) (Polygon k) p q e = absurd (omega (arith, same_kind (At i) (Polygon k) e))
said_once (At i) (Orbit k) p q e = absurd (omega (arith, same_kind (At i) (Orbit k) e))
said_once (Version i) (At k) p q e = absurd (omega (arith, same_kind (Version i) (At k) e))
said_once (Version i) (Version k) p q e = ap Version (count_once (codes "version") i k p q e)
said_once (Version i) (Point k l) p q e =
    absurd (omega (arith, same_kind (Version i) (Point k l) e))
said_once (Version i) (Count k) p q e = absurd (omega (arith, same_kind (Version i) (Count k) e))
said_once (Version i) (Polygon k) p q e =
    absurd (omega (arith, same_kind (Version i) (Polygon k) e))
said_once (Version i) (Orbit k) p q e = absurd (omega (arith, same_kind (Version i) (Orbit k) e))
said_once (Point i j) (At k) p q e = absurd (omega (arith, same_kind (Point i j) (At k) e))
said_once (Point i j) (Version k) p q e =
    absurd (omega (arith, same_kind (Point i j) (Version k) e))
said_once (Point i j) (Point k l) p q e = let same = point_once i k j l p q e in
    rw (same.0, same.1) refl
said_once (Point i j) (Count k) p q e = absurd (omega (arith, same_kind (Point i j) (Count k) e))
said_once (Point i j) (Polygon k) p q e =
    absurd (omega (arith, same_kind (Point i j) (Polygon k) e))
said_once (Point i j) (Orbit k) p q e = absurd (omega (arith, same_kind (Point i j) (Orbit k) e))
said_once (Count i) (At k) p q e = absurd (omega (arith, same_kind (Count i) (At k) e))
said_once (Count i) (Version k) p q e = absurd (omega (arith, same_kind (Count i) (Version k) e))
said_once (Count i) (Point k l) p q e = absurd (omega (arith, same_kind (Count i) (Point k l) e))
said_once (Count i) (Count k) p q e = ap Count (count_once (codes "count") i k p q e)
said_once (Count i) (Polygon k) p q e = absurd (omega (arith, same_kind (Count i) (Polygon k) e))
said_once (Count i) (Orbit k) p q e = absurd (omega (arith, same_kind (Count i) (Orbit k) e))
said_once (Polygon i) (At k) p q e = absurd (omega (arith, same_kind (Polygon i) (At k) e))
said_once (Polygon i) (Version k) p q e =
    absurd (omega (arith, same_kind (Polygon i) (Version k) e))
said_once (Polygon i) (Point k l) p q e =
    absurd (omega (arith, same_kind (Polygon i) (Point k l) e))
said_once (Polygon i) (Count k) p q e = absurd (omega (arith, same_kind (Polygon i) (Count k) e))
said_once (Polygon i) (Polygon k) p q e = ap Polygon (met_once i k e)
said_once (Polygon i) (Orbit k) p q e = absurd (omega (arith, same_kind (Polygon i) (Orbit k) e))
said_once (Orbit i) (At k) p q e = absurd (omega (arith, same_kind (Orbit i) (At k) e))
said_once (Orbit i) (Version k) p q e = absurd (omega (arith, same_kind (Orbit i) (Version k) e))
said_once (Orbit i) (Point k l) p q e = absurd (omega (arith, same_kind (Orbit i) (Point k l) e))
said_once (Orbit i) (Count k) p q e = absurd (omega (arith, same_kind (Orbit i) (Count k) e))
said_once (Orbit i) (Polygon k) p q e = absurd (omega (arith, same_kind (Orbit i) (Polygon k) e))
said_once (Orbit i) (Orbit k) p q e = ap Orbit (orbit_once i k p q e)

other_byte : (said : Said) (c : ℕ) → kind_byte said ≡ c → c ≢ 97 → c ≢ 118 → c ≢ 112 → c ≢ 99
    → c ≢ 114 → c ≢ 111 → ⊥
other_byte (At i) c e a v p n r o = a (sym e)
other_byte (Version i) c e a v p n r o = v (sym e)
other_byte (Point i j) c e a v p n r o = p (sym e)
other_byte (Count i) c e a v p n r o = n (sym e)
other_byte (Polygon i) c e a v p n r o = r (sym e)
other_byte (Orbit i) c e a v p n r o = o (sym e)

-- the line of what is said is neither that of a session nor `end`
pub no_session_line : (said : Said) (n : ℕ)
    → said_line said ≡ line_of (codes "session") (pos n ∷ []) → ⊥
no_session_line said n e =
    other_byte said 115 (sym (first_byte said) ∙ ap (λ (x : List ℕ). get_or x 0 0) e)
    (λ f. omega (arith, f)) (λ f. omega (arith, f)) (λ f. omega (arith, f)) (λ f. omega (arith, f))
    (λ f. omega (arith, f)) (λ f. omega (arith, f))

pub no_end_line : (said : Said) → said_line said ≡ codes "end" → ⊥
no_end_line said e =
    other_byte said 101 (sym (first_byte said) ∙ ap (λ (x : List ℕ). get_or x 0 0) e)
    (λ f. omega (arith, f)) (λ f. omega (arith, f)) (λ f. omega (arith, f)) (λ f. omega (arith, f))
    (λ f. omega (arith, f)) (λ f. omega (arith, f))

-- no line of what is said has an LF
word_no_lf : (met : Bool) (word : List ℕ) → HasNoLf word → HasNoLf (word_if met word)
word_no_lf true word h = All-cons (λ c. c ≢ 10) 32 word (omega arith) h
word_no_lf false word h = All-nil (λ c. c ≢ 10)

met_no_lf : (m : Met) → HasNoLf (met_line m)
met_no_lf m =
    let inside = word_if m.inside (codes "in") in
    let outside = word_if m.outside (codes "out") in
    let undecided = word_if m.undecided (codes "open") in
    let beyond = word_if m.beyond (codes "beyond") in
    let a = word_no_lf m.inside (codes "in") (clear_no_lf (codes "in") (search rules)) in
    let b = word_no_lf m.outside (codes "out") (clear_no_lf (codes "out") (search rules)) in
    let c = word_no_lf m.undecided (codes "open") (clear_no_lf (codes "open") (search rules)) in
    let d = word_no_lf m.beyond (codes "beyond") (clear_no_lf (codes "beyond") (search rules)) in
    let region = clear_no_lf (codes "region") (search rules) in
    let first = All-append (λ x. x ≢ 10) (codes "region") inside region a in
    let second = All-append (λ x. x ≢ 10) (codes "region" ++ inside) outside first b in
    let third = All-append (λ x. x ≢ 10) (codes "region" ++ inside ++ outside) undecided second c in
    All-append (λ x. x ≢ 10) (codes "region" ++ inside ++ outside ++ undecided) beyond third d

cause_no_lf : (cause : Cause) → HasNoLf (cause_text cause)
cause_no_lf (Depth CycleFails) = clear_no_lf (cause_text (Depth CycleFails)) (search rules)
cause_no_lf (Depth WitnessFails) = clear_no_lf (cause_text (Depth WitnessFails)) (search rules)
cause_no_lf (Cells CycleFails) = clear_no_lf (cause_text (Cells CycleFails)) (search rules)
cause_no_lf (Cells WitnessFails) = clear_no_lf (cause_text (Cells WitnessFails)) (search rules)
cause_no_lf Thin = clear_no_lf (cause_text Thin) (search rules)
cause_no_lf Memory = clear_no_lf (cause_text Memory) (search rules)

reply_no_lf : (reply : Reply) → HasNoLf (reply_text reply)
reply_no_lf Inside = clear_no_lf (codes "in") (search rules)
reply_no_lf (Outside cycle) =
    numbers_no_lf (codes "out") (pos (length cycle) ∷ cycle)
    (clear_no_lf (codes "out") (search rules))
reply_no_lf (Undecided None) = clear_no_lf (codes "open") (search rules)
reply_no_lf (Undecided (Some cause)) =
    All-append (λ x. x ≢ 10) (codes "open ") (cause_text cause)
    (clear_no_lf (codes "open ") (search rules)) (cause_no_lf cause)
reply_no_lf Beyond = clear_no_lf (codes "beyond") (search rules)

orbit_no_lf : (end : OrbitEnd) → HasNoLf (orbit_line_of end)
orbit_no_lf (Zero k) =
    numbers_no_lf (codes "orbit zero") (pos k ∷ [])
    (clear_no_lf (codes "orbit zero") (search rules))
orbit_no_lf (Wide k) =
    numbers_no_lf (codes "orbit wide") (pos k ∷ [])
    (clear_no_lf (codes "orbit wide") (search rules))
orbit_no_lf (Loop j l) =
    numbers_no_lf (codes "orbit loop") (pos j ∷ pos l ∷ [])
    (clear_no_lf (codes "orbit loop") (search rules))
orbit_no_lf Spent = clear_no_lf (codes "orbit spent") (search rules)

pub said_no_lf : (said : Said) → HasNoLf (said_line said)
said_no_lf (At round) =
    numbers_no_lf (codes "at") (pos round ∷ []) (clear_no_lf (codes "at") (search rules))
said_no_lf (Version v) =
    numbers_no_lf (codes "version") (pos v ∷ []) (clear_no_lf (codes "version") (search rules))
said_no_lf (Point r reply) =
    All-append (λ x. x ≢ 10) (place_text r) (32 ∷ reply_text reply)
    (numbers_no_lf (codes "point") (place_numbers r)
    (clear_no_lf (codes "point") (search rules)))
    (All-cons (λ x. x ≢ 10) 32 (reply_text reply) (omega arith) (reply_no_lf reply))
said_no_lf (Count n) =
    numbers_no_lf (codes "count") (pos n ∷ []) (clear_no_lf (codes "count") (search rules))
said_no_lf (Polygon met) = met_no_lf met
said_no_lf (Orbit end) = orbit_no_lf end
