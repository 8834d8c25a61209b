-- Whether a line is a word and numbers can be told: it says them, or it has a slip.
use Rattle.std.proofs.Common.{◌≡◌, ◌⊎◌, ◌≤◌, ◌<◌, ◌^◌, ℕ, ℤ, pos, negsuc, neg_ℤ, List, [], ◌∷◌, length, get_or, FitsSigned, refl, sym, ◌∙◌, inl, inr, arith}
use Rattle.std.specs.Int.{w64}
use Rattle.std.proofs.lemmas.Int.{ints}
use Rattle.std.proofs.lemmas.Bool.Decides.{eqb_tells, leb_tells}
use Rattle.srs_text.specs.Spelling.{AreDigits, IsPositive, value_after, SpellsNegative, Spells, IsNumber}
use Rattle.srs_line.specs.declared.slip.Slip.{Slip}
use Rattle.srs_line.specs.declared.slip.Slip.TheVariants.{Word, Number}
use Rattle.srs_line.specs.Fields.{tokens, AreNumbers, Says, IsFieldSlip, HasWord, SaysCount, IsCountSlip}
use Rattle.srs_line.specs.Many.{HasFields, IsManySlip}
use Rattle.srs_line.proofs.FieldLaws.{numbers_length, fields_once}
use Rattle.srs_line.proofs.LineTexts.{six_is}

-- the fact holds, or it doesn't
abbrev pub Decided : Type 0 → Type 0
Decided P = P ⊎ (¬ P)

pub both_decided : (P Q : Type 0) → Decided P → Decided Q → Decided (P × Q)
both_decided P Q (inl p) (inl q) = inl (p, q)
both_decided P Q (inl p) (inr q) = inr (λ both. q both.1)
both_decided P Q (inr p) d = inr (λ both. p both.0)

pub same_decided : (P Q : Type 0) → (P → Q) → (Q → P) → Decided P → Decided Q
same_decided P Q f g (inl p) = inl (f p)
same_decided P Q f g (inr p) = inr (λ q. p (g q))

pub eq_decided : (m n : ℕ) → Decided (m ≡ n)
eq_decided m n = elim (eqb_tells m n) [ inl e ↦ inl e.1 | inr e ↦ inr e.1 ]

pub le_decided : (m n : ℕ) → Decided (m ≤ n)
le_decided m n = elim (leb_tells m n) [ inl e ↦ inl e.1 | inr e ↦ inr (λ le. absurd (let lt = e.1 in omega arith)) ]

pub bytes_decided : (xs ys : List ℕ) → Decided (xs ≡ ys)
bytes_decided [] [] = inl refl
bytes_decided [] (y ∷ ys) = inr (λ e. absurd (cc))
bytes_decided (x ∷ xs) [] = inr (λ e. absurd (cc))
bytes_decided (x ∷ xs) (y ∷ ys) =
    same_decided ((x ≡ y) × (xs ≡ ys)) (x ∷ xs ≡ y ∷ ys) (λ p. rw (p.0, p.1) refl) (λ e. ((cc), (cc)))
    (both_decided (x ≡ y) (xs ≡ ys) (eq_decided x y) (bytes_decided xs ys))

digits_decided : (xs : List ℕ) → Decided (AreDigits xs)
digits_decided [] = inl tt
digits_decided (x ∷ xs) =
    both_decided ((48 ≤ x) × (x ≤ 57)) (AreDigits xs) (both_decided (48 ≤ x) (x ≤ 57) (le_decided 48 x) (le_decided x 57)) (digits_decided xs)

positive_decided : (xs : List ℕ) → Decided (IsPositive xs)
positive_decided [] = inr (λ p. p)
positive_decided (x ∷ xs) =
    same_decided (((49 ≤ x) × (x ≤ 57)) × AreDigits xs) (IsPositive (x ∷ xs)) (λ p. (p.0.0, p.0.1, p.1)) (λ p. ((p.0, p.1), p.2))
    (both_decided ((49 ≤ x) × (x ≤ 57)) (AreDigits xs) (both_decided (49 ≤ x) (x ≤ 57) (le_decided 49 x) (le_decided x 57)) (digits_decided xs))

-- a token spells a number of whatever size, or none
spelling_decided : (token : List ℕ) → ((z : ℤ) × Spells token z) ⊎ ((z : ℤ) → Spells token z → ⊥)
spelling_decided [] = inr (λ z s. elim s [ inl e ↦ (let empty = e.0 in cc) | inr more ↦ elim more [ inl p ↦ p.0 | inr n ↦ n ] ])
spelling_decided (c ∷ cs) =
    elim (bytes_decided (c ∷ cs) (48 ∷ [])) [
      | inl e ↦ inl (pos 0, inl (e, refl))
      | inr not_zero ↦ elim (positive_decided (c ∷ cs)) [
        | inl p ↦ inl (pos (value_after 0 (c ∷ cs)), inr (inl (p, refl)))
        | inr not_positive ↦ elim (both_decided (c ≡ 45) (IsPositive cs) (eq_decided c 45) (positive_decided cs)) [
          | inl n ↦ inl (neg_ℤ (pos (value_after 0 cs)), inr (inr (n.0, n.1, refl)))
          | inr not_negative ↦ inr (λ z s. elim s [ inl e ↦ not_zero e.0 | inr more ↦ elim more [ inl p ↦ not_positive p.0 | inr n ↦ not_negative (n.0, n.1) ] ])
        ]
      ]
    ]

fits_decided : (z : ℤ) → Decided (FitsSigned w64 z)
fits_decided (pos n) =
    elim (le_decided (2 ^ 63) n) [
      | inl le ↦ inr (λ f. let fits = f.sfits in absurd (omega arith))
      | inr lt ↦ inl (let low : n < 2 ^ 63 = omega (arith, lt) in omega (arith, ints))
    ]
fits_decided (negsuc n) =
    elim (le_decided (2 ^ 63) n) [
      | inl le ↦ inr (λ f. let fits = f.sfits in absurd (omega arith))
      | inr lt ↦ inl (let low : n < 2 ^ 63 = omega (arith, lt) in omega (arith, ints))
    ]

first_byte : (x y : ℕ) (xs ys : List ℕ) → x ∷ xs ≡ y ∷ ys → x ≡ y
first_byte x y xs ys e = cc

zero_not_positive : (token : List ℕ) → token ≡ 48 ∷ [] → IsPositive token → ⊥
zero_not_positive [] e p = p
zero_not_positive (c ∷ cs) e p = let same = first_byte c 48 cs [] e in absurd (omega arith)

zero_not_negative : (token : List ℕ) (z : ℤ) → token ≡ 48 ∷ [] → SpellsNegative token z → ⊥
zero_not_negative [] z e n = n
zero_not_negative (c ∷ cs) z e n = let same = first_byte c 48 cs [] e in absurd (omega arith)

positive_not_negative : (token : List ℕ) (z : ℤ) → IsPositive token → SpellsNegative token z → ⊥
positive_not_negative [] z p n = n
positive_not_negative (c ∷ cs) z p n = absurd (omega arith)

-- a token spells one number at most
spelled_once : (token : List ℕ) (y z : ℤ) → Spells token y → Spells token z → y ≡ z
spelled_once token y z (inl (t, e)) (inl (u, f)) = e ∙ sym f
spelled_once token y z (inl (t, e)) (inr (inl (p, f))) = absurd (zero_not_positive token t p)
spelled_once token y z (inl (t, e)) (inr (inr n)) = absurd (zero_not_negative token z t n)
spelled_once token y z (inr (inl (p, e))) (inl (t, f)) = absurd (zero_not_positive token t p)
spelled_once token y z (inr (inl (p, e))) (inr (inl (q, f))) = e ∙ sym f
spelled_once token y z (inr (inl (p, e))) (inr (inr n)) = absurd (positive_not_negative token z p n)
spelled_once token y z (inr (inr n)) (inl (t, f)) = absurd (zero_not_negative token y t n)
spelled_once token y z (inr (inr n)) (inr (inl (q, f))) = absurd (positive_not_negative token y q n)
spelled_once [] y z (inr (inr n)) (inr (inr m)) = absurd n
spelled_once (c ∷ cs) y z (inr (inr n)) (inr (inr m)) = n.2 ∙ sym m.2

pub number_decided : (token : List ℕ) → ((z : ℤ) × IsNumber token z) ⊎ ((z : ℤ) → IsNumber token z → ⊥)
number_decided token =
    elim (spelling_decided token) [
      | inl s ↦ elim (fits_decided s.0) [
        | inl fits ↦ inl (s.0, (fits, s.1))
        | inr wide ↦ inr (λ z n. wide (rw (spelled_once token z s.0 n.1 s.1) at n.0))
      ]
      | inr none ↦ inr (λ z n. none z n.1)
    ]

first_none : (t : List ℕ) (ts : List (List ℕ)) → ((z : ℤ) → IsNumber t z → ⊥) → (zs : List ℤ) → AreNumbers (t ∷ ts) zs → ⊥
first_none t ts none [] a = a
first_none t ts none (z ∷ zs) a = none z a.0

later_none : (t : List ℕ) (ts : List (List ℕ)) → ((zs : List ℤ) → AreNumbers ts zs → ⊥) → (zs : List ℤ) → AreNumbers (t ∷ ts) zs → ⊥
later_none t ts none [] a = a
later_none t ts none (z ∷ zs) a = none zs a.1

numbers_decided : (ts : List (List ℕ)) → ((zs : List ℤ) × AreNumbers ts zs) ⊎ ((zs : List ℤ) → AreNumbers ts zs → ⊥)
numbers_decided [] = inl ([], tt)
numbers_decided (t ∷ ts) =
    elim (number_decided t) [
      | inl z ↦ elim (numbers_decided ts) [ inl zs ↦ inl (z.0 ∷ zs.0, (z.1, zs.1)) | inr none ↦ inr (later_none t ts none) ]
      | inr none ↦ inr (first_none t ts none)
    ]

-- the first token is the word, or isn't
abbrev pub Begins : List (List ℕ) → List ℕ → Type 0
Begins ts word = (fields : List (List ℕ)) × (ts ≡ word ∷ fields)

begins_decided : (ts : List (List ℕ)) (word : List ℕ) → Decided (Begins ts word)
begins_decided [] word = inr (λ b. let e = b.1 in cc)
begins_decided (t ∷ ts) word =
    elim (bytes_decided t word) [ inl e ↦ inl (ts, rw e refl) | inr ne ↦ inr (λ b. ne (let e = b.1 in cc)) ]

pub word_decided : (word line : List ℕ) → Decided (HasWord word line)
word_decided word line =
    same_decided (Begins (tokens line) word) (HasWord word line) (λ b. record { fields = b.0; split = b.1 }) (λ w. (w.fields, w.split))
    (begins_decided (tokens line) word)

-- so many numbers behind the word
abbrev pub SaysMany : List ℕ → ℕ → List ℕ → Type 0
SaysMany word n line = (zs : List ℤ) × (length zs ≡ n) × Says word zs line

pub fields_decided : (word line : List ℕ) (n : ℕ) → SaysMany word n line ⊎ ((slip : Slip) × IsFieldSlip word n line slip)
fields_decided word line n =
    elim (word_decided word line) [
      | inl w ↦ elim (eq_decided (length w.fields) n) [
        | inl count ↦ elim (numbers_decided w.fields) [
          | inl zs ↦ inl (zs.0, sym (numbers_length w.fields zs.0 zs.1) ∙ count, record { fields = w.fields; split = w.split; numbers = zs.1 })
          | inr none ↦ inr (Number, inr (record { shape = record { fields = w.fields; split = w.split; count_is = count }; bad = none }, refl))
        ]
        | inr other ↦ inr (Word, inl (λ s. other (rw (fields_once word line w.fields s.fields w.split s.split) s.count_is), refl))
      ]
      | inr no_word ↦ inr (Word, inl (λ s. no_word (record { fields = s.fields; split = s.split }), refl))
    ]

one_of : (word line : List ℕ) (zs : List ℤ) → length zs ≡ 1 → Says word zs line → (z : ℤ) × Says word (z ∷ []) line
one_of word line [] e s = absurd (omega arith)
one_of word line (z ∷ []) e s = (z, s)
one_of word line (z ∷ y ∷ zs) e s = absurd (omega arith)

three_of : (word line : List ℕ) (zs : List ℤ) → length zs ≡ 3 → Says word zs line → (a b c : ℤ) × Says word (a ∷ b ∷ c ∷ []) line
three_of word line [] e s = absurd (omega arith)
three_of word line (a ∷ []) e s = absurd (omega arith)
three_of word line (a ∷ b ∷ []) e s = absurd (omega arith)
three_of word line (a ∷ b ∷ c ∷ []) e s = (a, b, c, s)
three_of word line (a ∷ b ∷ c ∷ d ∷ zs) e s = absurd (omega arith)

-- six numbers behind the word
abbrev pub SaysSix : List ℕ → List ℕ → Type 0
SaysSix word line = (p q d a b n : ℤ) × Says word (p ∷ q ∷ d ∷ a ∷ b ∷ n ∷ []) line

six_of : (word line : List ℕ) (zs : List ℤ) → length zs ≡ 6 → Says word zs line → SaysSix word line
six_of word line zs e s =
    (get_or zs 0 (pos 0), get_or zs 1 (pos 0), get_or zs 2 (pos 0), get_or zs 3 (pos 0), get_or zs 4 (pos 0), get_or zs 5 (pos 0), rw (six_is zs (pos 0) e) at s)

pub one_decided : (word line : List ℕ) → ((z : ℤ) × Says word (z ∷ []) line) ⊎ ((slip : Slip) × IsFieldSlip word 1 line slip)
one_decided word line =
    elim (fields_decided word line 1) [
      | inl s ↦ inl (one_of word line s.0 s.1 s.2)
      | inr f ↦ inr f
    ]

pub three_decided : (word line : List ℕ) → ((a b c : ℤ) × Says word (a ∷ b ∷ c ∷ []) line) ⊎ ((slip : Slip) × IsFieldSlip word 3 line slip)
three_decided word line =
    elim (fields_decided word line 3) [
      | inl s ↦ inl (three_of word line s.0 s.1 s.2)
      | inr f ↦ inr f
    ]

pub six_decided : (word line : List ℕ) → SaysSix word line ⊎ ((slip : Slip) × IsFieldSlip word 6 line slip)
six_decided word line =
    elim (fields_decided word line 6) [
      | inl s ↦ inl (six_of word line s.0 s.1 s.2)
      | inr f ↦ inr f
    ]

-- a whole number that is not below 0 is a natural number
pub natural : (z : ℤ) → ((n : ℕ) × (z ≡ pos n)) ⊎ ((n : ℕ) → z ≡ pos n → ⊥)
natural (pos n) = inl (n, refl)
natural (negsuc n) = inr (λ m e. absurd (cc))

nat_once : (m n : ℕ) → pos m ≡ pos n → m ≡ n
nat_once m n e = cc

pub count_decided : (word line : List ℕ) (low high : ℕ) (outside : Slip)
    → ((n : ℕ) × SaysCount word low high n line) ⊎ ((slip : Slip) × IsCountSlip word low high outside line slip)
count_decided word line low high outside =
    elim (one_decided word line) [
      | inl s ↦ elim (natural s.0) [
        | inl n ↦ elim (both_decided (low ≤ n.0) (n.0 ≤ high) (le_decided low n.0) (le_decided n.0 high)) [
          | inl range ↦ inl (n.0, (range.0, range.1, rw n.1 at s.1))
          | inr outer ↦ inr (outside, inr (s.0, s.1, (λ m l h e. outer (let same : m ≡ n.0 = nat_once m n.0 (sym e ∙ n.1) in (rw (← same) l, rw (← same) h))), refl))
        ]
        | inr none ↦ inr (outside, inr (s.0, s.1, (λ m l h e. none m e), refl))
      ]
      | inr f ↦ inr (f.0, inl f.1)
    ]

-- at least one number behind the word
abbrev pub SaysSome : List ℕ → List ℕ → Type 0
SaysSome word line = (n : ℤ) × (zs : List ℤ) × Says word (n ∷ zs) line

with_first : (word line : List ℕ) (t : List ℕ) (ts : List (List ℕ)) → tokens line ≡ word ∷ t ∷ ts → (zs : List ℤ) → AreNumbers (t ∷ ts) zs → SaysSome word line
with_first word line t ts e [] a = absurd a
with_first word line t ts e (z ∷ zs) a = (z, zs, record { fields = t ∷ ts; split = e; numbers = a })

no_field : (word line : List ℕ) → tokens line ≡ word ∷ [] → HasFields word line → ⊥
no_field word line e h = let both : word ∷ [] ≡ word ∷ h.first ∷ h.more = sym e ∙ h.split in cc

many_of : (word line : List ℕ) (ts : List (List ℕ)) → tokens line ≡ word ∷ ts → SaysSome word line ⊎ ((slip : Slip) × (back : ℕ) × IsManySlip word line slip back)
many_of word line [] e = inr (Word, 0, inl (no_field word line e, refl, refl))
many_of word line (t ∷ ts) e =
    elim (numbers_decided (t ∷ ts)) [
      | inl zs ↦ inl (with_first word line t ts e zs.0 zs.1)
      | inr none ↦ inr (Number, 0, inr (record { first = t; more = ts; split = e }, (none, refl, refl)))
    ]

pub many_decided : (word line : List ℕ) → SaysSome word line ⊎ ((slip : Slip) × (back : ℕ) × IsManySlip word line slip back)
many_decided word line =
    elim (word_decided word line) [
      | inl w ↦ many_of word line w.fields w.split
      | inr no_word ↦ inr (Word, 0, inl (λ h. no_word (record { fields = h.first ∷ h.more; split = h.split }), refl, refl))
    ]
