-- What a line says by its fields is determined, and so is what is wrong with it.
use Rattle.std.proofs.Common.{◌≡◌, ℕ, suc, ℤ, pos, List, [], ◌∷◌, length, refl, sym, ap, ◌∙◌, inl, inr}
use Rattle.srs_text.proofs.Spellings.{number_once}
use Rattle.srs_line.specs.declared.slip.Slip.{Slip}
use Rattle.srs_line.specs.Fields.{tokens, AreNumbers, Says, HasShape, IsFieldSlip, HasWord, SaysCount, IsCountSlip}

numbers_once : (ts : List (List ℕ)) (ys zs : List ℤ) → AreNumbers ts ys → AreNumbers ts zs → ys ≡ zs
numbers_once [] [] [] a b = refl
numbers_once [] [] (z ∷ zs) a b = absurd b
numbers_once [] (y ∷ ys) zs a b = absurd a
numbers_once (t ∷ ts) [] zs a b = absurd a
numbers_once (t ∷ ts) (y ∷ ys) [] a b = absurd b
numbers_once (t ∷ ts) (y ∷ ys) (z ∷ zs) a b = rw (number_once t y z a.0 b.0, numbers_once ts ys zs a.1 b.1) refl

pub numbers_length : (ts : List (List ℕ)) (zs : List ℤ) → AreNumbers ts zs → length ts ≡ length zs
numbers_length [] [] a = refl
numbers_length [] (z ∷ zs) a = absurd a
numbers_length (t ∷ ts) [] a = absurd a
numbers_length (t ∷ ts) (z ∷ zs) a = ap suc (numbers_length ts zs a.1)

pub word_once : (v w line : List ℕ) → HasWord v line → HasWord w line → v ≡ w
word_once v w line p q = let e : v ∷ p.fields ≡ w ∷ q.fields = sym p.split ∙ q.split in cc

pub fields_once : (word line : List ℕ) (ts us : List (List ℕ)) → tokens line ≡ word ∷ ts → tokens line ≡ word ∷ us → ts ≡ us
fields_once word line ts us p q = let e : word ∷ ts ≡ word ∷ us = sym p ∙ q in cc

pub says_once : (word line : List ℕ) (ys zs : List ℤ) → Says word ys line → Says word zs line → ys ≡ zs
says_once word line ys zs p q =
    let e = fields_once word line p.fields q.fields p.split q.split in
    numbers_once q.fields ys zs (rw e at p.numbers) q.numbers

pub says_word : (word line : List ℕ) (zs : List ℤ) → Says word zs line → HasWord word line
says_word word line zs p = record { fields = p.fields; split = p.split }

pub says_shape : (word line : List ℕ) (zs : List ℤ) → Says word zs line → HasShape word (length zs) line
says_shape word line zs p = record { fields = p.fields; split = p.split; count_is = numbers_length p.fields zs p.numbers }

pub no_field_slip : (word line : List ℕ) (zs : List ℤ) (slip : Slip) → Says word zs line → IsFieldSlip word (length zs) line slip → ⊥
no_field_slip word line zs slip p (inl (bar, e)) = bar (says_shape word line zs p)
no_field_slip word line zs slip p (inr (bad, e)) =
    let same = fields_once word line p.fields bad.shape.fields p.split bad.shape.split in
    bad.bad zs (rw same at p.numbers)

pub field_slip_once : (word line : List ℕ) (n : ℕ) (d e : Slip) → IsFieldSlip word n line d → IsFieldSlip word n line e → d ≡ e
field_slip_once word line n d e (inl (bar, f)) (inl (bar', g)) = f ∙ sym g
field_slip_once word line n d e (inl (bar, f)) (inr (bad, g)) = absurd (bar bad.shape)
field_slip_once word line n d e (inr (bad, f)) (inl (bar, g)) = absurd (bar bad.shape)
field_slip_once word line n d e (inr (bad, f)) (inr (bad', g)) = f ∙ sym g

pub count_once : (word line : List ℕ) (low high m n : ℕ) → SaysCount word low high m line → SaysCount word low high n line → m ≡ n
count_once word line low high m n p q = let e = says_once word line (pos m ∷ []) (pos n ∷ []) p.2 q.2 in cc

pub no_count_slip : (word line : List ℕ) (low high n : ℕ) (outside slip : Slip) → SaysCount word low high n line → IsCountSlip word low high outside line slip → ⊥
no_count_slip word line low high n outside slip p (inl f) = no_field_slip word line (pos n ∷ []) slip p.2 f
no_count_slip word line low high n outside slip p (inr (z, said, out, e)) =
    let same : z ≡ pos n = let e = says_once word line (z ∷ []) (pos n ∷ []) said p.2 in cc in
    out n p.0 p.1 same

pub count_slip_once : (word line : List ℕ) (low high : ℕ) (outside d e : Slip) → IsCountSlip word low high outside line d → IsCountSlip word low high outside line e → d ≡ e
count_slip_once word line low high outside d e (inl f) (inl g) = field_slip_once word line 1 d e f g
count_slip_once word line low high outside d e (inl f) (inr (z, said, out, g)) = absurd (no_field_slip word line (z ∷ []) d said f)
count_slip_once word line low high outside d e (inr (z, said, out, f)) (inl g) = absurd (no_field_slip word line (z ∷ []) e said g)
count_slip_once word line low high outside d e (inr (z, said, out, f)) (inr (z', said', out', g)) = f ∙ sym g
