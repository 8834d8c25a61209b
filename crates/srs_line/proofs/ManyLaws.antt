-- What is wrong with a line of a word and any number of numbers is determined.
use Rattle.std.proofs.Common.{◌≡◌, ℕ, ℤ, List, [], ◌∷◌, sym, ◌∙◌, inl, inr}
use Rattle.srs_line.specs.declared.slip.Slip.{Slip}
use Rattle.srs_line.specs.Fields.{tokens, AreNumbers, Says}
use Rattle.srs_line.specs.Many.{HasFields, IsManySlip}
use Rattle.srs_line.proofs.FieldLaws.{fields_once}

has_fields : (word line : List ℕ) (ts : List (List ℕ)) (n : ℤ) (zs : List ℤ) → tokens line ≡ word ∷ ts → AreNumbers ts (n ∷ zs) → HasFields word line
has_fields word line [] n zs e a = absurd a
has_fields word line (t ∷ ts) n zs e a = record { first = t; more = ts; split = e }

pub no_many_slip : (word line : List ℕ) (n : ℤ) (zs : List ℤ) (slip : Slip) (back : ℕ) → Says word (n ∷ zs) line → IsManySlip word line slip back → ⊥
no_many_slip word line n zs slip back p (inl (bar, e, b)) = bar (has_fields word line p.fields n zs p.split p.numbers)
no_many_slip word line n zs slip back p (inr (f, (bad, e, b))) =
    let same = fields_once word line p.fields (f.first ∷ f.more) p.split f.split in
    bad (n ∷ zs) (rw same at p.numbers)

pub many_slip_once : (word line : List ℕ) (d e : Slip) (m n : ℕ) → IsManySlip word line d m → IsManySlip word line e n → (d ≡ e) × (m ≡ n)
many_slip_once word line d e m n (inl (bar, f, b)) (inl (bar', g, c)) = (f ∙ sym g, b ∙ sym c)
many_slip_once word line d e m n (inl (bar, f, b)) (inr (x, (bad, g, c))) = absurd (bar x)
many_slip_once word line d e m n (inr (x, (bad, f, b))) (inl (bar, g, c)) = absurd (bar x)
many_slip_once word line d e m n (inr (x, (bad, f, b))) (inr (y, (bad', g, c))) = (f ∙ sym g, b ∙ sym c)
