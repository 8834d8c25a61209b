-- What is wrong with the fields of a line is wrong with the line.
use Rattle.std.proofs.Common.{◌≡◌, ℕ, ℤ, List, [], ◌∷◌, inr}
use Rattle.srs_text.specs.Spelling.{IsNumber}
use Rattle.srs_line.specs.Fields.{tokens, AreNumbers}
use Rattle.srs_line.specs.Many.{IsNumbersSlip, IsManySlip}
use Rattle.srs_line.specs.Refusal.{IsSlip}
use Rattle.srs_line.specs.declared.slip.LineErr.{LineErr}
use Rattle.srs_line.specs.declared.slip.LineErr.TheVariants as lines

pub first_bad : (t : List ℕ) (ts : List (List ℕ)) → ((z : ℤ) → IsNumber t z → ⊥) → (zs : List ℤ) → AreNumbers (t ∷ ts) zs → ⊥
first_bad t ts none [] a = a
first_bad t ts none (z ∷ zs) a = none z a.0

later_bad : (t : List ℕ) (ts : List (List ℕ)) → ((zs : List ℤ) → AreNumbers ts zs → ⊥) → (zs : List ℤ) → AreNumbers (t ∷ ts) zs → ⊥
later_bad t ts none [] a = a
later_bad t ts none (z ∷ zs) a = none zs a.1

pub of_line : (word line t : List ℕ) (ts : List (List ℕ)) (e : LineErr) → tokens line ≡ word ∷ t ∷ ts → IsSlip (IsNumbersSlip ts) e → IsSlip (IsManySlip word line) e
of_line word line t ts (lines.Slip slip back) whole s = inr (record { first = t; more = ts; split = whole }, (later_bad t ts s.0, s.1, s.2))
of_line word line t ts lines.NoMemory whole s = tt
