-- A text is read, or has a first slip.
use Rattle.std.proofs.Common.{◌≢◌, ◌⊎◌, ◌≤◌, ◌+◌, ◌-◌, ℕ, zero, suc, List, [], ◌∷◌, length, refl, ap, inl, inr, arith, length-append}
use Rattle.std.proofs.lemmas.List.Elements.{All-nil, All-cons}
use Rattle.std.proofs.lemmas.Bool.Decides.{eqb_tells}
use Rattle.srs_text.specs.Line.{HasNoLf, IsLineOf}
use Rattle.srs_line.specs.declared.slip.Slip.{Slip}
use Rattle.srs_line.specs.declared.slip.Slip.TheVariants.{Missing, Tail}
use Rattle.srs_line.specs.Machine.{Reaches, IsWrong, IsTotal, IsReadOrSlips}
use Rattle.srs_line.proofs.MachineLemmas.{reaches_start, reaches_more}

-- the first line of a text, if it has an LF
first_line : (text : List ℕ) → ((line : List ℕ) × (more : List ℕ) × IsLineOf text line more) ⊎ HasNoLf text
first_line [] = inr (All-nil (λ c. c ≢ 10))
first_line (c ∷ text) =
    elim (eqb_tells c 10) [
      | inl e ↦ inl ([], text, record { whole = rw e.1 refl; plain = All-nil (λ c. c ≢ 10) })
      | inr ne ↦ elim (first_line text) [
        | inl l ↦ inl (c ∷ l.0, l.1, record { whole = ap (λ x. c ∷ x) l.2.whole; plain = All-cons (λ c. c ≢ 10) c l.0 ne.1 l.2.plain })
        | inr none ↦ inr (All-cons (λ c. c ≢ 10) c text ne.1 none)
      ]
    ]

shorter : (rest line more : List ℕ) (n : ℕ) → IsLineOf rest line more → length rest ≤ suc n → length more ≤ n
shorter rest line more n l le = omega (arith, ap length l.whole, length-append line (10 ∷ more))

module _ {S : Type 0} (Steps : S → List ℕ → S → Type 0) (Slips : S → List ℕ → Slip → ℕ → Type 0) (IsEnd : S → Type 0)
    (start : S) (total : IsTotal Steps Slips IsEnd start) (text : List ℕ) where
  abbrev Answer : Type 0
  Answer = IsReadOrSlips Steps Slips IsEnd start text

  slip_here : (s : S) (count : ℕ) (rest : List ℕ) (slip : Slip) (back : ℕ) → Reaches Steps start text count s rest → IsWrong Slips IsEnd s rest slip back → Answer
  slip_here s count rest slip back r wrong =
      inr (count + 1 - back, slip, record { count = count; state = s; rest = rest; back = back; good = r; line_is = refl; wrong = wrong })

  ended : (s : S) (count : ℕ) (rest : List ℕ) → Reaches Steps start text count s rest → IsEnd s → Answer
  ended s count [] r end = inl (s, (count, r, end))
  ended s count (c ∷ rest) r end = slip_here s count (c ∷ rest) Tail 0 r (inl (end, (λ e. absurd (cc)), refl, refl))

  walk : (n : ℕ) (s : S) (count : ℕ) (rest : List ℕ) → length rest ≤ n → Reaches Steps start text count s rest → Answer
  walk zero s count rest le r =
      elim (total.ends s) [
        | inl end ↦ ended s count rest r end
        | inr not_yet ↦ elim (first_line rest) [
          | inl l ↦ absurd (omega (arith, ap length l.2.whole, length-append l.0 (10 ∷ l.1)))
          | inr none ↦ slip_here s count rest Missing 0 r (inr (inl (not_yet, none, refl, refl)))
        ]
      ]
  walk (suc n) s count rest le r =
      elim (total.ends s) [
        | inl end ↦ ended s count rest r end
        | inr not_yet ↦ elim (first_line rest) [
          | inl l ↦ elim (total.goes_on r.lines s r.good not_yet l.0 l.2.plain) [
            | inl step ↦ walk n step.0 (count + 1) l.1 (shorter rest l.0 l.1 n l.2 le) (reaches_more r l.2 step.1)
            | inr slip ↦ slip_here s count rest slip.0 slip.1 r (inr (inr (not_yet, l.0, l.1, l.2, slip.2)))
          ]
          | inr none ↦ slip_here s count rest Missing 0 r (inr (inl (not_yet, none, refl, refl)))
        ]
      ]

  pub read_or_slips : Answer
  read_or_slips = walk (length text) start 0 text (omega arith) (reaches_start Steps start text)
