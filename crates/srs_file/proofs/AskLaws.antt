-- The reader of a certificate and its questions meets what the laws of line grammars ask.
use Rattle.std.proofs.Common.{◌≡◌, ℕ, List, refl, sym, ◌∙◌, inl, inr}
use Rattle.srs_line.specs.declared.slip.Slip.{Slip}
use Rattle.srs_line.specs.Machine.{IsExact}
use Rattle.srs_file.specs.declared.ask_reader.AskReader.{AskReader}
use Rattle.srs_file.specs.AskReading.{AskSteps, AskSlips, AskEnds, StepsAsking}
use Rattle.srs_file.proofs.CertLaws.{cert_exact}
use Rattle.srs_file.proofs.QuestionLaws.{question_once, question_apart, question_slips, end_no_question}

asking_once : (s t u : AskReader) (line : List ℕ) → StepsAsking s line t → StepsAsking s line u → t ≡ u
asking_once s t u line (inl (q, p, e)) (inl (r, o, f)) = rw (e, f, question_once s.questions q r line p o) refl
asking_once s t u line (inl (q, p, e)) (inr (ends, f)) = absurd (end_no_question s.questions q ends.0 (rw ends.1 at p))
asking_once s t u line (inr (ends, e)) (inl (r, o, f)) = absurd (end_no_question s.questions r ends.0 (rw ends.1 at o))
asking_once s t u line (inr (ends, e)) (inr (ends', f)) = e ∙ sym f

once : (s t u : AskReader) (line : List ℕ) → AskSteps s line t → AskSteps s line u → t ≡ u
once s t u line (a, inl (more, c, p, e)) (b, inl (more', d, o, f)) = rw (e, f, cert_exact.steps_once s.cert c d line p o) refl
once s t u line (a, inl (more, c, p, e)) (b, inr (ends, q)) = absurd (more ends)
once s t u line (a, inr (ends, p)) (b, inl (more, d, o, f)) = absurd (more ends)
once s t u line (a, inr (ends, p)) (b, inr (ends', q)) = asking_once s t u line p q

apart : (s t : AskReader) (line : List ℕ) (slip : Slip) (back : ℕ) → AskSteps s line t → AskSlips s line slip back → ⊥
apart s t line slip back (a, inl (more, c, p, e)) (inl (more', f)) = cert_exact.apart s.cert c line slip back p f
apart s t line slip back (a, inl (more, c, p, e)) (inr (ends, bar, f)) = more ends
apart s t line slip back (a, inr (ends, p)) (inl (more, f)) = more ends
apart s t line slip back (a, inr (ends, inl (q, p, e))) (inr (ends', bar, f)) = question_apart s.questions q line slip back p f
apart s t line slip back (a, inr (ends, inr (here, e))) (inr (ends', bar, f)) = bar here

slips : (s : AskReader) (line : List ℕ) (d e : Slip) (m n : ℕ) → AskSlips s line d m → AskSlips s line e n → (d ≡ e) × (m ≡ n)
slips s line d e m n (inl (more, f)) (inl (more', g)) = cert_exact.slips_once s.cert line d e m n f g
slips s line d e m n (inl (more, f)) (inr (ends, bar, g)) = absurd (more ends)
slips s line d e m n (inr (ends, bar, f)) (inl (more, g)) = absurd (more ends)
slips s line d e m n (inr (ends, bar, f)) (inr (ends', bar', g)) = question_slips s.questions line d e m n f g

pub ask_exact : IsExact AskSteps AskSlips AskEnds
ask_exact = record { steps_once = once; apart = apart; slips_once = slips; over = λ s t line end p. p.0 end }
