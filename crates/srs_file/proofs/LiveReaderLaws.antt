-- The reader of the input of `live` meets what the laws of line grammars ask.
use Rattle.std.proofs.Common.{◌≡◌, ℕ, List, refl, sym, ◌∙◌, inl, inr}
use Rattle.srs_line.specs.declared.slip.Slip.{Slip}
use Rattle.srs_line.specs.Machine.{IsExact}
use Rattle.srs_file.specs.declared.live_reader.LiveReader.{LiveReader}
use Rattle.srs_file.specs.LiveReading.{LiveSteps, LiveSlips, LiveEnds, StepsInSessions}
use Rattle.srs_file.proofs.OutlineLaws.{outline_once, outline_apart, outline_slips}
use Rattle.srs_file.proofs.SessionLaws.{session_once, session_apart, session_slips, end_no_session}

sessions_once : (s t u : LiveReader) (line : List ℕ) → StepsInSessions s line t
    → StepsInSessions s line u → t ≡ u
sessions_once s t u line (inl (q, p, e)) (inl (r, o, f)) =
    rw (e, f, session_once s.sessions q r line p o) refl
sessions_once s t u line (inl (q, p, e)) (inr (ends, f)) =
    absurd (end_no_session s.sessions q ends.0 (rw ends.1 at p))
sessions_once s t u line (inr (ends, e)) (inl (r, o, f)) =
    absurd (end_no_session s.sessions r ends.0 (rw ends.1 at o))
sessions_once s t u line (inr (ends, e)) (inr (ends', f)) = e ∙ sym f

once : (s t u : LiveReader) (line : List ℕ) → LiveSteps s line t → LiveSteps s line u → t ≡ u
once s t u line (a, inl (more, c, p, e)) (b, inl (more', d, o, f)) =
    rw (e, f, outline_once s.outline c d line p o) refl
once s t u line (a, inl (more, c, p, e)) (b, inr (whole, q)) = absurd (more whole)
once s t u line (a, inr (whole, p)) (b, inl (more, d, o, f)) = absurd (more whole)
once s t u line (a, inr (whole, p)) (b, inr (whole', q)) = sessions_once s t u line p q

apart : (s t : LiveReader) (line : List ℕ) (slip : Slip) (back : ℕ) → LiveSteps s line t
    → LiveSlips s line slip back → ⊥
apart s t line slip back (a, inl (more, c, p, e)) (inl (more', f)) =
    outline_apart s.outline c line slip back p f
apart s t line slip back (a, inl (more, c, p, e)) (inr (whole, bar, f)) = more whole
apart s t line slip back (a, inr (whole, p)) (inl (more, f)) = more whole
apart s t line slip back (a, inr (whole, inl (q, p, e))) (inr (whole', bar, f)) =
    session_apart s.sessions q line slip back p f
apart s t line slip back (a, inr (whole, inr (here, e))) (inr (whole', bar, f)) = bar here

slips : (s : LiveReader) (line : List ℕ) (d e : Slip) (m n : ℕ) → LiveSlips s line d m
    → LiveSlips s line e n → (d ≡ e) × (m ≡ n)
slips s line d e m n (inl (more, f)) (inl (more', g)) = outline_slips s.outline line d e m n f g
slips s line d e m n (inl (more, f)) (inr (whole, bar, g)) = absurd (more whole)
slips s line d e m n (inr (whole, bar, f)) (inl (more, g)) = absurd (more whole)
slips s line d e m n (inr (whole, bar, f)) (inr (whole', bar', g)) =
    session_slips s.sessions line d e m n f g

pub live_exact : IsExact LiveSteps LiveSlips LiveEnds
live_exact = record {
  steps_once = once;
  apart = apart;
  slips_once = slips;
  over = λ s t line end p. p.0 end;
}
