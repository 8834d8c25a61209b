-- What a line of a session does is determined, and so is what is wrong with it.
use Rattle.std.proofs.Common.{◌≡◌, ◌⊎◌, ℕ, List, [], codes, refl, sym, ◌∙◌, inl, inr, arith}
use Rattle.srs_line.specs.declared.slip.Slip.{Slip}
use Rattle.srs_line.specs.declared.slip.Slip.TheVariants.{Range}
use Rattle.srs_line.specs.Fields.{HasWord}
use Rattle.srs_line.proofs.FieldLaws.{count_once, no_count_slip, count_slip_once}
use Rattle.srs_file.specs.declared.session_lines.Stage.{Stage}
use Rattle.srs_file.specs.SessionReading.{SessionsView, IsFree, IsRoundSlip, SaysRound, StepsAt, StepsBehind, SlipsBehind, TakesSession, SlipsSession}
use Rattle.srs_file.proofs.QuestionLaws.{two_words, question_slips, in_session_once, in_session_apart, other_in_session}

-- the line `session` has that word
session_word : (line : List ℕ) → line ≡ codes "session" → HasWord (codes "session") line
session_word line e = rw e (record { fields = []; split = refl })

session_at : (line : List ℕ) → line ≡ codes "session" → HasWord (codes "at") line → ⊥
session_at line e w = two_words 115 97 _ _ line (λ f. omega (arith, f)) (session_word line e) w

no_question : (s t : SessionsView) (line : List ℕ) → IsFree s → HasWord (codes "session") line
    ⊎ HasWord (codes "at") line → StepsBehind s line t → ⊥
no_question s t line free (inl w) (round, q, p, e) =
    other_in_session 115 _ line s.questions q (λ f. omega (arith, f)) (λ f. omega (arith, f))
    (λ f. omega (arith, f)) (λ f. omega (arith, f)) (λ f. omega (arith, f)) w free p
no_question s t line free (inr w) (round, q, p, e) =
    other_in_session 97 _ line s.questions q (λ f. omega (arith, f)) (λ f. omega (arith, f))
    (λ f. omega (arith, f)) (λ f. omega (arith, f)) (λ f. omega (arith, f)) w free p

at_once : (s t u : SessionsView) (line : List ℕ) → StepsAt s line t → StepsAt s line u → t ≡ u
at_once s t u line (m, p, e) (n, q, f) =
    rw (e, f, count_once (codes "at") line 0 99 m n p.0 q.0) refl

pub session_once : (s t u : SessionsView) (line : List ℕ) → TakesSession s line t
    → TakesSession s line u → t ≡ u
session_once s t u line (inl (free, e, (few, f))) (inl (free', e', (few', f'))) = f ∙ sym f'
session_once s t u line (inl (free, e, (few, f))) (inr (inl (free', begun, w, q))) =
    absurd (session_at line e w)
session_once s t u line (inl (free, e, (few, f))) (inr (inr q)) =
    absurd (no_question s u line free (inl (session_word line e)) q)
session_once s t u line (inr (inl (free, begun, w, p))) (inl (free', e, (few, f))) =
    absurd (session_at line e w)
session_once s t u line (inr (inl (free, begun, w, p))) (inr (inl (free', begun', w', q))) =
    at_once s t u line p q
session_once s t u line (inr (inl (free, begun, w, p))) (inr (inr q)) =
    absurd (no_question s u line free (inr w) q)
session_once s t u line (inr (inr p)) (inl (free, e, (few, f))) =
    absurd (no_question s t line free (inl (session_word line e)) p)
session_once s t u line (inr (inr p)) (inr (inl (free, begun, w, q))) =
    absurd (no_question s t line free (inr w) p)
session_once s t u line (inr (inr (round, p, o, e))) (inr (inr (round', q, n, f))) =
    rw (e, f, in_session_once s.questions p q line o n) refl

no_round_slip : (stage : Stage) (round : ℕ) (line : List ℕ) (slip : Slip)
    → SaysRound stage round line → IsRoundSlip stage line slip → ⊥
no_round_slip stage round line slip p (inl f) =
    no_count_slip (codes "at") line 0 99 round Range slip p.0 f
no_round_slip stage round line slip p (inr (m, q, early, e)) = let same : round ≡ m =
    count_once (codes "at") line 0 99 round m p.0 q in early (rw same at p.1)

round_slip_once : (stage : Stage) (line : List ℕ) (d e : Slip) → IsRoundSlip stage line d
    → IsRoundSlip stage line e → d ≡ e
round_slip_once stage line d e (inl f) (inl g) =
    count_slip_once (codes "at") line 0 99 Range d e f g
round_slip_once stage line d e (inl f) (inr (m, q, early, g)) =
    absurd (no_count_slip (codes "at") line 0 99 m Range d q f)
round_slip_once stage line d e (inr (m, q, early, f)) (inl g) =
    absurd (no_count_slip (codes "at") line 0 99 m Range e q g)
round_slip_once stage line d e (inr (m, p, early, f)) (inr (n, q, early', g)) = f ∙ sym g

pub session_apart : (s t : SessionsView) (line : List ℕ) (slip : Slip) (back : ℕ)
    → TakesSession s line t → SlipsSession s line slip back → ⊥
session_apart s t line slip back (inl (free, e, (few, f))) (inl (free', e', (many, g, b))) =
    omega arith
session_apart s t line slip back (inl (free, e, (few, f))) (inr (inl (free', begun, w, g, b))) =
    session_at line e w
session_apart s t line slip back (inl (free, e, (few, f))) (inr (inr (none, g))) =
    none (free, inl e)
session_apart s t line slip back (inr (inl (free, begun, w, p))) (inl (free', e, g)) =
    session_at line e w
session_apart s t line slip back (inr (inl (free, begun, w, (round, p, e))))
    (inr (inl (free', begun', w', f, b))) = no_round_slip s.stage round line slip p f
session_apart s t line slip back (inr (inl (free, begun, w, p))) (inr (inr (none, g))) =
    none (free, inr (begun, w))
session_apart s t line slip back (inr (inr p)) (inl (free, e, g)) =
    no_question s t line free (inl (session_word line e)) p
session_apart s t line slip back (inr (inr p)) (inr (inl (free, begun, w, g, b))) =
    no_question s t line free (inr w) p
session_apart s t line slip back (inr (inr (round, q, p, e))) (inr (inr (none, inl (round', f)))) =
    in_session_apart s.questions q line slip back p f
session_apart s t line slip back (inr (inr (round, q, p, e))) (inr (inr (none, inr (bar, f, b)))) =
    bar round

behind_once : (s : SessionsView) (line : List ℕ) (d e : Slip) (m n : ℕ) → SlipsBehind s line d m
    → SlipsBehind s line e n → (d ≡ e) × (m ≡ n)
behind_once s line d e m n (inl (round, f)) (inl (round', g)) =
    question_slips s.questions line d e m n f.1 g.1
behind_once s line d e m n (inl (round, f)) (inr (bar, g, c)) = absurd (bar round)
behind_once s line d e m n (inr (bar, f, b)) (inl (round, g)) = absurd (bar round)
behind_once s line d e m n (inr (bar, f, b)) (inr (bar', g, c)) = (f ∙ sym g, b ∙ sym c)

pub session_slips : (s : SessionsView) (line : List ℕ) (d e : Slip) (m n : ℕ)
    → SlipsSession s line d m → SlipsSession s line e n → (d ≡ e) × (m ≡ n)
session_slips s line d e m n (inl (free, h, (many, f, b))) (inl (free', h', (many', g, c))) =
    (f ∙ sym g, b ∙ sym c)
session_slips s line d e m n (inl (free, h, f)) (inr (inl (free', begun, w, g, c))) =
    absurd (session_at line h w)
session_slips s line d e m n (inl (free, h, f)) (inr (inr (none, g))) = absurd (none (free, inl h))
session_slips s line d e m n (inr (inl (free, begun, w, f, b))) (inl (free', h, g)) =
    absurd (session_at line h w)
session_slips s line d e m n (inr (inl (free, begun, w, f, b)))
    (inr (inl (free', begun', w', g, c))) = (round_slip_once s.stage line d e f g, b ∙ sym c)
session_slips s line d e m n (inr (inl (free, begun, w, f, b))) (inr (inr (none, g))) =
    absurd (none (free, inr (begun, w)))
session_slips s line d e m n (inr (inr (none, f))) (inl (free, h, g)) = absurd (none (free, inl h))
session_slips s line d e m n (inr (inr (none, f))) (inr (inl (free, begun, w, g, c))) =
    absurd (none (free, inr (begun, w)))
session_slips s line d e m n (inr (inr (none, f))) (inr (inr (none', g))) =
    behind_once s line d e m n f g

-- the line `end` is none of a session, where no vertex is awaited
pub end_no_session : (s t : SessionsView) → IsFree s → TakesSession s (codes "end") t → ⊥
end_no_session s t free (inl (a, e, p)) =
    two_words 115 101 _ _ (codes "end") (λ f. omega (arith, f)) (session_word (codes "end") e)
    (record { fields = []; split = refl })
end_no_session s t free (inr (inl (a, begun, w, p))) =
    two_words 97 101 _ _ (codes "end") (λ f. omega (arith, f)) w
    (record { fields = []; split = refl })
end_no_session s t free (inr (inr (round, q, p, e))) =
    other_in_session 101 _ (codes "end") s.questions q (λ f. omega (arith, f))
    (λ f. omega (arith, f)) (λ f. omega (arith, f)) (λ f. omega (arith, f))
    (λ f. omega (arith, f)) (record { fields = []; split = refl }) free p
