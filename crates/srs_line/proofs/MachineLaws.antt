-- Of a text, the good lines at its front are determined, and so is what follows them.
use Rattle.std.proofs.Common.{◌≡◌, ◌≢◌, ℕ, suc, List, [], ◌∷◌, ◌++◌, length, refl, sym, ap, ◌∙◌, inl, inr, append_assoc}
use Rattle.std.proofs.lemmas.List.Elements.{All-nil, All-head, All-tail}
use Rattle.srs_text.specs.Line.{HasNoLf, IsLineOf}
use Rattle.srs_line.specs.Machine.{lines_text, Runs, Reaches, IsWrong, SlipsAt, IsRead, IsExact}
use Rattle.srs_line.specs.declared.slip.Slip.{Slip}
use Rattle.srs_line.specs.declared.slip.Slip.TheVariants.{Missing}

-- The first line is determined.
pub line_once : (x y a b : List ℕ) → x ++ 10 ∷ a ≡ y ++ 10 ∷ b → HasNoLf x → HasNoLf y → (x ≡ y) × (a ≡ b)
line_once [] [] a b e p q = (refl, cc)
line_once [] (d ∷ y) a b e p q = absurd (All-head (λ c. c ≢ 10) d y q (cc))
line_once (c ∷ x) [] a b e p q = absurd (All-head (λ d. d ≢ 10) c x p (cc))
line_once (c ∷ x) (d ∷ y) a b e p q =
    let r = line_once x y a b (cc) (All-tail (λ d. d ≢ 10) c x p) (All-tail (λ d. d ≢ 10) d y q) in
    let head : c ≡ d = cc in
    (rw (head, r.0) refl, r.1)

-- A text with a line has an LF.
lf_stands : (line more : List ℕ) → HasNoLf (line ++ 10 ∷ more) → ⊥
lf_stands [] more h = All-head (λ c. c ≢ 10) 10 more h refl
lf_stands (c ∷ line) more h = lf_stands line more (All-tail (λ d. d ≢ 10) c (line ++ 10 ∷ more) h)

pub no_line : (rest line more : List ℕ) → HasNoLf rest → IsLineOf rest line more → ⊥
no_line rest line more h l = lf_stands line more (rw l.whole at h)

opened : (x : List ℕ) (xs : List (List ℕ)) (rest : List ℕ) → lines_text (x ∷ xs) ++ rest ≡ x ++ 10 ∷ (lines_text xs ++ rest)
opened x xs rest = simp append_assoc

module _ {S : Type 0} (Steps : S → List ℕ → S → Type 0)
    (det : (s t u : S) (line : List ℕ) → Steps s line t → Steps s line u → t ≡ u) where
  -- no good line follows
  abbrev pub Stuck : S → List ℕ → Type 0
  Stuck s rest = (line more : List ℕ) (t : S) → IsLineOf rest line more → Steps s line t → ⊥

  walk : (xs ys : List (List ℕ)) (start s t : S) (a b : List ℕ) → lines_text xs ++ a ≡ lines_text ys ++ b → Runs Steps start xs s → Runs Steps start ys t → Stuck s a → Stuck t b → (length xs ≡ length ys) × (s ≡ t) × (a ≡ b)
  walk [] [] start s t a b e r q f g = (refl, sym r ∙ q, e)
  walk [] (y ∷ ys) start s t a b e r q f g =
      absurd (f y (lines_text ys ++ b) q.0 (record { whole = e ∙ opened y ys b; plain = q.2 }) (rw (← r) q.1))
  walk (x ∷ xs) [] start s t a b e r q f g =
      absurd (g x (lines_text xs ++ a) r.0 (record { whole = sym e ∙ opened x xs a; plain = r.2 }) (rw (← q) r.1))
  walk (x ∷ xs) (y ∷ ys) start s t a b e r q f g =
      let one = line_once x y (lines_text xs ++ a) (lines_text ys ++ b) (sym (opened x xs a) ∙ e ∙ opened y ys b) r.2 q.2 in
      let same : r.0 ≡ q.0 = det start r.0 q.0 x r.1 (rw one.0 q.1) in
      let w = walk xs ys q.0 s t a b one.1 (rw (← same) r.3) q.3 f g in
      (ap suc w.0, w.1, w.2)

  pub reached_once : (start s t : S) (text : List ℕ) (m n : ℕ) (a b : List ℕ) → Reaches Steps start text m s a → Reaches Steps start text n t b → Stuck s a → Stuck t b → (m ≡ n) × (s ≡ t) × (a ≡ b)
  reached_once start s t text m n a b r q f g =
      let w = walk r.lines q.lines start s t a b (sym r.whole ∙ q.whole) r.good q.good f g in
      (r.count_is ∙ w.0 ∙ sym q.count_is, w.1, w.2)

module _ {S : Type 0} (Steps : S → List ℕ → S → Type 0) (Slips : S → List ℕ → Slip → ℕ → Type 0) (IsEnd : S → Type 0)
    (exact : IsExact Steps Slips IsEnd) where
  abbrev Wrong : S → List ℕ → Slip → ℕ → Type 0
  Wrong s rest slip back = IsWrong Slips IsEnd s rest slip back

  stuck_wrong : (s : S) (rest : List ℕ) (slip : Slip) (back : ℕ) → Wrong s rest slip back → Stuck Steps exact.steps_once s rest
  stuck_wrong s rest slip back (inl (end, after, e, f)) line more t l p = exact.over s t line end p
  stuck_wrong s rest slip back (inr (inl (not_ended, none, e, f))) line more t l p = no_line rest line more none l
  stuck_wrong s rest slip back (inr (inr (not_ended, line', more', l', q))) line more t l p =
      let same = line_once line line' more more' (sym l.whole ∙ l'.whole) l.plain l'.plain in
      exact.apart s t line slip back p (rw same.0 q)

  wrong_once : (s : S) (rest : List ℕ) (d e : Slip) (m n : ℕ) → Wrong s rest d m → Wrong s rest e n → (d ≡ e) × (m ≡ n)
  wrong_once s rest d e m n (inl (end, after, f, b)) (inl (end', after', g, b')) = (f ∙ sym g, b ∙ sym b')
  wrong_once s rest d e m n (inl (end, after, f, b)) (inr (inl (not_ended, none, g, b'))) = absurd (not_ended end)
  wrong_once s rest d e m n (inl (end, after, f, b)) (inr (inr (not_ended, line, more, l, q))) = absurd (not_ended end)
  wrong_once s rest d e m n (inr (inl (not_ended, none, f, b))) (inl (end, after, g, b')) = absurd (not_ended end)
  wrong_once s rest d e m n (inr (inl (not_ended, none, f, b))) (inr (inl (open_still, none', g, b'))) = (f ∙ sym g, b ∙ sym b')
  wrong_once s rest d e m n (inr (inl (not_ended, none, f, b))) (inr (inr (open_still, line, more, l, q))) = absurd (no_line rest line more none l)
  wrong_once s rest d e m n (inr (inr (not_ended, line, more, l, q))) (inl (end, after, g, b')) = absurd (not_ended end)
  wrong_once s rest d e m n (inr (inr (not_ended, line, more, l, q))) (inr (inl (open_still, none, g, b'))) = absurd (no_line rest line more none l)
  wrong_once s rest d e m n (inr (inr (not_ended, line, more, l, q))) (inr (inr (open_still, line', more', l', q'))) =
      let same = line_once line line' more more' (sym l.whole ∙ l'.whole) l.plain l'.plain in
      exact.slips_once s line d e m n q (rw same.0 q')

  stuck_end : (s : S) → IsEnd s → Stuck Steps exact.steps_once s []
  stuck_end s end line more t l p = exact.over s t line end p

  pub read_once : (start last last' : S) (text : List ℕ) → IsRead Steps IsEnd start text last → IsRead Steps IsEnd start text last' → last ≡ last'
  read_once start last last' text g h =
      (reached_once Steps exact.steps_once start last last' text g.0 h.0 [] [] g.1 h.1 (stuck_end last g.2) (stuck_end last' h.2)).1

  pub never_both : (start last : S) (text : List ℕ) (line : ℕ) (slip : Slip) → IsRead Steps IsEnd start text last → SlipsAt Steps Slips IsEnd start text line slip → ⊥
  never_both start last text line slip g f =
      let r = reached_once Steps exact.steps_once start last f.state text g.0 f.count [] f.rest g.1 f.good (stuck_end last g.2) (stuck_wrong f.state f.rest slip f.back f.wrong) in
      let end : IsEnd f.state = rw (← r.1) g.2 in
      elim f.wrong [
        | inl w ↦ w.1 (sym r.2)
        | inr w ↦ elim w [ inl v ↦ v.0 end | inr v ↦ v.0 end ]
      ]

  pub one_slip : (start : S) (text : List ℕ) (m n : ℕ) (d e : Slip) → SlipsAt Steps Slips IsEnd start text m d → SlipsAt Steps Slips IsEnd start text n e → (m ≡ n) × (d ≡ e)
  one_slip start text m n d e f g =
      let r = reached_once Steps exact.steps_once start f.state g.state text f.count g.count f.rest g.rest f.good g.good (stuck_wrong f.state f.rest d f.back f.wrong) (stuck_wrong g.state g.rest e g.back g.wrong) in
      let w = wrong_once g.state g.rest d e f.back g.back (rw (r.1, r.2) at f.wrong) g.wrong in
      (rw (f.line_is, r.0, w.1, ← g.line_is) refl, w.0)

  none_follows : (s : S) → Stuck Steps exact.steps_once s []
  none_follows s line more t l p = no_line [] line more (All-nil (λ c. c ≢ 10)) l

  -- a text that is all good lines slips at most in that a line is wanted
  pub only_missing : (start s : S) (text : List ℕ) (count line : ℕ) (slip : Slip) → Reaches Steps start text count s [] → SlipsAt Steps Slips IsEnd start text line slip → slip ≡ Missing
  only_missing start s text count line slip g f =
      let r = reached_once Steps exact.steps_once start s f.state text count f.count [] f.rest g f.good (none_follows s) (stuck_wrong f.state f.rest slip f.back f.wrong) in
      let clear : HasNoLf f.rest = rw (← r.2) (All-nil (λ c. c ≢ 10)) in
      elim f.wrong [
        | inl w ↦ absurd (w.1 (sym r.2))
        | inr w ↦ elim w [ inl v ↦ v.2 | inr v ↦ absurd (no_line f.rest v.1 v.2 clear v.3) ]
      ]
