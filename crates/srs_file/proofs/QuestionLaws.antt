-- What a line of questions does is determined, and so is what is wrong with it.
use Rattle.std.proofs.Common.{◌≡◌, ◌≢◌, ℕ, ℤ, pos, List, [], ◌∷◌, codes, refl, sym, ◌∙◌, ◌⊎◌, inl, inr, arith}
use Rattle.srs_num.specs.declared.pairs.V2.{V2}
use Rattle.srs_num.specs.Points.{Point as Place}
use Rattle.srs_tree.specs.declared.queries.Query.{Query}
use Rattle.srs_line.specs.declared.slip.Slip.{Slip}
use Rattle.srs_line.specs.declared.slip.Slip.TheVariants.{Count}
use Rattle.srs_line.specs.Fields.{Says, HasWord}
use Rattle.srs_line.proofs.FieldLaws.{word_once, says_once, no_field_slip, field_slip_once, no_count_slip, count_slip_once}
use Rattle.srs_file.specs.declared.questions.Questions.{Questions}
use Rattle.srs_cert.specs.Sayings.{place_numbers}
use Rattle.srs_file.specs.QuestionReading.{SaysPlace, IsPlaceSlip, SaysOrbit, IsOrbitSlip, StepsQuestion, SlipsAsked, StepsVertex, TakesQuestion, SlipsQuestion, AsksByWord, TakesInSession, SlipsInSession}
use Rattle.srs_file.specs.Questions.{orbit_numbers}
use Rattle.srs_file.proofs.LeafLaws.{same_pair}
use Rattle.srs_file.proofs.RingLaws.{opens_once, takes_once, ring_apart, ring_slips_once}

pub first : (a b : ℕ) (xs ys : List ℕ) → a ∷ xs ≡ b ∷ ys → a ≡ b
first a b xs ys e = cc

-- two words with different first bytes don't begin one line
pub two_words : (a b : ℕ) (xs ys line : List ℕ) → a ≢ b → HasWord (a ∷ xs) line
    → HasWord (b ∷ ys) line → ⊥
two_words a b xs ys line ne v w = ne (first a b xs ys (word_once (a ∷ xs) (b ∷ ys) line v w))

point_region : (line : List ℕ) → HasWord (codes "point") line → HasWord (codes "region") line → ⊥
point_region line v w = two_words 112 114 _ _ line (λ e. omega (arith, e)) v w

point_orbit : (line : List ℕ) → HasWord (codes "point") line → HasWord (codes "orbit") line → ⊥
point_orbit line v w = two_words 112 111 _ _ line (λ e. omega (arith, e)) v w

region_orbit : (line : List ℕ) → HasWord (codes "region") line → HasWord (codes "orbit") line → ⊥
region_orbit line v w = two_words 114 111 _ _ line (λ e. omega (arith, e)) v w

same_place : (a b c x y z : ℤ) → a ≡ x → b ≡ y → c ≡ z → let r : Place = record { p = a; q = b; d = c } in let s : Place = record { p = x; q = y; d = z } in r ≡ s
same_place a b c x y z e f g = rw (e, f, g) refl

place_once : (r s : Place) (line : List ℕ) → Says (codes "point") (place_numbers r) line → Says (codes "point") (place_numbers s) line → r ≡ s
place_once r s line p q =
    let same = says_once (codes "point") line (place_numbers r) (place_numbers s) p q in
    let one : r.p ≡ s.p = cc in
    let two : r.q ≡ s.q = cc in
    let three : r.d ≡ s.d = cc in
    same_place r.p r.q r.d s.p s.q s.d one two three

no_place_slip : (r : Place) (line : List ℕ) (slip : Slip) → SaysPlace r line → IsPlaceSlip line slip → ⊥
no_place_slip r line slip p (inl f) = no_field_slip (codes "point") line (place_numbers r) slip p.0 f
no_place_slip r line slip p (inr (s, q, out, e)) = let same = place_once r s line p.0 q in out (rw same at p.1)

place_slip_once : (line : List ℕ) (d e : Slip) → IsPlaceSlip line d → IsPlaceSlip line e → d ≡ e
place_slip_once line d e (inl f) (inl g) = field_slip_once (codes "point") line 3 d e f g
place_slip_once line d e (inl f) (inr (s, q, out, g)) = absurd (no_field_slip (codes "point") line (place_numbers s) d q f)
place_slip_once line d e (inr (s, q, out, f)) (inl g) = absurd (no_field_slip (codes "point") line (place_numbers s) e q g)
place_slip_once line d e (inr (r, p, out, f)) (inr (s, q, out', g)) = f ∙ sym g

orbit_once : (r s : Place) (z y : V2) (m n : ℤ) (line : List ℕ) → Says (codes "orbit") (orbit_numbers r z m) line → Says (codes "orbit") (orbit_numbers s y n) line → (r ≡ s) × (z ≡ y) × (m ≡ n)
orbit_once r s z y m n line p q =
    let same = says_once (codes "orbit") line (orbit_numbers r z m) (orbit_numbers s y n) p q in
    let one : r.p ≡ s.p = cc in
    let two : r.q ≡ s.q = cc in
    let three : r.d ≡ s.d = cc in
    let four : z.a ≡ y.a = cc in
    let five : z.b ≡ y.b = cc in
    let six : m ≡ n = cc in
    (same_place r.p r.q r.d s.p s.q s.d one two three, same_pair z.a z.b y.a y.b four five, six)

no_orbit_slip : (r : Place) (z : V2) (n : ℕ) (line : List ℕ) (slip : Slip) → SaysOrbit r z n line → IsOrbitSlip line slip → ⊥
no_orbit_slip r z n line slip p (inl f) = no_field_slip (codes "orbit") line (orbit_numbers r z (pos n)) slip p.0 f
no_orbit_slip r z n line slip p (inr (s, y, m, q, out, e)) =
    let same = orbit_once r s z y (pos n) m line p.0 q in
    out n (rw (same.0, same.1) at p.1) (sym same.2)

orbit_slip_once : (line : List ℕ) (d e : Slip) → IsOrbitSlip line d → IsOrbitSlip line e → d ≡ e
orbit_slip_once line d e (inl f) (inl g) = field_slip_once (codes "orbit") line 6 d e f g
orbit_slip_once line d e (inl f) (inr (s, y, m, q, out, g)) = absurd (no_field_slip (codes "orbit") line (orbit_numbers s y m) d q f)
orbit_slip_once line d e (inr (s, y, m, q, out, f)) (inl g) = absurd (no_field_slip (codes "orbit") line (orbit_numbers s y m) e q g)
orbit_slip_once line d e (inr (r, z, m, p, out, f)) (inr (s, y, n, q, out', g)) = f ∙ sym g

asked_once : (s t u : Questions) (line : List ℕ) → StepsQuestion s line t → StepsQuestion s line u → t ≡ u
asked_once s t u line (inl (v, (r, p, e))) (inl (w, (r', q, f))) = let same = place_once r r' line p.0 q.0 in rw (e, f, same) refl
asked_once s t u line (inl (v, p)) (inr (inl (w, q))) = absurd (point_region line v w)
asked_once s t u line (inl (v, p)) (inr (inr (w, q))) = absurd (point_orbit line v w)
asked_once s t u line (inr (inl (v, p))) (inl (w, q)) = absurd (point_region line w v)
asked_once s t u line (inr (inl (v, (ring, p, e)))) (inr (inl (w, (ring', q, f)))) = rw (e, f, opens_once (codes "region") ring ring' line p q) refl
asked_once s t u line (inr (inl (v, p))) (inr (inr (w, q))) = absurd (region_orbit line v w)
asked_once s t u line (inr (inr (v, p))) (inl (w, q)) = absurd (point_orbit line w v)
asked_once s t u line (inr (inr (v, p))) (inr (inl (w, q))) = absurd (region_orbit line w v)
asked_once s t u line (inr (inr (v, (r, z, m, p, e)))) (inr (inr (w, (r', y, n, q, f)))) =
    let same = orbit_once r r' z y (pos m) (pos n) line p.0 q.0 in
    let number : m ≡ n = let k = same.2 in cc in
    rw (e, f, same.0, same.1, number) refl

asked_apart : (s t : Questions) (line : List ℕ) (slip : Slip) (back : ℕ) → StepsQuestion s line t → SlipsAsked line slip back → ⊥
asked_apart s t line slip back (inl (v, (r, p, e))) (inl (w, f, b)) = no_place_slip r line slip p f
asked_apart s t line slip back (inl (v, p)) (inr (inl (w, f, b))) = point_region line v w
asked_apart s t line slip back (inl (v, p)) (inr (inr (inl (w, f, b)))) = point_orbit line v w
asked_apart s t line slip back (inl (v, p)) (inr (inr (inr (none, f, b)))) = none.point v
asked_apart s t line slip back (inr (inl (v, p))) (inl (w, f, b)) = point_region line w v
asked_apart s t line slip back (inr (inl (v, (ring, (n, p, e), f)))) (inr (inl (w, g, b))) = no_count_slip (codes "region") line 3 16 n Count slip p g
asked_apart s t line slip back (inr (inl (v, p))) (inr (inr (inl (w, f, b)))) = region_orbit line v w
asked_apart s t line slip back (inr (inl (v, p))) (inr (inr (inr (none, f, b)))) = none.region v
asked_apart s t line slip back (inr (inr (v, p))) (inl (w, f, b)) = point_orbit line w v
asked_apart s t line slip back (inr (inr (v, p))) (inr (inl (w, f, b))) = region_orbit line w v
asked_apart s t line slip back (inr (inr (v, (r, z, n, p, e)))) (inr (inr (inl (w, f, b)))) = no_orbit_slip r z n line slip p f
asked_apart s t line slip back (inr (inr (v, p))) (inr (inr (inr (none, f, b)))) = none.orbit v

asked_slips : (line : List ℕ) (d e : Slip) (m n : ℕ) → SlipsAsked line d m → SlipsAsked line e n → (d ≡ e) × (m ≡ n)
asked_slips line d e m n (inl (v, f, b)) (inl (w, g, c)) = (place_slip_once line d e f g, b ∙ sym c)
asked_slips line d e m n (inl (v, f, b)) (inr (inl (w, g, c))) = absurd (point_region line v w)
asked_slips line d e m n (inl (v, f, b)) (inr (inr (inl (w, g, c)))) = absurd (point_orbit line v w)
asked_slips line d e m n (inl (v, f, b)) (inr (inr (inr (none, g, c)))) = absurd (none.point v)
asked_slips line d e m n (inr (inl (v, f, b))) (inl (w, g, c)) = absurd (point_region line w v)
asked_slips line d e m n (inr (inl (v, f, b))) (inr (inl (w, g, c))) = (count_slip_once (codes "region") line 3 16 Count d e f g, b ∙ sym c)
asked_slips line d e m n (inr (inl (v, f, b))) (inr (inr (inl (w, g, c)))) = absurd (region_orbit line v w)
asked_slips line d e m n (inr (inl (v, f, b))) (inr (inr (inr (none, g, c)))) = absurd (none.region v)
asked_slips line d e m n (inr (inr (inl (v, f, b)))) (inl (w, g, c)) = absurd (point_orbit line w v)
asked_slips line d e m n (inr (inr (inl (v, f, b)))) (inr (inl (w, g, c))) = absurd (region_orbit line w v)
asked_slips line d e m n (inr (inr (inl (v, f, b)))) (inr (inr (inl (w, g, c)))) = (orbit_slip_once line d e f g, b ∙ sym c)
asked_slips line d e m n (inr (inr (inl (v, f, b)))) (inr (inr (inr (none, g, c)))) = absurd (none.orbit v)
asked_slips line d e m n (inr (inr (inr (none, f, b)))) (inl (w, g, c)) = absurd (none.point w)
asked_slips line d e m n (inr (inr (inr (none, f, b)))) (inr (inl (w, g, c))) = absurd (none.region w)
asked_slips line d e m n (inr (inr (inr (none, f, b)))) (inr (inr (inl (w, g, c)))) = absurd (none.orbit w)
asked_slips line d e m n (inr (inr (inr (none, f, b)))) (inr (inr (inr (none', g, c)))) = (f ∙ sym g, b ∙ sym c)

corner_once : (s t u : Questions) (line : List ℕ) → StepsVertex s line t → StepsVertex s line u → t ≡ u
corner_once s t u line (ring, p, inl (a, e)) (ring', q, inl (b, f)) = rw (e, f, takes_once s.ring ring ring' line p q) refl
corner_once s t u line (ring, p, inl (a, e)) (ring', q, inr (b, f)) = let same : ring ≡ ring' = takes_once s.ring ring ring' line p q in absurd (omega (arith, rw same at a, b))
corner_once s t u line (ring, p, inr (a, e)) (ring', q, inl (b, f)) = let same : ring ≡ ring' = takes_once s.ring ring ring' line p q in absurd (omega (arith, rw same at a, b))
corner_once s t u line (ring, p, inr (a, e)) (ring', q, inr (b, f)) = rw (e, f, takes_once s.ring ring ring' line p q) refl

pub question_once : (s t u : Questions) (line : List ℕ) → TakesQuestion s line t → TakesQuestion s line u → t ≡ u
question_once s t u line (inl (a, p)) (inl (b, q)) = corner_once s t u line p q
question_once s t u line (inl (a, p)) (inr (b, q)) = absurd (omega arith)
question_once s t u line (inr (a, p)) (inl (b, q)) = absurd (omega arith)
question_once s t u line (inr (a, p)) (inr (b, q)) = asked_once s t u line p q

pub question_apart : (s t : Questions) (line : List ℕ) (slip : Slip) (back : ℕ) → TakesQuestion s line t → SlipsQuestion s line slip back → ⊥
question_apart s t line slip back (inl (a, (ring, p, e))) (inl (b, f)) = ring_apart s.ring ring line slip back p f
question_apart s t line slip back (inl (a, p)) (inr (b, f)) = omega arith
question_apart s t line slip back (inr (a, p)) (inl (b, f)) = omega arith
question_apart s t line slip back (inr (a, p)) (inr (b, f)) = asked_apart s t line slip back p f

pub question_slips : (s : Questions) (line : List ℕ) (d e : Slip) (m n : ℕ) → SlipsQuestion s line d m → SlipsQuestion s line e n → (d ≡ e) × (m ≡ n)
question_slips s line d e m n (inl (a, f)) (inl (b, g)) = ring_slips_once s.ring line d e m n f g
question_slips s line d e m n (inl (a, f)) (inr (b, g)) = absurd (omega arith)
question_slips s line d e m n (inr (a, f)) (inl (b, g)) = absurd (omega arith)
question_slips s line d e m n (inr (a, f)) (inr (b, g)) = asked_slips line d e m n f g

-- a line whose first token begins otherwise than those of questions is none, where no vertex is
-- awaited
pub other_no_question : (b : ℕ) (bs line : List ℕ) (s t : Questions) → b ≢ 112 → b ≢ 114 → b ≢ 111
    → HasWord (b ∷ bs) line → s.ring.left ≡ 0 → TakesQuestion s line t → ⊥
other_no_question b bs line s t p r o w zero (inl (a, q)) = omega arith
other_no_question b bs line s t p r o w zero (inr (a, inl (v, q))) = two_words b 112 bs _ line p w v
other_no_question b bs line s t p r o w zero (inr (a, inr (inl (v, q)))) =
    two_words b 114 bs _ line r w v
other_no_question b bs line s t p r o w zero (inr (a, inr (inr (v, q)))) =
    two_words b 111 bs _ line o w v

-- the line `end` is none of a question, where no vertex is awaited
pub end_no_question : (s t : Questions) → s.ring.left ≡ 0 → TakesQuestion s (codes "end") t → ⊥
end_no_question s t zero p =
    other_no_question 101 _ (codes "end") s t (λ e. omega (arith, e)) (λ e. omega (arith, e))
    (λ e. omega (arith, e)) (record { fields = []; split = refl }) zero p

-- the first token of a line that asks by one word
asks_word : (line : List ℕ) (query : Query) → AsksByWord line query → HasWord (codes "fresh") line
    ⊎ HasWord (codes "count") line
asks_word line query (inl (e, f)) = inl (rw e (record { fields = []; split = refl }))
asks_word line query (inr (e, f)) = inr (rw e (record { fields = []; split = refl }))

-- no line asks a question by one word that it asks otherwise too
word_no_question : (line : List ℕ) (query : Query) (s t : Questions) → AsksByWord line query
    → s.ring.left ≡ 0 → TakesQuestion s line t → ⊥
word_no_question line query s t asks zero p =
    elim (asks_word line query asks) [
      | inl w ↦ other_no_question 102 _ line s t (λ e. omega (arith, e)) (λ e. omega (arith, e))
          (λ e. omega (arith, e)) w zero p
      | inr w ↦ other_no_question 99 _ line s t (λ e. omega (arith, e)) (λ e. omega (arith, e))
          (λ e. omega (arith, e)) w zero p
    ]

fresh_count : (line : List ℕ) → line ≡ codes "fresh" → line ≡ codes "count" → ⊥
fresh_count line e f = let same : codes "fresh" ≡ codes "count" = sym e ∙ f in
    omega (arith, first 102 99 _ _ same)

asked_word_once : (line : List ℕ) (p q : Query) → AsksByWord line p → AsksByWord line q → p ≡ q
asked_word_once line p q (inl (e, f)) (inl (g, h)) = f ∙ sym h
asked_word_once line p q (inl (e, f)) (inr (g, h)) = absurd (fresh_count line e g)
asked_word_once line p q (inr (e, f)) (inl (g, h)) = absurd (fresh_count line g e)
asked_word_once line p q (inr (e, f)) (inr (g, h)) = f ∙ sym h

pub in_session_once : (s t u : Questions) (line : List ℕ) → TakesInSession s line t
    → TakesInSession s line u → t ≡ u
in_session_once s t u line (inl p) (inl q) = question_once s t u line p q
in_session_once s t u line (inl p) (inr (zero, query, asks, e)) =
    absurd (word_no_question line query s t asks zero p)
in_session_once s t u line (inr (zero, query, asks, e)) (inl q) =
    absurd (word_no_question line query s u asks zero q)
in_session_once s t u line (inr (zero, p, asks, e)) (inr (zero', q, asks', f)) =
    rw (e, f, asked_word_once line p q asks asks') refl

pub in_session_apart : (s t : Questions) (line : List ℕ) (slip : Slip) (back : ℕ)
    → TakesInSession s line t → SlipsInSession s line slip back → ⊥
in_session_apart s t line slip back (inl p) (none, f) = question_apart s t line slip back p f
in_session_apart s t line slip back (inr (zero, query, asks, e)) (none, f) = none zero query asks

-- the first token of a line that is one word of its own is none of those by which a session's
-- question is asked
pub other_in_session : (b : ℕ) (bs line : List ℕ) (s t : Questions) → b ≢ 112 → b ≢ 114 → b ≢ 111
    → b ≢ 102 → b ≢ 99 → HasWord (b ∷ bs) line
    → s.ring.left ≡ 0 → TakesInSession s line t → ⊥
other_in_session b bs line s t p r o f c w zero (inl q) =
    other_no_question b bs line s t p r o w zero q
other_in_session b bs line s t p r o f c w zero (inr (zero', query, asks, e)) =
    elim (asks_word line query asks) [
      | inl v ↦ two_words b 102 bs _ line f w v
      | inr v ↦ two_words b
          99 bs _ line c w v
    ]
