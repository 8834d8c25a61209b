-- Each text is a certificate with questions, or has a first slip.
use Rattle.std.proofs.Common.{◌≡◌, ◌⊎◌, ◌≤◌, ◌<◌, ◌++◌, true, ℕ, ℤ, pos, ◌≤ℤ◌, List, [], ◌∷◌, codes, refl, inl, inr, arith}
use Rattle.srs_num.specs.declared.pairs.V2.{V2}
use Rattle.srs_num.specs.declared.points.TheConstants.{MOST_DENOMINATOR, MOST_NUMERATOR}
use Rattle.srs_num.specs.Points.{Point as Place, IsPtSized, IsPoint, IsWithin, IsNear}
use Rattle.srs_map.specs.Step.{IsNarrow}
use Rattle.srs_plane.specs.Polygons.{region_of}
use Rattle.srs_tree.specs.declared.queries.Query.{Query}
use Rattle.srs_tree.specs.declared.queries.Query.TheVariants.{Point, Polygon, Orbit}
use Rattle.srs_tree.specs.Questions.{IsOrbitAsked}
use Rattle.srs_line.specs.declared.slip.Slip.{Slip}
use Rattle.srs_line.specs.declared.slip.Slip.TheVariants.{Word, Range}
use Rattle.srs_line.specs.Machine.{Runs, IsTotal}
use Rattle.srs_line.proofs.Decided.{Decided, both_decided, same_decided, eq_decided, le_decided, bytes_decided, word_decided, three_decided, six_decided, natural}
use Rattle.srs_file.specs.declared.questions.Questions.{Questions}
use Rattle.srs_file.specs.declared.ask_reader.AskReader.{AskReader}
use Rattle.srs_file.specs.Ring.{no_ring, IsGrowing}
use Rattle.srs_file.specs.Questions.{orbit_numbers}
use Rattle.srs_file.specs.QuestionReading.{SaysPlace, IsPlaceSlip, SaysOrbit, IsOrbitSlip, AddsQuery, StepsVertex, StepsQuestion, SlipsAsked, TakesQuestion, SlipsQuestion}
use Rattle.srs_file.specs.AskReading.{ask_start, EndsHere, StepsAsking, AskSteps, AskSlips, AskEnds}
use Rattle.srs_file.proofs.RingDecided.{int_le_decided, within_decided, near_decided, ring_decided, ring_keeps}
use Rattle.srs_file.proofs.OutlineDecided.{flag_decided, no_ring_grows, opens_decided, opens_keeps}
use Rattle.srs_file.proofs.TreeDecided.{Goes, narrow_decided}
use Rattle.srs_file.proofs.CertDecided.{Keeps, keeps_step, cert_ends, cert_goes}

sized_decided : (r : Place) → Decided (IsPtSized r)
sized_decided r =
    same_decided ((IsPoint r × IsWithin MOST_DENOMINATOR r.d) × (IsWithin MOST_NUMERATOR r.p × IsWithin MOST_NUMERATOR r.q)) (IsPtSized r)
    (λ s. record { is_point = s.0.0; d_range = s.0.1; p_range = s.1.0; q_range = s.1.1 }) (λ s. ((s.is_point, s.d_range), (s.p_range, s.q_range)))
    (both_decided (IsPoint r × IsWithin MOST_DENOMINATOR r.d) (IsWithin MOST_NUMERATOR r.p × IsWithin MOST_NUMERATOR r.q)
    (both_decided (IsPoint r) (IsWithin MOST_DENOMINATOR r.d) (int_le_decided (pos 1) r.d) (within_decided MOST_DENOMINATOR r.d))
    (both_decided (IsWithin MOST_NUMERATOR r.p) (IsWithin MOST_NUMERATOR r.q) (within_decided MOST_NUMERATOR r.p) (within_decided MOST_NUMERATOR r.q)))

place_decided : (line : List ℕ) → ((r : Place) × SaysPlace r line) ⊎ ((slip : Slip) × IsPlaceSlip line slip)
place_decided line =
    elim (three_decided (codes "point") line) [
      | inl n ↦
          let r : Place = record { p = n.0; q = n.1; d = n.2 } in
          elim (sized_decided r) [ inl sized ↦ inl (r, (n.3, sized)) | inr out ↦ inr (Range, inr (r, n.3, out, refl)) ]
      | inr f ↦ inr (f.0, inl f.1)
    ]

asked_decided : (r : Place) (z : V2) (n : ℕ) → Decided (IsOrbitAsked r z n)
asked_decided r z n =
    same_decided ((IsPtSized r × IsNear r) × (IsNarrow z × (n ≤ 100000))) (IsOrbitAsked r z n)
    (λ o. record { sized = o.0.0; near = o.0.1; narrow = o.1.0; few = o.1.1 }) (λ o. ((o.sized, o.near), (o.narrow, o.few)))
    (both_decided (IsPtSized r × IsNear r) (IsNarrow z × (n ≤ 100000)) (both_decided (IsPtSized r) (IsNear r) (sized_decided r) (near_decided r))
    (both_decided (IsNarrow z) (n ≤ 100000) (narrow_decided z) (le_decided n 100000)))

-- an orbit and its number of steps
abbrev OrbitSaid : List ℕ → Type 0
OrbitSaid line = (r : Place) × (z : V2) × (n : ℕ) × SaysOrbit r z n line

other_steps : (r : Place) (z : V2) (m : ℤ) (k n : ℕ) → m ≡ pos k → ¬ (IsOrbitAsked r z k) → IsOrbitAsked r z n → m ≡ pos n → ⊥
other_steps r z m k n e bar asked f = let same : n ≡ k = cc in bar (rw same at asked)

orbit_decided : (line : List ℕ) → OrbitSaid line ⊎ ((slip : Slip) × IsOrbitSlip line slip)
orbit_decided line =
    elim (six_decided (codes "orbit") line) [
      | inl s ↦
          let r : Place = record { p = s.0; q = s.1; d = s.2 } in
          let z : V2 = record { a = s.3; b = s.4 } in
          elim (natural s.5) [
            | inl n ↦ elim (asked_decided r z n.0) [
              | inl asked ↦ inl (r, z, n.0, (rw n.1 at s.6, asked))
              | inr bar ↦ inr (Range, inr (r, z, s.5, s.6, (λ k asked e. other_steps r z s.5 n.0 k n.1 bar asked e), refl))
            ]
            | inr none ↦ inr (Range, inr (r, z, s.5, s.6, (λ k asked e. none k e), refl))
          ]
      | inr f ↦ inr (f.0, inl f.1)
    ]

-- the question is put at the end
pub asks : (s : Questions) (query : Query) → (t : Questions) × AddsQuery s query t
asks s query = (record s { queries = s.queries ++ query ∷ [] }, refl)

question_decided : (s : Questions) (line : List ℕ) → Goes (StepsQuestion s line) (SlipsAsked line)
question_decided s line =
    elim (word_decided (codes "point") line) [
      | inl w ↦ elim (place_decided line) [
        | inl r ↦ let t = asks s (Point r.0) in inl (t.0, inl (w, (r.0, r.1, t.1)))
        | inr f ↦ inr (f.0, 0, inl (w, f.1, refl))
      ]
      | inr point ↦ elim (word_decided (codes "region") line) [
        | inl w ↦ elim (opens_decided (codes "region") line) [
          | inl r ↦ inl (record s { ring = r.0 }, inr (inl (w, (r.0, r.1, refl))))
          | inr f ↦ inr (f.0, 0, inr (inl (w, f.1, refl)))
        ]
        | inr region ↦ elim (word_decided (codes "orbit") line) [
          | inl w ↦ elim (orbit_decided line) [
            | inl o ↦ let t = asks s (Orbit o.0 o.1 o.2) in inl (t.0, inr (inr (w, (o.0, o.1, o.2, o.3, t.1))))
            | inr f ↦ inr (f.0, 0, inr (inr (inl (w, f.1, refl))))
          ]
          | inr orbit ↦ inr (Word, 0, inr (inr (inr (record { point = point; region = region; orbit = orbit }, refl, refl))))
        ]
      ]
    ]

corner_decided : (s : Questions) → IsGrowing s.ring.left s.ring.vertices → 0 < s.ring.left → (line : List ℕ)
    → ((t : Questions) × StepsVertex s line t) ⊎ ((slip : Slip) × (back : ℕ) × SlipsQuestion s line slip back)
corner_decided s g more line =
    elim (ring_decided s.ring g more line) [
      | inl r ↦ elim (eq_decided r.0.left 0) [
        | inl zero ↦ let t = asks (record s { ring = no_ring }) (Polygon (region_of r.0.vertices)) in inl (t.0, (r.0, r.1, inr (zero, t.1)))
        | inr some ↦ inl (record s { ring = r.0 }, (r.0, r.1, inl (omega (arith, some), refl)))
      ]
      | inr f ↦ inr (f.0, f.1, inl (more, f.2))
    ]

pub takes_decided : (s : Questions) → IsGrowing s.ring.left s.ring.vertices → (line : List ℕ) → Goes (TakesQuestion s line) (SlipsQuestion s line)
takes_decided s g line =
    elim (eq_decided s.ring.left 0) [
      | inl zero ↦ elim (question_decided s line) [ inl t ↦ inl (t.0, inr (zero, t.1)) | inr f ↦ inr (f.0, f.1, inr (zero, f.2)) ]
      | inr some ↦
          let more : 0 < s.ring.left = omega (arith, some) in
          elim (corner_decided s g more line) [ inl t ↦ inl (t.0, inl (more, t.1)) | inr f ↦ inr f ]
    ]

pub question_keeps : (s t : Questions) (line : List ℕ) → IsGrowing s.ring.left s.ring.vertices → TakesQuestion s line t → IsGrowing t.ring.left t.ring.vertices
question_keeps s t line g (inl (more, (ring, p, inl (some, e)))) = rw e (ring_keeps s.ring ring line g more p)
question_keeps s t line g (inl (more, (ring, p, inr (zero, e)))) = rw e no_ring_grows
question_keeps s t line g (inr (zero, inl (w, (r, p, e)))) = rw e g
question_keeps s t line g (inr (zero, inr (inl (w, (ring, p, e))))) = rw e (opens_keeps (codes "region") line ring p)
question_keeps s t line g (inr (zero, inr (inr (w, (r, z, n, p, e))))) = rw e g

-- both rings keep what a ring keeps
record KeepsBoth (s : AskReader) : Type 0 where
  cert : Keeps s.cert
  questions : IsGrowing s.questions.ring.left s.questions.ring.vertices

keeps_next : (s t : AskReader) (line : List ℕ) → KeepsBoth s → AskSteps s line t → KeepsBoth t
keeps_next s t line k (still, inl (more, c, p, e)) = rw e (record { cert = keeps_step s.cert c line k.cert p; questions = k.questions })
keeps_next s t line k (still, inr (ends, inl (q, p, e))) = rw e (record { cert = k.cert; questions = question_keeps s.questions q line k.questions p })
keeps_next s t line k (still, inr (ends, inr (here, e))) = rw e (record { cert = k.cert; questions = k.questions })

keeps_all : (lines : List (List ℕ)) (s t : AskReader) → Runs AskSteps s lines t → KeepsBoth s → KeepsBoth t
keeps_all [] s t e k = rw (← e) k
keeps_all (line ∷ lines) s t (u, step, plain, runs) k = keeps_all lines u t runs (keeps_next s u line k step)

goes_on : (s : AskReader) → KeepsBoth s → ¬ (AskEnds s) → (line : List ℕ) → Goes (AskSteps s line) (AskSlips s line)
goes_on s k still line =
    elim (cert_ends s.cert) [
      | inl ends ↦ elim (both_decided (s.questions.ring.left ≡ 0) (line ≡ codes "end") (eq_decided s.questions.ring.left 0) (bytes_decided line (codes "end"))) [
        | inl here ↦ inl (record s { ended = true }, (still, inr (ends, inr (here, refl))))
        | inr other ↦ elim (takes_decided s.questions k.questions line) [
          | inl q ↦ inl (record s { questions = q.0 }, (still, inr (ends, inl (q.0, q.1, refl))))
          | inr f ↦ inr (f.0, f.1, inr (ends, other, f.2))
        ]
      ]
      | inr more ↦ elim (cert_goes s.cert k.cert more line) [
        | inl c ↦ inl (record s { cert = c.0 }, (still, inl (more, c.0, c.1, refl)))
        | inr f ↦ inr (f.0, f.1, inl (more, f.2))
      ]
    ]

pub ask_total : IsTotal AskSteps AskSlips AskEnds ask_start
ask_total = record {
  ends = λ s. flag_decided s.ended;
  goes_on = λ lines s runs still line plain. goes_on s (keeps_all lines ask_start s runs (record { cert = no_ring_grows; questions = no_ring_grows })) still line;
}
