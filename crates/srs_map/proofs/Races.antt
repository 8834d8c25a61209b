-- The states of the race, of the walk to the start of the loop and of the walk round it, and what they show at the end.
use Rattle.std.proofs.Common.{◌≡◌, ◌≢◌, inl, inr, ℕ, ◌+◌, ◌*◌, ◌<◌, ◌≤◌, Bool, true, false, ◌&&◌, int_eq, refl, sym, ap, ◌∙◌, subst, arith, zero-add, rules}
use Rattle.std.proofs.lemmas.Bool.{cases_lt}
use Rattle.srs_num.specs.declared.pairs.V2.{V2}
use Rattle.srs_num.specs.Points.{Point}
use Rattle.srs_map.specs.Step.{step_of, after, origin, IsNarrow}
use Rattle.srs_map.specs.Chase.{IsPlain, IsPlainBefore, IsEvent, AreApart, IsMeeting, IsFinish, IsStart, IsPeriod}
use Rattle.srs_map.specs.declared.chase.Place.{Place}
use Rattle.srs_map.specs.declared.chase.Finish.{Finish}
use Rattle.srs_map.specs.declared.chase.Finish.TheVariants.{Origin, Beyond, Meeting, Apart}
use Rattle.srs_map.proofs.Cycles.{after-next}

-- ---- what `==` of two pairs shows
pub same_pair : (x y : V2) (b : Bool) → b ≡ (int_eq x.a y.a && int_eq x.b y.b) → b ≡ true → x ≡ y
same_pair x y b e h = search rules

pub other_pair : (x y : V2) (b : Bool) → b ≡ (int_eq x.a y.a && int_eq x.b y.b) → b ≡ false → x ≢ y
other_pair x y b e h = search rules

module _ (r : Point) (z : V2) where
  next_pair : (k : ℕ) (u w : V2) → after k r z ≡ u → w ≡ step_of r u → after (k + 1) r z ≡ w
  next_pair k u w e f = after-next k r z ∙ ap (step_of r) e ∙ sym f

  plain_more : (k : ℕ) (w : V2) → IsPlainBefore r z k → after k r z ≡ w → IsPlain w → IsPlainBefore r z (k + 1)
  plain_more k w plain e p i l =
      elim (cases_lt i k) [
        | inl lt ↦ plain i lt
        | inr ge ↦ let same : k ≡ i = omega arith in subst (λ j. IsPlain (after j r z)) same (subst IsPlain (sym e) p)
      ]

  -- ---- the race
  -- the runners after i laps
  pub record IsLap (i : ℕ) (tortoise hare : V2) : Type 0 where
    pub slower : after i r z ≡ tortoise
    pub faster : after (i + i) r z ≡ hare
    pub plain : IsPlainBefore r z (i + i + 1)
    pub apart : AreApart r z i

  pub first_lap : IsPlain z → IsLap 0 z z
  first_lap p = record {
    slower = refl;
    faster = refl;
    plain = λ i l. let e : 0 ≡ i = omega arith in subst (λ j. IsPlain (after j r z)) e p;
    apart = λ i low high. absurd (omega arith);
  }

  module _ (i : ℕ) (tortoise hare : V2) (lap : IsLap i tortoise hare) where
    pub hare_plain : IsPlain hare
    hare_plain = subst IsPlain lap.faster (lap.plain (i + i) (omega arith))

    pub tortoise_plain : IsPlain tortoise
    tortoise_plain = subst IsPlain lap.slower (lap.plain i (omega arith))

    event_at : (n k m : ℕ) (w : V2) (seen : Finish) → k ≤ n + n → m ≡ k → IsPlainBefore r z k → after k r z ≡ w → IsEvent w m seen → IsFinish r z n seen
    event_at n k m w (Origin j) h e plain f (g, at) = subst (λ x. (x ≤ n + n) × IsPlainBefore r z x × (after x r z ≡ origin)) (sym (g ∙ e)) (h, plain, f ∙ at)
    event_at n k m w (Beyond j) h e plain f (g, at) = subst (λ x. (x ≤ n + n) × IsPlainBefore r z x × (IsNarrow (after x r z) → ⊥)) (sym (g ∙ e)) (h, plain, λ a. at (subst IsNarrow f a))
    event_at n k m w (Meeting p) h e plain f x = absurd x
    event_at n k m w Apart h e plain f x = absurd x

    module _ (middle : V2) (is_middle : middle ≡ step_of r hare) where
      at_middle : after (i + i + 1) r z ≡ middle
      at_middle = next_pair (i + i) hare middle lap.faster is_middle

      pub middle_ends : (n : ℕ) (seen : Finish) → i < n → IsEvent middle (2 * i + 1) seen → IsFinish r z n seen
      middle_ends n seen l e = event_at n (i + i + 1) (2 * i + 1) middle seen (omega arith) (omega arith) lap.plain at_middle e

      module _ (plain : IsPlain middle) (next : V2) (is_next : next ≡ step_of r middle) where
        plain_to_middle : IsPlainBefore r z (i + i + 1 + 1)
        plain_to_middle = plain_more (i + i + 1) middle lap.plain at_middle plain

        at_next : after (i + i + 1 + 1) r z ≡ next
        at_next = next_pair (i + i + 1) middle next at_middle is_next

        pub next_ends : (n : ℕ) (seen : Finish) → i < n → IsEvent next (2 * i + 2) seen → IsFinish r z n seen
        next_ends n seen l e = event_at n (i + i + 1 + 1) (2 * i + 2) next seen (omega arith) (omega arith) plain_to_middle at_next e

        module _ (next_plain : IsPlain next) (slow : V2) (is_slow : slow ≡ step_of r tortoise) where
          twice : i + i + 1 + 1 ≡ i + 1 + (i + 1)
          twice = omega arith

          next_faster : after (i + 1 + (i + 1)) r z ≡ next
          next_faster = subst (λ k. after k r z ≡ next) twice at_next

          plain_to_next : IsPlainBefore r z (i + 1 + (i + 1) + 1)
          plain_to_next = subst (λ k. IsPlainBefore r z (k + 1)) twice (plain_more (i + i + 1 + 1) next plain_to_middle at_next next_plain)

          next_slower : after (i + 1) r z ≡ slow
          next_slower = next_pair i tortoise slow lap.slower is_slow

          pub next_meeting : slow ≡ next → IsMeeting r z (record { steps = i + 1; pair = next })
          next_meeting e = record { some_step = omega arith; plain = plain_to_next; slower = next_slower ∙ e; faster = next_faster }

          pub next_lap : slow ≢ next → IsLap (i + 1) slow next
          next_lap ne = record {
            slower = next_slower;
            faster = next_faster;
            plain = plain_to_next;
            apart = λ t low high. elim (cases_lt t (i + 1)) [
              | inl lt ↦ lap.apart t low (omega arith)
              | inr ge ↦ λ e. let same : t ≡ i + 1 = omega arith in ne (sym next_slower ∙ subst (λ k. after k r z ≡ after (k + k) r z) same e ∙ next_faster)
            ];
          }

  pub still_apart : (i n : ℕ) (tortoise hare : V2) → IsLap i tortoise hare → i ≤ n → n ≤ i → IsFinish r z n Apart
  still_apart i n tortoise hare lap low high =
      let same : i ≡ n = omega arith in
      subst (λ k. IsFinish r z k Apart) same (lap.plain, lap.apart)

  -- ---- the walk to the start of the loop
  -- two walkers after so many steps, the second of them i steps ahead
  pub record IsApproach (i steps : ℕ) (first second : V2) : Type 0 where
    pub behind : after steps r z ≡ first
    pub ahead : after (steps + i) r z ≡ second
    pub least : (j : ℕ) → j < steps → after j r z ≢ after (j + i) r z

  pub first_approach : (p : Place) → IsMeeting r z p → IsApproach p.steps 0 z p.pair
  first_approach p met = record {
    behind = refl;
    ahead = ap (λ k. after k r z) (zero-add p.steps) ∙ met.slower;
    least = λ j l. absurd (omega arith);
  }

  module _ (p : Place) (met : IsMeeting r z p) (steps : ℕ) (first second : V2) (way : IsApproach p.steps steps first second) where
    pub first_plain : steps < p.steps → IsPlain first
    first_plain l = subst IsPlain way.behind (met.plain steps (omega arith))

    pub second_plain : steps < p.steps → IsPlain second
    second_plain l = subst IsPlain way.ahead (met.plain (steps + p.steps) (omega arith))

    pub next_approach : first ≢ second → (u w : V2) → u ≡ step_of r first → w ≡ step_of r second → IsApproach p.steps (steps + 1) u w
    next_approach ne u w eu ew = record {
      behind = next_pair steps first u way.behind eu;
      ahead = let e : steps + p.steps + 1 ≡ steps + 1 + p.steps = omega arith in subst (λ k. after k r z ≡ w) e (next_pair (steps + p.steps) second w way.ahead ew);
      least = λ j l. elim (cases_lt j steps) [
        | inl lt ↦ way.least j lt
        | inr ge ↦ λ e. let same : j ≡ steps = omega arith in ne (sym way.behind ∙ subst (λ k. after k r z ≡ after (k + p.steps) r z) same e ∙ way.ahead)
      ];
    }

    pub start_found : steps < p.steps → first ≡ second → IsStart r z p.steps (record { steps = steps; pair = first })
    start_found l e = record { within = omega arith; place = way.behind; returns = way.ahead ∙ sym e; least = way.least }

    pub start_late : p.steps ≤ steps → steps ≤ p.steps → IsStart r z p.steps p
    start_late low high =
        let same : steps ≡ p.steps = omega arith in
        record { within = omega arith; place = met.slower; returns = met.faster; least = subst (λ k. (j : ℕ) → j < k → after j r z ≢ after (j + p.steps) r z) same way.least }

  -- ---- the walk round the loop
  pub record IsRound (l : ℕ) (pair : V2) : Type 0 where
    pub place : after l r z ≡ pair
    pub least : (k : ℕ) → 1 ≤ k → k < l → after k r z ≢ z

  pub first_round : (pair : V2) → pair ≡ step_of r z → IsRound 1 pair
  first_round pair e = record { place = sym e; least = λ k low high. absurd (omega arith) }

  module _ (l : ℕ) (pair : V2) (way : IsRound l pair) where
    pub round_plain : (i : ℕ) → IsPlainBefore r z i → l < i → IsPlain pair
    round_plain i plain h = subst IsPlain way.place (plain l h)

    pub next_round : pair ≢ z → (w : V2) → w ≡ step_of r pair → IsRound (l + 1) w
    next_round ne w e = record {
      place = next_pair l pair w way.place e;
      least = λ k low high. elim (cases_lt k l) [
        | inl lt ↦ way.least k low lt
        | inr ge ↦ λ f. let same : l ≡ k = omega arith in ne (sym way.place ∙ ap (λ j. after j r z) same ∙ f)
      ];
    }

    pub period_found : 1 ≤ l → pair ≡ z → IsPeriod r z l
    period_found h e = record { some_step = h; returns = way.place ∙ e; least = way.least }

    pub period_late : (i : ℕ) → 1 ≤ i → i ≤ l → l ≤ i → after i r z ≡ z → IsPeriod r z i
    period_late i h low high e =
        let same : l ≡ i = omega arith in
        record { some_step = h; returns = e; least = subst (λ k. (j : ℕ) → 1 ≤ j → j < k → after j r z ≢ z) same way.least }
