-- How a race, a start and a period tell the end of an orbit.
use Rattle.std.proofs.Common.{◌≡◌, ℕ, ◌+◌, ◌<◌, ◌≤◌, sym, ap, ◌∙◌, subst, arith}
use Rattle.srs_num.specs.declared.pairs.V2.{V2}
use Rattle.srs_num.specs.Points.{Point}
use Rattle.srs_map.specs.Step.{after, origin}
use Rattle.srs_map.specs.Orbits.{IsQuietBefore, IsOrbitEnd}
use Rattle.srs_map.specs.Chase.{IsPlain, IsPlainBefore, IsMeeting, IsFinish, IsStart, IsPeriod}
use Rattle.srs_map.specs.declared.chase.Place.{Place}
use Rattle.srs_map.specs.declared.chase.Finish.TheVariants.{Origin, Beyond, Apart}
use Rattle.srs_map.specs.declared.orbits.OrbitEnd.TheVariants.{Zero, Wide, Loop, Spent}
use Rattle.srs_map.proofs.Cycles.{after-add, quiet_before_event, quiet_before_meeting, quiet_before_loop}

module _ (r : Point) (z : V2) (n : ℕ) where
  pub at_once : z ≡ origin → IsOrbitEnd r z n (Zero 0)
  at_once e = (omega arith, λ i l. absurd (omega arith), e)

  quiet_less : (k m : ℕ) → k ≤ m → IsQuietBefore r z m → IsQuietBefore r z k
  quiet_less k m h quiet i l = quiet i (omega arith)

  quiet_to_zero : (k : ℕ) → IsFinish r z n (Origin k) → IsQuietBefore r z k
  quiet_to_zero k f = quiet_before_event r z k f.1 (λ p. p.not_zero f.2)

  quiet_to_wide : (k : ℕ) → IsFinish r z n (Beyond k) → IsQuietBefore r z k
  quiet_to_wide k f = quiet_before_event r z k f.1 (λ p. f.2 p.narrow)

  pub zero_end : (k : ℕ) → IsFinish r z n (Origin k) → k ≤ n → IsOrbitEnd r z n (Zero k)
  zero_end k f h = (h, quiet_to_zero k f, f.2)

  pub wide_end : (k : ℕ) → IsFinish r z n (Beyond k) → k ≤ n → IsOrbitEnd r z n (Wide k)
  wide_end k f h = (h, quiet_to_wide k f, f.2)

  -- the event comes past n
  pub zero_late : (k : ℕ) → IsFinish r z n (Origin k) → n < k → IsOrbitEnd r z n Spent
  zero_late k f h = quiet_less (n + 1) k (omega arith) (quiet_to_zero k f)

  pub wide_late : (k : ℕ) → IsFinish r z n (Beyond k) → n < k → IsOrbitEnd r z n Spent
  wide_late k f h = quiet_less (n + 1) k (omega arith) (quiet_to_wide k f)

  pub apart_end : IsFinish r z n Apart → IsOrbitEnd r z n Spent
  apart_end f = quiet_before_meeting r z n (λ i l. f.0 i (omega arith)) f.1

  module _ (meeting first : Place) (met : IsMeeting r z meeting) (start : IsStart r z meeting.steps first) where
    from_first : (k : ℕ) → after k r first.pair ≡ after (k + first.steps) r z
    from_first k = ap (after k r) (sym start.place) ∙ sym (after-add k first.steps r z)

    -- what the walk round the loop asks for
    pub round_is_plain : IsPlainBefore r first.pair meeting.steps
    round_is_plain k l =
        let h = start.within in
        subst IsPlain (sym (from_first k)) (met.plain (k + first.steps) (omega arith))

    pub round_comes_back : after meeting.steps r first.pair ≡ first.pair
    round_comes_back =
        let e : meeting.steps + first.steps ≡ first.steps + meeting.steps = omega arith in
        from_first meeting.steps ∙ ap (λ k. after k r z) e ∙ start.returns

    module _ (l : ℕ) (period : IsPeriod r first.pair l) (within : l ≤ meeting.steps) where
      quiet_round : IsQuietBefore r z (first.steps + l)
      quiet_round =
          let h = start.within in
          quiet_before_loop r z meeting.steps first.steps l
          (start.place ∙ sym start.returns)
          start.least
          (λ k low high e. let f : k + first.steps ≡ first.steps + k = omega arith in
          period.least k low high (from_first k ∙ ap (λ j. after j r z) f ∙ sym e ∙ start.place))
          within
          (λ i lt. met.plain i (omega arith))

      pub loop_end : first.steps + l ≤ n → IsOrbitEnd r z n (Loop first.steps l)
      loop_end h =
          let e : first.steps + l ≡ l + first.steps = omega arith in
          (period.some_step, h, quiet_round, ap (λ k. after k r z) e ∙ sym (from_first l) ∙ period.returns ∙ sym start.place)

      pub loop_late : n < first.steps + l → IsOrbitEnd r z n Spent
      loop_late h = quiet_less (n + 1) (first.steps + l) (omega arith) quiet_round
