-- Where a pair recurs the parameter isn't finite, and so the leaves of a certificate separate.
use Rattle.std.proofs.Common.{◌≡◌, ℕ, zero, suc, ◌+◌, ◌-◌, ◌*◌, ◌≤◌, ℤ, pos, ◌+ℤ◌, ◌*ℤ◌, ◌≤ℤ◌, refl, sym, ap, ◌∙◌, arith}
use Rattle.srs_num.proofs.Linear.{linear, mul_zero}
use Rattle.srs_num.specs.declared.pairs.V2.{V2}
use Rattle.srs_num.specs.Floor.{IsFloor}
use Rattle.srs_num.specs.Points.{Point, IsPoint, value}
use Rattle.srs_map.specs.Step.{pair, origin, step_of, after}
use Rattle.srs_map.specs.Finiteness.{IsFinite, Recurs}
use Rattle.srs_map.proofs.Cycles.{after-add, again}
use Rattle.srs_map.proofs.FormStep.{step_by_floor}
use Rattle.srs_path.specs.declared.outcomes.Outcome.{Outcome}
use Rattle.srs_path.specs.declared.outcomes.Outcome.TheVariants.{Inside, Outside}
use Rattle.srs_path.specs.Cutout.{entry_at}
use Rattle.srs_tree.specs.Growth.{IsProvedOf}
use Rattle.srs_tree.proofs.OnePlanLemmas.{place_of}
use Rattle.srs_cert.specs.Certificates.{CertView}
use Rattle.srs_check.specs.Certified.{IsCertified}
use Rattle.srs_check.specs.Proving.{node_region}
use Rattle.srs_check.specs.Separated.{IsInLeafOf, Separates}

zero_floor : (p q d : ℤ) → pos 1 ≤ℤ d → IsFloor (pos 0 *ℤ p +ℤ pos 0 *ℤ q +ℤ pos 0 *ℤ d) d (pos 0)
zero_floor p q d h =
    let u = mul_zero p in
    let v = mul_zero q in
    let w = mul_zero d in
    record { not_above = omega (arith, linear, u, v, w); greatest = omega (arith, linear, u, v, w, h) }

-- m steps are no more than m turns of at least one step
turns : (m n : ℕ) → 1 ≤ n → m * n ≡ m * n - m + m
turns m zero h = absurd (omega (arith, h))
turns m (suc n) h = omega arith

module _ (r : Point) (h : IsPoint r) where
  -- (0, 0) stays
  step_origin : step_of r origin ≡ origin
  unfolding value
  step_origin = step_by_floor r (pos 0) (pos 0) (pos 0) h (zero_floor r.p r.q r.d h)

  stays : (k : ℕ) → after k r origin ≡ origin
  stays zero = refl
  stays (suc k) = ap (step_of r) (stays k) ∙ step_origin

  pub not_finite : (z : V2) (n : ℕ) → Recurs r z n → IsFinite r → ⊥
  not_finite z n c finite =
      let m = (finite z).0 in
      let enough = turns m n c.some_step in
      let none : n ≡ n + 0 = omega arith in
      let back : z ≡ after (m * n + 0) r z = again r z 0 n m (sym c.returns ∙ ap (λ (k : ℕ). after k r z) none) in
      let same : m * n + 0 ≡ m * n - m + m = omega (arith, enough) in
      let there : after (m * n + 0) r z ≡ origin =
      ap (λ (k : ℕ). after k r z) same ∙ after-add (m * n - m) m r z ∙ ap (after (m * n - m) r) (finite z).1 ∙ stays (m * n - m) in
      c.not_zero (back ∙ there)

module _ (c : CertView) (certified : IsCertified c) where
  sound_in : (o : Outcome) (r : Point) (at : IsInLeafOf c o r) → IsProvedOf (node_region c at.path) o
  sound_in o r at = let place = place_of c.events at.path o at.has in certified.sound place.0 (record { path = at.path; outcome = o }) place.1

  pub separates : Separates c
  separates = record {
    outside = λ cycle r at finite. not_finite r at.holds.point.is_point (pair (entry_at cycle 0) (entry_at cycle 1)) _ (sound_in (Outside cycle) r at r at.holds.point) finite;
    inside = λ ranks r at. sound_in (Inside ranks) r at r at.holds.point;
  }
