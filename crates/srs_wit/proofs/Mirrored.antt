-- The witnesses are their own mirror image, and the least closed set.
use Rattle.std.proofs.Common.{◌≡◌, inl, inr, ℤ, neg_ℤ, arith, ap, ap₂, sym, ◌∙◌}
use Rattle.srs_num.specs.declared.pairs.V2.{V2}
use Rattle.srs_num.specs.Points.{Point}
use Rattle.srs_num.proofs.Linear.{linear}
use Rattle.srs_map.specs.Step.{pair, minus, step_of}
use Rattle.srs_map.specs.Links.{IsLink, IsUnit, right, left, up, down}
use Rattle.srs_plane.specs.Regions.{Area}
use Rattle.srs_path.specs.Witnesses.{IsWitness, unit, link}
use Rattle.srs_path.proofs.WitnessLemmas.{witness_induction}
use Rattle.srs_wit.specs.Least.{IsClosedUnder}

pub minus_twice : (w : V2) → minus (minus w) ≡ w
minus_twice w = ap₂ pair (twice w.a) (twice w.b)
  where
    twice : (x : ℤ) → neg_ℤ (neg_ℤ x) ≡ x
    twice x = omega (arith, linear)

unit_mirrored : (w : V2) → IsUnit w → IsUnit (minus w)
unit_mirrored w right = left
unit_mirrored w left = right
unit_mirrored w up = down
unit_mirrored w down = up

-- the links of -w are the mirrored links of w
pub link_mirrored : (r : Point) (w v : V2) → IsLink r w v → IsLink r (minus w) (minus v)
link_mirrored r w v (inl e) = inr (ap minus e ∙ ap (λ (x : V2). minus (step_of r x)) (sym (minus_twice w)))
link_mirrored r w v (inr e) = inl (ap minus e ∙ minus_twice (step_of r (minus w)))

pub witness_mirrored : (R : Area) {w : V2} → IsWitness R w → IsWitness R (minus w)
witness_mirrored R (unit {w} h) = unit (unit_mirrored w h)
witness_mirrored R (link {w} {v} r i l h) = link {w = minus w} r i (link_mirrored r w v l) (witness_mirrored R h)

pub witnesses_closed : (R : Area) → IsClosedUnder R (IsWitness R)
witnesses_closed R = record { units = λ w u. unit u; links = λ r i w v h l. link r i l h }

pub witnesses_least : (R : Area) (V : V2 → Type 0) → IsClosedUnder R V → (w : V2) → IsWitness R w → V w
witnesses_least R V c w h = witness_induction R V c.units (λ w v r i l k. c.links r i w v k l) h
