-- The step that a form shows.
use Rattle.std.proofs.Common.{◌≡◌, [], ◌∷◌, ℤ, pos, ◌+ℤ◌, ◌-ℤ◌, ◌*ℤ◌, ◌≤ℤ◌, ◌<ℤ◌, neg_ℤ, arith, ap, sym, subst, ◌∙◌}
use Rattle.srs_num.specs.declared.pairs.V2.{V2}
use Rattle.srs_num.specs.Points.{Point, IsPoint, LinearForm, value}
use Rattle.srs_num.specs.Floor.{IsFloor, floor_quotient}
use Rattle.srs_num.proofs.Linear.{linear}
use Rattle.srs_num.proofs.Ring.{v, lit, ◌⊕◌, ◌⊖◌, ◌⊗◌, minus, ring}
use Rattle.srs_num.proofs.Floors.{floor_is, floor_unique}
use Rattle.srs_map.specs.Step.{pair, step_of}

abbrev pub form : ℤ → ℤ → ℤ → LinearForm
form a b c = record { a = a; b = b; c = c }

-- the sum whose floor a step takes is the value of the form (a, b, 0)
pub value-flat : (a b : ℤ) (r : Point) → value (form a b (pos 0)) r ≡ r.p *ℤ a +ℤ r.q *ℤ b
unfolding value
value-flat a b r = ring (a ∷ b ∷ r.p ∷ r.q ∷ r.d ∷ []) (v 0 ⊗ v 2 ⊕ v 1 ⊗ v 3 ⊕ lit (pos 0) ⊗ v 4) (v 2 ⊗ v 0 ⊕ v 3 ⊗ v 1) tt

value-lifted : (a b c : ℤ) (r : Point) → value (form a b c) r ≡ value (form a b (pos 0)) r -ℤ neg_ℤ c *ℤ r.d
unfolding value
value-lifted a b c r =
    ring (a ∷ b ∷ c ∷ r.p ∷ r.q ∷ r.d ∷ [])
    (v 0 ⊗ v 3 ⊕ v 1 ⊗ v 4 ⊕ v 2 ⊗ v 5) ((v 0 ⊗ v 3 ⊕ v 1 ⊗ v 4 ⊕ lit (pos 0) ⊗ v 5) ⊖ minus (v 2) ⊗ v 5) tt

value-lowered : (a b c : ℤ) (r : Point) → value (form a b (c -ℤ pos 1)) r ≡ value (form a b (pos 0)) r -ℤ neg_ℤ c *ℤ r.d -ℤ r.d
unfolding value
value-lowered a b c r =
    ring (a ∷ b ∷ c ∷ r.p ∷ r.q ∷ r.d ∷ [])
    (v 0 ⊗ v 3 ⊕ v 1 ⊗ v 4 ⊕ (v 2 ⊖ lit (pos 1)) ⊗ v 5) ((v 0 ⊗ v 3 ⊕ v 1 ⊗ v 4 ⊕ lit (pos 0) ⊗ v 5) ⊖ minus (v 2) ⊗ v 5 ⊖ v 5) tt

-- the step takes (a, b) to (b, k) exactly where -k is the floor of the value of the form (a, b, 0), as the next two say
pub step_by_floor : (r : Point) (a b k : ℤ) → IsPoint r → IsFloor (value (form a b (pos 0)) r) r.d (neg_ℤ k) → step_of r (pair a b) ≡ pair b k
step_by_floor r a b k h f =
    let n = value (form a b (pos 0)) r in
    let e : floor_quotient n r.d ≡ neg_ℤ k = floor_unique n r.d (floor_quotient n r.d) (neg_ℤ k) h (floor_is n r.d h) f in
    ap (pair b) (back _ k (ap (λ m. floor_quotient m r.d) (sym (value-flat a b r)) ∙ e))
  where
    back : (x k : ℤ) → x ≡ neg_ℤ k → neg_ℤ x ≡ k
    back x k e = omega (arith, linear)

pub floor_by_step : (r : Point) (a b k : ℤ) → IsPoint r → step_of r (pair a b) ≡ pair b k → IsFloor (value (form a b (pos 0)) r) r.d (neg_ℤ k)
floor_by_step r a b k h e =
    let n = value (form a b (pos 0)) r in
    let g : floor_quotient n r.d ≡ neg_ℤ k = ap (λ m. floor_quotient m r.d) (value-flat a b r) ∙ back _ k (ap (λ (w : V2). w.b) e) in
    subst (IsFloor n r.d) g (floor_is n r.d h)
  where
    back : (x k : ℤ) → neg_ℤ x ≡ k → x ≡ neg_ℤ k
    back x k e = omega (arith, linear)

-- the step takes (a, b) to (b, c) exactly where the form (a, b, c) isn't negative and (a, b, c - 1) is, as the next two say
pub step_by_forms : (r : Point) (a b c : ℤ) → IsPoint r → pos 0 ≤ℤ value (form a b c) r → value (form a b (c -ℤ pos 1)) r <ℤ pos 0 → step_of r (pair a b) ≡ pair b c
step_by_forms r a b c h low high =
    step_by_floor r a b c h (record {
      not_above = under _ _ _ low (value-lifted a b c r);
      greatest = over _ _ _ _ high (value-lowered a b c r);
    })
  where
    under : (x y z : ℤ) → pos 0 ≤ℤ x → x ≡ y -ℤ z → z ≤ℤ y
    under x y z h e = omega (arith, linear)

    over : (x y z d : ℤ) → x <ℤ pos 0 → x ≡ y -ℤ z -ℤ d → y <ℤ (z +ℤ d)
    over x y z d h e = omega (arith, linear)

pub forms_by_step : (r : Point) (a b c : ℤ) → IsPoint r → step_of r (pair a b) ≡ pair b c → (pos 0 ≤ℤ value (form a b c) r) × (value (form a b (c -ℤ pos 1)) r <ℤ pos 0)
forms_by_step r a b c h e =
    let f = floor_by_step r a b c h e in
    (under _ _ _ f.not_above (value-lifted a b c r), over _ _ _ _ f.greatest (value-lowered a b c r))
  where
    under : (x y z : ℤ) → z ≤ℤ y → x ≡ y -ℤ z → pos 0 ≤ℤ x
    under x y z h e = omega (arith, linear)

    over : (x y z d : ℤ) → y <ℤ (z +ℤ d) → x ≡ y -ℤ z -ℤ d → x <ℤ pos 0
    over x y z d h e = omega (arith, linear)
