-- The addition law, and Brunotte's law.
use Rattle.std.proofs.Common.{◌≡◌, ◌⊎◌, inl, inr, ℕ, zero, suc, ◌+◌, [], ◌∷◌, ℤ, pos, negsuc, ◌+ℤ◌, ◌-ℤ◌, ◌*ℤ◌, ◌≤ℤ◌, ◌<ℤ◌, neg_ℤ, arith, ap, ap₂, subst, ◌∙◌, refl}
use Rattle.std.proofs.lemmas.Int.{by_lt_z, ints}
use Rattle.srs_num.specs.declared.pairs.V2.{V2}
use Rattle.srs_num.specs.Points.{Point, IsPoint}
use Rattle.srs_num.specs.Floor.{IsFloor, floor_quotient}
use Rattle.srs_num.proofs.Linear.{linear}
use Rattle.srs_num.proofs.Ring.{v, lit, ◌⊕◌, ◌⊖◌, ◌⊗◌, minus as less, ring}
use Rattle.srs_num.proofs.Floors.{floor_is, floor_unique}
use Rattle.srs_map.specs.Step.{pair, origin, plus, minus, step_of, after}
use Rattle.srs_map.specs.Finiteness.{IsFinite}
use Rattle.srs_map.specs.Links.{IsUnit, IsBrunotteSet, right, left, up, down}
use Rattle.srs_map.proofs.Cycles.{after-add}

-- floor(s + t) is floor(s) + floor(t), or else floor(s) - floor(-t)
floor-sum : (s t d : ℤ) → pos 1 ≤ℤ d → (floor_quotient (s +ℤ t) d ≡ floor_quotient s d +ℤ floor_quotient t d) ⊎ (floor_quotient (s +ℤ t) d ≡ floor_quotient s d -ℤ floor_quotient (neg_ℤ t) d)
floor-sum s t d h =
    at (floor_quotient s d) (floor_quotient t d) (floor_is s d h) (floor_is t d h)
  where
    spread : (k j d : ℤ) → (k +ℤ j) *ℤ d ≡ k *ℤ d +ℤ j *ℤ d
    spread k j d = ring (k ∷ j ∷ d ∷ []) ((v 0 ⊕ v 1) ⊗ v 2) (v 0 ⊗ v 2 ⊕ v 1 ⊗ v 2) tt

    spread_more : (k j d : ℤ) → (k +ℤ j +ℤ pos 1) *ℤ d ≡ k *ℤ d +ℤ j *ℤ d +ℤ d
    spread_more k j d = ring (k ∷ j ∷ d ∷ []) ((v 0 ⊕ v 1 ⊕ lit (pos 1)) ⊗ v 2) (v 0 ⊗ v 2 ⊕ v 1 ⊗ v 2 ⊕ v 2) tt

    spread_less : (j d : ℤ) → (neg_ℤ j -ℤ pos 1) *ℤ d ≡ neg_ℤ (j *ℤ d) -ℤ d
    spread_less j d = ring (j ∷ d ∷ []) ((less (v 0) ⊖ lit (pos 1)) ⊗ v 1) (less (v 0 ⊗ v 1) ⊖ v 1) tt

    even : (x y z s t d : ℤ) → z ≡ x +ℤ y → x ≤ℤ s → y ≤ℤ t → (s +ℤ t) <ℤ (z +ℤ d) → (z ≤ℤ (s +ℤ t)) × ((s +ℤ t) <ℤ (z +ℤ d))
    even x y z s t d e a b c = (omega (arith, linear), c)

    more : (x y z u s t d : ℤ) → z ≡ x +ℤ y → u ≡ x +ℤ y +ℤ d → s <ℤ (x +ℤ d) → t <ℤ (y +ℤ d) → (z +ℤ d) ≤ℤ (s +ℤ t) → (u ≤ℤ (s +ℤ t)) × ((s +ℤ t) <ℤ (u +ℤ d))
    more x y z u s t d e f a b c = (omega (arith, linear), omega (arith, linear))

    other : (x y z u s t d : ℤ) → z ≡ x +ℤ y → u ≡ neg_ℤ y -ℤ d → s <ℤ (x +ℤ d) → t <ℤ (y +ℤ d) → (z +ℤ d) ≤ℤ (s +ℤ t) → (u ≤ℤ neg_ℤ t) × (neg_ℤ t <ℤ (u +ℤ d))
    other x y z u s t d e f a b c = (omega (arith, linear), omega (arith, linear))

    joined : (k j m n : ℤ) → m ≡ k +ℤ j +ℤ pos 1 → n ≡ neg_ℤ j -ℤ pos 1 → m ≡ k -ℤ n
    joined k j m n e f = omega (arith, linear)

    is : (n k : ℤ) → ((k *ℤ d) ≤ℤ n) × (n <ℤ (k *ℤ d +ℤ d)) → floor_quotient n d ≡ k
    is n k e = floor_unique n d (floor_quotient n d) k h (floor_is n d h) (record { not_above = e.0; greatest = e.1 })

    at : (k j : ℤ) → IsFloor s d k → IsFloor t d j → (floor_quotient (s +ℤ t) d ≡ k +ℤ j) ⊎ (floor_quotient (s +ℤ t) d ≡ k -ℤ floor_quotient (neg_ℤ t) d)
    at k j fk fj = by_lt_z (s +ℤ t) ((k +ℤ j) *ℤ d +ℤ d)
        (λ l. inl (is (s +ℤ t) (k +ℤ j) (even _ _ _ s t d (spread k j d) fk.not_above fj.not_above l)))
        (λ g. inr (joined k j _ _
        (is (s +ℤ t) (k +ℤ j +ℤ pos 1) (more _ _ _ _ s t d (spread k j d) (spread_more k j d) fk.greatest fj.greatest g))
        (is (neg_ℤ t) (neg_ℤ j -ℤ pos 1) (other _ _ _ _ s t d (spread k j d) (spread_less j d) fk.greatest fj.greatest g))))

abbrev weigh : Point → V2 → ℤ
weigh r w = r.p *ℤ w.a +ℤ r.q *ℤ w.b

weigh-plus : (r : Point) (z w : V2) → weigh r (plus z w) ≡ weigh r z +ℤ weigh r w
weigh-plus r z w =
    ring (r.p ∷ r.q ∷ z.a ∷ z.b ∷ w.a ∷ w.b ∷ []) (v 0 ⊗ (v 2 ⊕ v 4) ⊕ v 1 ⊗ (v 3 ⊕ v 5)) ((v 0 ⊗ v 2 ⊕ v 1 ⊗ v 3) ⊕ (v 0 ⊗ v 4 ⊕ v 1 ⊗ v 5)) tt

weigh-minus : (r : Point) (w : V2) → weigh r (minus w) ≡ neg_ℤ (weigh r w)
weigh-minus r w = ring (r.p ∷ r.q ∷ w.a ∷ w.b ∷ []) (v 0 ⊗ less (v 2) ⊕ v 1 ⊗ less (v 3)) (less (v 0 ⊗ v 2 ⊕ v 1 ⊗ v 3)) tt

-- the step of z + w is the step of z plus that of w, or plus the other side of that of -w
pub step-plus : (r : Point) (z w : V2) → IsPoint r → (step_of r (plus z w) ≡ plus (step_of r z) (step_of r w)) ⊎ (step_of r (plus z w) ≡ plus (step_of r z) (minus (step_of r (minus w))))
step-plus r z w h =
    elim (floor-sum (weigh r z) (weigh r w) r.d h) [
      | inl e ↦ inl (ap (pair (z.b +ℤ w.b)) (same (floor_quotient (weigh r z) r.d) (floor_quotient (weigh r w) r.d) _ (ap (λ n. floor_quotient n r.d) (weigh-plus r z w) ∙ e)))
      | inr e ↦ inr (ap₂ pair (twice z.b w.b) (other (floor_quotient (weigh r z) r.d) _ _ _ (ap (λ n. floor_quotient n r.d) (weigh-plus r z w) ∙ e) (ap (λ n. floor_quotient n r.d) (weigh-minus r w))))
    ]
  where
    same : (x y z : ℤ) → z ≡ x +ℤ y → neg_ℤ z ≡ neg_ℤ x +ℤ neg_ℤ y
    same x y z e = omega (arith, linear)

    other : (x y z u : ℤ) → z ≡ x -ℤ y → u ≡ y → neg_ℤ z ≡ neg_ℤ x +ℤ neg_ℤ (neg_ℤ u)
    other x y z u e f = omega (arith, linear)

    twice : (x y : ℤ) → x +ℤ y ≡ x +ℤ neg_ℤ (neg_ℤ y)
    twice x y = omega (arith, linear)

abbrev Reaches : Point → V2 → Type 0
Reaches r z = (n : ℕ) × (after n r z ≡ origin)

module _ (r : Point) (V : V2 → Type 0) (h : IsPoint r) (s : IsBrunotteSet r V) where
  -- n steps from z + w lead to the n steps of z and a member
  shifted : (n : ℕ) (z w : V2) → V w → (u : V2) × V u × (after n r (plus z w) ≡ plus (after n r z) u)
  shifted zero z w m = (w, m, refl)
  shifted (suc n) z w m =
      let t = shifted n z w m in
      elim (step-plus r (after n r z) t.0 h) [
        | inl e ↦ (step_of r t.0, s.closed t.0 _ t.1 (inl refl), ap (step_of r) t.2 ∙ e)
        | inr e ↦ (minus (step_of r (minus t.0)), s.closed t.0 _ t.1 (inr refl), ap (step_of r) t.2 ∙ e)
      ]

  zero_plus : (u : V2) → plus origin u ≡ u
  zero_plus u = ap₂ pair (none u.a) (none u.b)
    where
      none : (x : ℤ) → pos 0 +ℤ x ≡ x
      none x = omega (arith, linear)

  reach_plus : (z w : V2) → Reaches r z → V w → Reaches r (plus z w)
  reach_plus z w t m =
      let u = shifted t.0 z w m in
      let e : after t.0 r (plus z w) ≡ u.0 = u.2 ∙ ap (λ x. plus x u.0) t.1 ∙ zero_plus u.0 in
      let f = s.reaches u.0 u.1 in
      (f.0 + t.0, after-add f.0 t.0 r (plus z w) ∙ ap (after f.0 r) e ∙ f.1)

  moved : (z w u : V2) → Reaches r z → IsUnit w → plus z w ≡ u → Reaches r u
  moved z w u t m e = subst (Reaches r) e (reach_plus z w t (s.units w m))

  reach_a : (a : ℤ) → Reaches r (pair a (pos 0))
  reach_a (pos zero) = (0, refl)
  reach_a (pos (suc n)) = moved (pair (pos n) (pos 0)) _ _ (reach_a (pos n)) right (ap₂ pair (omega (arith, ints)) refl)
  reach_a (negsuc zero) = moved origin _ _ (0, refl) left (ap₂ pair refl refl)
  reach_a (negsuc (suc n)) = moved (pair (negsuc n) (pos 0)) _ _ (reach_a (negsuc n)) left (ap₂ pair (omega (arith, ints)) refl)

  reach_b : (a b : ℤ) → Reaches r (pair a b)
  reach_b a (pos zero) = reach_a a
  reach_b a (pos (suc n)) = moved (pair a (pos n)) _ _ (reach_b a (pos n)) up (ap₂ pair (omega (arith, ints)) (omega (arith, ints)))
  reach_b a (negsuc zero) = moved (pair a (pos 0)) _ _ (reach_a a) down (ap₂ pair (omega (arith, ints)) refl)
  reach_b a (negsuc (suc n)) = moved (pair a (negsuc n)) _ _ (reach_b a (negsuc n)) down (ap₂ pair (omega (arith, ints)) (omega (arith, ints)))

  -- Brunotte's law: then every pair reaches (0, 0)
  pub brunotte : IsFinite r
  brunotte z = reach_b z.a z.b
