-- The floors of a form over a region, by its infimum and its supremum, and the steps that they show.
use Rattle.std.proofs.Common.{◌≡◌, ◌⊎◌, inl, inr, ◌^◌, [], ◌∷◌, ℤ, pos, ◌+ℤ◌, ◌-ℤ◌, ◌*ℤ◌, neg_ℤ, ◌≤ℤ◌, ◌<ℤ◌, sym, ap, ap₂, ◌∙◌, subst, arith, lit≤}
use Rattle.std.proofs.lemmas.Int.{by_lt_z}
use Rattle.srs_num.specs.declared.pairs.V2.{V2}
use Rattle.srs_num.specs.Points.{LinearForm, Point, IsPoint, IsNear, IsWithin, value, opposite}
use Rattle.srs_num.specs.Floor.{IsFloor, floor_quotient}
use Rattle.srs_num.proofs.Linear.{linear, nonneg_of_positive, mul_one, mul_mono}
use Rattle.srs_num.proofs.Ring.{v, lit, ◌⊖◌, ◌⊗◌, minus as less, ring}
use Rattle.srs_num.proofs.Floors.{floor_is, floor_greatest}
use Rattle.srs_num.proofs.Ranges.{within_more, within_opposite}
use Rattle.srs_num.proofs.Combinations.{mix}
use Rattle.srs_num.proofs.Identities.{value-opposite}
use Rattle.srs_map.specs.Step.{pair, minus, step_of, IsNarrow}
use Rattle.srs_map.specs.Links.{IsLink}
use Rattle.srs_map.proofs.FormStep.{form, value-flat, step_by_floor, floor_by_step}
use Rattle.srs_map.proofs.StepBounds.{step_floor_within}
use Rattle.srs_plane.specs.Regions.{Area, IsIn}
use Rattle.srs_cell.specs.Bounds.{Takes}
use Rattle.srs_cell.specs.Floors.{form_of, IsLeastFloor}
use Rattle.srs_cell.specs.Moves.{LeadsTo, LeadsBackTo, LinksTo, AreMoves}
use Rattle.srs_cell.proofs.Closed.{mix_in, closed_in}
use Rattle.srs_cell.proofs.Extremes.{middle}
use Rattle.srs_cell.proofs.Reaching.{gap, value-gap, step_up}

-- a number that isn't above a negated one, and one that isn't below it, turned
below_turned : (a b : ℤ) → a ≤ℤ neg_ℤ b → b ≤ℤ neg_ℤ a
below_turned a b h = omega (arith, linear)

above_turned : (a b : ℤ) → neg_ℤ a ≤ℤ b → neg_ℤ b ≤ℤ a
above_turned a b h = omega (arith, linear)

-- the floors of the form over the points of R go from low to high
pub record AreFloors (R : Area) (f : LinearForm) (low high : ℤ) : Type 0 where
  pub least : (z : Point) → IsIn R z → (low *ℤ z.d) ≤ℤ value f z
  pub most : (z : Point) → IsIn R z → value f z <ℤ (high *ℤ z.d +ℤ z.d)
  pub low_point : (z : Point) × IsIn R z × IsFloor (value f z) z.d low
  pub high_point : (z : Point) × IsIn R z × IsFloor (value f z) z.d high

-- k is the floor at a point of R
abbrev pub FloorTaken : Area → LinearForm → ℤ → Type 0
FloorTaken R f k = (z : Point) × IsIn R z × IsFloor (value f z) z.d k

module _ (R : Area) (f : LinearForm) where
  -- each whole number between is the floor at some point
  pub floors_between : (low high k : ℤ) → FloorTaken R f low → FloorTaken R f high → low ≤ℤ k → k ≤ℤ high → FloorTaken R f k
  floors_between low high k u w hl hh =
      by_lt_z low k
      (λ after_low. by_lt_z k high (λ before_high. inner after_low before_high) (λ top. subst (FloorTaken R f) (same k high hh top) w))
      (λ bottom. subst (FloorTaken R f) (same k low bottom hl) u)
    where
      same : (a b : ℤ) → a ≤ℤ b → b ≤ℤ a → b ≡ a
      same a b h g = omega (arith, linear)

      next : (a b : ℤ) → a <ℤ b → (a +ℤ pos 1) ≤ℤ b
      next a b h = omega (arith, linear)

      under : (r x y s t : ℤ) → r ≡ x -ℤ t → x <ℤ y → s ≡ y → s ≤ℤ t → r <ℤ pos 0
      under r x y s t e h g i = omega (arith, linear)

      over : (r x y s t d : ℤ) → r ≡ x -ℤ y → t ≤ℤ x → s ≡ y +ℤ d → s ≤ℤ t → pos 1 ≤ℤ d → pos 0 <ℤ r
      over r x y s t d e h g i j = omega (arith, linear)

      not_below : (a : ℤ) → pos 0 <ℤ a → pos 0 ≤ℤ a
      not_below a h = omega (arith, linear)

      turned : (a : ℤ) → a <ℤ pos 0 → pos 0 <ℤ neg_ℤ a
      turned a h = omega (arith, linear)

      exact : (r x d : ℤ) → r ≡ x -ℤ k *ℤ d → r ≡ pos 0 → pos 1 ≤ℤ d → IsFloor x d k
      exact r x d e z h = record { not_above = meets _ _ _ e z; greatest = before _ _ _ _ e z h }
        where
          meets : (r x y : ℤ) → r ≡ x -ℤ y → r ≡ pos 0 → y ≤ℤ x
          meets r x y e z = omega (arith, linear)

          before : (r x y d : ℤ) → r ≡ x -ℤ y → r ≡ pos 0 → pos 1 ≤ℤ d → x <ℤ (y +ℤ d)
          before r x y d e z h = omega (arith, linear)

      inner : low <ℤ k → k <ℤ high → FloorTaken R f k
      inner after_low before_high =
          let g = gap f k in
          let down = under _ _ _ _ _ (value-gap f k u.0) u.2.greatest (step_up low u.0.d) (mul_mono (low +ℤ pos 1) k u.0.d (nonneg_of_positive _ u.1.is_point) (next low k after_low)) in
          let up = over _ _ _ _ _ w.0.d (value-gap f k w.0) w.2.not_above (step_up k w.0.d) (mul_mono (k +ℤ pos 1) high w.0.d (nonneg_of_positive _ w.1.is_point) (next k high before_high)) w.1.is_point in
          let z = mix (value g w.0) u.0 (neg_ℤ (value g u.0)) w.0 in
          let z_in : IsIn R z = mix_in R (value g w.0) (neg_ℤ (value g u.0)) u.0 w.0 (not_below _ up) (turned _ down) (closed_in R u.0 u.1) w.1 in
          (z, z_in, exact _ _ _ (value-gap f k z) (middle g u.0 w.0 down up) z_in.is_point)

-- ---- the moves
module _ (R : Area) (w : V2) (narrow : IsNarrow w) (near : (r : Point) → IsIn R r → IsNear r) (low high : ℤ) (floors : AreFloors R (form w.a w.b (pos 0)) low high) where
  taken_within : (k : ℤ) (z : Point) → IsIn R z → IsFloor (value (form w.a w.b (pos 0)) z) z.d k → IsWithin (2 ^ 41) k
  taken_within k z z_in floor =
      within_more k (2 ^ 40) (2 ^ 41)
      (step_floor_within z w k z_in.is_point (near z z_in) narrow (subst (λ n. IsFloor n z.d k) (value-flat w.a w.b z) floor))
      (lit≤ tt)

  pub low_within : IsWithin (2 ^ 41) low
  low_within = let p = floors.low_point in taken_within low p.0 p.1 p.2

  pub high_within : IsWithin (2 ^ 41) high
  high_within = let p = floors.high_point in taken_within high p.0 p.1 p.2

  pub moves_are : AreMoves (LeadsTo R) w (neg_ℤ high) (neg_ℤ low)
  moves_are = record {
    each = λ j hl hh.
        let t = floors_between R (form w.a w.b (pos 0)) low high (neg_ℤ j) floors.low_point floors.high_point (below_turned _ _ hh) (above_turned _ _ hl) in
        (t.0, t.1, step_by_floor t.0 w.a w.b j t.1.is_point t.2);
    all = λ j t.
        let floor = floor_by_step t.0 w.a w.b j t.1.is_point t.2 in
        (above_turned _ _ (under_high (neg_ℤ j) t.0 t.1 floor), below_turned _ _ (floor_greatest _ t.0.d low (neg_ℤ j) t.1.is_point floor (floors.least t.0 t.1)));
    low_range = within_opposite high (2 ^ 41) high_within;
    high_range = within_opposite low (2 ^ 41) low_within;
  }
    where
      next : (a b : ℤ) → a <ℤ b → (a +ℤ pos 1) ≤ℤ b
      next a b h = omega (arith, linear)

      clash : (x y s t d : ℤ) → s ≡ y +ℤ d → s ≤ℤ t → t ≤ℤ x → x <ℤ (y +ℤ d) → ⊥
      clash x y s t d e h g i = omega (arith, linear)

      under_high : (k : ℤ) (z : Point) → IsIn R z → IsFloor (value (form w.a w.b (pos 0)) z) z.d k → k ≤ℤ high
      under_high k z z_in floor =
          by_lt_z high k
          (λ lt. absurd (clash (value (form w.a w.b (pos 0)) z) (high *ℤ z.d) ((high +ℤ pos 1) *ℤ z.d) (k *ℤ z.d) z.d (step_up high z.d) (mul_mono (high +ℤ pos 1) k z.d (nonneg_of_positive _ z_in.is_point) (next high k lt)) floor.not_above (floors.most z z_in)))
          (λ h. h)

twice : (x : ℤ) → neg_ℤ (neg_ℤ x) ≡ x
twice x = omega (arith, linear)

-- the moves of the mirrored step, mirrored
pub moves_back : (R : Area) (w : V2) (low high : ℤ) → AreMoves (LeadsTo R) (minus w) low high → AreMoves (LeadsBackTo R) w (neg_ℤ high) (neg_ℤ low)
moves_back R w low high m = record {
  each = λ j hl hh.
      let t = m.each (neg_ℤ j) (below_turned _ _ hh) (above_turned _ _ hl) in
      (t.0, t.1, ap minus t.2 ∙ ap₂ pair (twice w.b) (twice j));
  all = λ j t.
      let k = m.all (neg_ℤ j) (t.0, t.1, sym (twice_pair (step_of t.0 (minus w))) ∙ ap minus t.2) in
      (above_turned _ _ k.1, below_turned _ _ k.0);
  low_range = within_opposite high (2 ^ 41) m.high_range;
  high_range = within_opposite low (2 ^ 41) m.low_range;
}
  where
    twice_pair : (z : V2) → minus (minus z) ≡ z
    twice_pair z = ap₂ pair (twice z.a) (twice z.b)

-- ---- both ends
turned_product : (k d : ℤ) → neg_ℤ k *ℤ d ≡ neg_ℤ (k *ℤ d)
turned_product k d = ring (k ∷ d ∷ []) (less (v 0) ⊗ v 1) (less (v 0 ⊗ v 1)) tt

lowered_product : (k d : ℤ) → (neg_ℤ k -ℤ pos 1) *ℤ d ≡ neg_ℤ (k *ℤ d) -ℤ d
lowered_product k d = ring (k ∷ d ∷ []) ((less (v 0) ⊖ lit (pos 1)) ⊗ v 1) (less (v 0 ⊗ v 1) ⊖ v 1) tt

module _ (R : Area) (f : LinearForm) (k b : ℤ) (ahead : IsLeastFloor R f k) (back : IsLeastFloor R (opposite f) b) where
  -- the form isn't above -b at a point of R
  under_back : (z : Point) → IsIn R z → value f z ≤ℤ (neg_ℤ b *ℤ z.d)
  under_back z z_in = turn _ _ _ _ (value-opposite f z) (turned_product b z.d) (back.bound z z_in)
    where
      turn : (o n s x : ℤ) → o ≡ neg_ℤ n → s ≡ neg_ℤ x → x ≤ℤ o → n ≤ℤ s
      turn o n s x e g h = omega (arith, linear)

  low_floor : FloorTaken R f k
  low_floor = let u = ahead.taken in (u.0, u.1, record { not_above = ahead.bound u.0 u.1; greatest = u.2 })

  -- the point at which the opposite form is least
  back_point : (t : Point) × IsIn R t × (((neg_ℤ b -ℤ pos 1) *ℤ t.d) <ℤ value f t)
  back_point = let t = back.taken in (t.0, t.1, turn _ _ _ _ t.0.d (value-opposite f t.0) (lowered_product b t.0.d) t.2)
    where
      turn : (o n s x d : ℤ) → o ≡ neg_ℤ n → s ≡ neg_ℤ x -ℤ d → o <ℤ (x +ℤ d) → s <ℤ n
      turn o n s x d e g h = omega (arith, linear)

  -- where a point takes -b, that is the greatest floor
  pub floors_with : Takes R (opposite f) b (pos 1) → AreFloors R f k (neg_ℤ b)
  floors_with t =
      let e = level _ _ _ _ _ (mul_one (value (opposite f) t.0)) (value-opposite f t.0) (turned_product b t.0.d) t.2 in
      record {
        least = ahead.bound;
        most = λ z z_in. below _ _ _ (under_back z z_in) z_in.is_point;
        low_point = low_floor;
        high_point = (t.0, t.1, record { not_above = from_equal _ _ e; greatest = below _ _ _ (under_back t.0 t.1) t.1.is_point });
      }
    where
      level : (m o n s x : ℤ) → m ≡ o → o ≡ neg_ℤ n → s ≡ neg_ℤ x → m ≡ x → n ≡ s
      level m o n s x e f g h = omega (arith, linear)

      below : (n x d : ℤ) → n ≤ℤ x → pos 1 ≤ℤ d → n <ℤ (x +ℤ d)
      below n x d h g = omega (arith, linear)

      from_equal : (n x : ℤ) → n ≡ x → x ≤ℤ n
      from_equal n x e = omega (arith, linear)

  -- where none does, the greatest floor is one less
  pub floors_without : (Takes R (opposite f) b (pos 1) → ⊥) → AreFloors R f k (neg_ℤ b -ℤ pos 1)
  floors_without off =
      let most : (z : Point) → IsIn R z → value f z <ℤ ((neg_ℤ b -ℤ pos 1) *ℤ z.d +ℤ z.d) = λ z z_in.
      shifted _ _ _ _ z.d (turned_product b z.d) (lowered_product b z.d)
      (apart _ _ (under_back z z_in) (λ e. off (z, z_in, taken _ _ _ _ _ (mul_one (value (opposite f) z)) (value-opposite f z) (turned_product b z.d) e))) in
      record {
        least = ahead.bound;
        most = most;
        low_point = low_floor;
        high_point = let t = back_point in (t.0, t.1, record { not_above = at_most _ _ t.2; greatest = most t.0 t.1 });
      }
    where
      taken : (m o n s x : ℤ) → m ≡ o → o ≡ neg_ℤ n → s ≡ neg_ℤ x → n ≡ s → m ≡ x
      taken m o n s x e f g h = omega (arith, linear)

      apart : (n s : ℤ) → n ≤ℤ s → (n ≡ s → ⊥) → n <ℤ s
      apart n s h off = by_lt_z n s (λ l. l) (λ g. absurd (off (omega (arith, linear, h, g))))

      shifted : (n s x y d : ℤ) → s ≡ neg_ℤ x → y ≡ neg_ℤ x -ℤ d → n <ℤ s → n <ℤ (y +ℤ d)
      shifted n s x y d e f h = omega (arith, linear)

      at_most : (a b : ℤ) → a <ℤ b → a ≤ℤ b
      at_most a b h = omega (arith, linear)

-- the moves by both least floors
module _ (R : Area) (w : V2) (narrow : IsNarrow w) (near : (r : Point) → IsIn R r → IsNear r) (k b : ℤ) (ahead : IsLeastFloor R (form_of w) k) (back : IsLeastFloor R (opposite (form_of w)) b) where
  pub moves_with : Takes R (opposite (form_of w)) b (pos 1) → AreMoves (LeadsTo R) w b (neg_ℤ k)
  moves_with t = subst (λ x. AreMoves (LeadsTo R) w x (neg_ℤ k)) (twice b) (moves_are R w narrow near k (neg_ℤ b) (floors_with R (form_of w) k b ahead back t))

  pub moves_without : (Takes R (opposite (form_of w)) b (pos 1) → ⊥) → AreMoves (LeadsTo R) w (b +ℤ pos 1) (neg_ℤ k)
  moves_without t = subst (λ x. AreMoves (LeadsTo R) w x (neg_ℤ k)) (next b) (moves_are R w narrow near k (neg_ℤ b -ℤ pos 1) (floors_without R (form_of w) k b ahead back t))
    where
      next : (b : ℤ) → neg_ℤ (neg_ℤ b -ℤ pos 1) ≡ b +ℤ pos 1
      next b = omega (arith, linear)

-- ---- both links
mirrored_value : (w : V2) (r : Point) → value (form (neg_ℤ w.a) (neg_ℤ w.b) (pos 0)) r ≡ neg_ℤ (value (form_of w) r)
unfolding opposite
mirrored_value w r = value-opposite (form_of w) r

twice_pair : (z : V2) → minus (minus z) ≡ z
twice_pair z = ap₂ pair (twice z.a) (twice z.b)

-- the pair (w.b, j) is a link at r exactly where -j is the floor of the value there, or j that of the value negated, as the next three say
link_floor : (R : Area) (w : V2) (j : ℤ) (r : Point) → IsPoint r → IsLink r w (pair w.b j) → IsFloor (value (form_of w) r) r.d (neg_ℤ j) ⊎ IsFloor (neg_ℤ (value (form_of w) r)) r.d j
link_floor R w j r h (inl e) = inl (floor_by_step r w.a w.b j h (sym e))
link_floor R w j r h (inr e) =
    let s : step_of r (minus w) ≡ pair (neg_ℤ w.b) (neg_ℤ j) = sym (twice_pair (step_of r (minus w))) ∙ ap minus (sym e) in
    let floor = floor_by_step r (neg_ℤ w.a) (neg_ℤ w.b) (neg_ℤ j) h s in
    inr (subst (IsFloor (neg_ℤ (value (form_of w) r)) r.d) (twice j) (subst (λ n. IsFloor n r.d (neg_ℤ (neg_ℤ j))) (mirrored_value w r) floor))

ahead_link : (w : V2) (j : ℤ) (r : Point) → IsPoint r → IsFloor (value (form_of w) r) r.d (neg_ℤ j) → IsLink r w (pair w.b j)
ahead_link w j r h f = inl (sym (step_by_floor r w.a w.b j h f))

back_link : (w : V2) (j : ℤ) (r : Point) → IsPoint r → IsFloor (neg_ℤ (value (form_of w) r)) r.d j → IsLink r w (pair w.b j)
back_link w j r h f =
    let floor = subst (λ n. IsFloor n r.d (neg_ℤ (neg_ℤ j))) (sym (mirrored_value w r)) (subst (IsFloor (neg_ℤ (value (form_of w) r)) r.d) (sym (twice j)) f) in
    inr (sym (ap minus (step_by_floor r (neg_ℤ w.a) (neg_ℤ w.b) (neg_ℤ j) h floor) ∙ ap₂ pair (twice w.b) (twice j)))

-- a common factor that is at least 1 keeps the order
factor_order : (a b d : ℤ) → pos 1 ≤ℤ d → (a *ℤ d) ≤ℤ (b *ℤ d) → a ≤ℤ b
factor_order a b d h le = floor_greatest (b *ℤ d) d a b h (record { not_above = same _; greatest = after _ d h }) le
  where
    same : (x : ℤ) → x ≤ℤ x
    same x = omega (arith, linear)

    after : (x d : ℤ) → pos 1 ≤ℤ d → x <ℤ (x +ℤ d)
    after x d h = omega (arith, linear)

module _ (R : Area) (w : V2) (k b : ℤ) (ahead : IsLeastFloor R (form_of w) k) (back : IsLeastFloor R (opposite (form_of w)) b) (kw : IsWithin (2 ^ 41) k) (bw : IsWithin (2 ^ 41) b) where
  -- the value of the opposite form isn't below b
  back_bound : (r : Point) → IsIn R r → (b *ℤ r.d) ≤ℤ neg_ℤ (value (form_of w) r)
  back_bound r r_in = subst (λ n. (b *ℤ r.d) ≤ℤ n) (value-opposite (form_of w) r) (back.bound r r_in)

  through : (x n s y : ℤ) → s ≡ neg_ℤ y → s ≤ℤ n → x ≤ℤ neg_ℤ n → x ≤ℤ y
  through x n s y e h g = omega (arith, linear)

  across : (x n s y : ℤ) → s ≡ neg_ℤ y → y ≤ℤ neg_ℤ n → x ≤ℤ n → x ≤ℤ s
  across x n s y e h g = omega (arith, linear)

  link_within : (j : ℤ) → LinksTo R w (pair w.b j) → (b ≤ℤ j) × (j ≤ℤ neg_ℤ k)
  link_within j l =
      let r = l.0 in
      let h = l.1.is_point in
      elim (link_floor R w j r h l.2) [
        | inl f ↦ (
          factor_order b j r.d h (through _ _ _ _ (turned_product j r.d) f.not_above (back_bound r l.1)),
          below_turned k j (floor_greatest _ r.d k (neg_ℤ j) h f (ahead.bound r l.1)),
        )
        | inr f ↦ (
          floor_greatest _ r.d b j h f (back_bound r l.1),
          below_turned k j (factor_order k (neg_ℤ j) r.d h (across _ _ _ _ (turned_product j r.d) f.not_above (ahead.bound r l.1))),
        )
      ]

  linked : (j : ℤ) → b ≤ℤ j → j ≤ℤ neg_ℤ k → LinksTo R w (pair w.b j)
  linked j low high = by_lt_z b j inner (λ last. subst (λ x. LinksTo R w (pair w.b x)) (same b j low last) end)
    where
      same : (b j : ℤ) → b ≤ℤ j → j ≤ℤ b → b ≡ j
      same b j h g = omega (arith, linear)

      end : LinksTo R w (pair w.b b)
      end =
          let t = back.taken in (
            t.0,
            t.1,
            back_link w b t.0 t.1.is_point (record {
              not_above = back_bound t.0 t.1;
              greatest = subst (λ n. n <ℤ (b *ℤ t.0.d +ℤ t.0.d)) (value-opposite (form_of w) t.0) t.2;
            }),
          )

      inner : b <ℤ j → LinksTo R w (pair w.b j)
      inner after =
          let t = back_point R (form_of w) k b ahead back in
          let n = value (form_of w) t.0 in
          let top = floor_is n t.0.d t.1.is_point in
          let z = floors_between R (form_of w) k (floor_quotient n t.0.d) (neg_ℤ j) (low_floor R (form_of w) k b ahead back) (t.0, t.1, top) (below_turned j k high)
          (floor_greatest n t.0.d (neg_ℤ j) _ t.1.is_point top (reach _ _ _ (mul_mono (neg_ℤ j) (neg_ℤ b -ℤ pos 1) t.0.d (nonneg_of_positive _ t.1.is_point) (before b j after)) t.2)) in
          (z.0, z.1, ahead_link w j z.0 z.1.is_point z.2)
        where
          before : (b j : ℤ) → b <ℤ j → neg_ℤ j ≤ℤ (neg_ℤ b -ℤ pos 1)
          before b j h = omega (arith, linear)

          reach : (x y n : ℤ) → x ≤ℤ y → y <ℤ n → x ≤ℤ n
          reach x y n h g = omega (arith, linear)

  -- both links of w lead to the pairs from the least floor of the opposite form to the least floor negated
  pub links_are : AreMoves (LinksTo R) w b (neg_ℤ k)
  links_are = record { each = linked; all = link_within; low_range = bw; high_range = within_opposite k (2 ^ 41) kw }
